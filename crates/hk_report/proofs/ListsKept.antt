-- What a Put, an Add, a P or a V changes keeps its list.
use Rattle.std.proofs.Common.{◌≡◌, List, [], ◌∷◌, Bool, true, false, Option, Some, None, Ok, Err, refl, sym, ◌∙◌, ap, subst, cond}
use Rattle.std.specs.Prelude.{IfOk, nat_lt, ◌⊎◌, ◌+◌, ◌-◌, ◌++◌, ℕ}
use mathlib.Core.Logic.{inl, inr}
use Rattle.std.specs.Option.{unwrap_or}
use Rattle.std.specs.Map.{set_value}
use Rattle.hk_model.specs.declared.names.Name.{Name}
use Rattle.hk_model.specs.declared.names.Inc.{Inc}
use Rattle.hk_model.specs.declared.names.Proc.{Proc}
use Rattle.hk_model.specs.declared.entries.Cap.{Cap}
use Rattle.hk_model.specs.declared.calls.Call.{Call}
use Rattle.hk_model.specs.declared.calls.Call.TheVariants as call
use Rattle.hk_model.specs.declared.calls.Refusal.TheVariants as refused
use Rattle.hk_model.specs.declared.calls.What8.TheVariants as full
use Rattle.hk_model.specs.declared.calls.Answer.{Answer}
use Rattle.hk_model.specs.declared.calls.Answer.TheVariants.{Done, Waits}
use Rattle.hk_model.specs.declared.lines.What.TheVariants as what
use Rattle.hk_model.specs.declared.lines.Line.{Line}
use Rattle.hk_model.specs.declared.objects.Object.{Object}
use Rattle.hk_model.specs.declared.objects.ProcessState.TheVariants.{Waiting}
use Rattle.hk_model.specs.Limits.{token_limit}
use Rattle.hk_model.specs.State.{State, object, process, put_object, put_process, same_name, no_object}
use Rattle.hk_model.specs.Keeping.{kept_objects}
use Rattle.hk_model.specs.Refusing.{unless}
use Rattle.hk_model.specs.Targets.{SEMAPHORE, is_of_type, MODIFY+A0, target}
use Rattle.hk_model.specs.Rule.{Outcome, outcome, settled, token_given, put_word, add_word, take_token, give_token}
use Rattle.hk_model.specs.Lines.{done_by, done_call, changed_by, changed}
use Rattle.hk_model.specs.Effects.{there}
use Rattle.hk_model.proofs.TestLemmas.{then_is, and_is}
use Rattle.hk_model.proofs.Keeping.{IsLost, kept_vanish, stays_or_lost}
use Rattle.hk_model.proofs.LineWays.{answered_done}
use Rattle.hk_model.proofs.Steps.{EachStep}
use Rattle.hk_report.specs.Named.{lists_path}

-- an object that stands before and behind has the list that it had
abbrev pub HasKept : State → List (Name × Object) → Name → Type 0
HasKept s objects x = (before after : Object) → there s.objects x ≡ Some before → there objects x ≡ Some after → after.entries ≡ before.entries

same_entries : (a b : Object) → ◌≡◌ {A = Option Object} (Some a) (Some b) → b.entries ≡ a.entries
same_entries a b h = cc

-- where an object is set that has the list of the one before
kept_in : (es : List (Name × Object)) (name x : Name) (o before after : Object) → o.entries ≡ (unwrap_or (there es name) no_object).entries → there es x ≡ Some before
    → there (set_value (same_name name) es o) x ≡ Some after → after.entries ≡ before.entries
kept_in [] name x o before after same was is = absurd (cc)
kept_in (e ∷ es) name x o before after same was is = by (same_name name e.0) (same_name x e.0) refl same was is (kept_in es name x o before after)
  where
    by : (b d : Bool) → same_name x e.0 ≡ d → o.entries ≡ (unwrap_or (cond b (Some e.1) (there es name)) no_object).entries → cond d (Some e.1) (there es x) ≡ Some before
        → there (cond b ((e.0, o) ∷ es) (e ∷ set_value (same_name name) es o)) x ≡ Some after
        → (o.entries ≡ (unwrap_or (there es name) no_object).entries → there es x ≡ Some before → there (set_value (same_name name) es o) x ≡ Some after → after.entries ≡ before.entries)
        → after.entries ≡ before.entries
    by true true g s w i later = same_entries o after (sym (ap (λ (t : Bool). cond t (Some o) (there es x)) g) ∙ i) ∙ s ∙ same_entries before e.1 (sym w)
    by true false g s w i later = same_entries before after (sym w ∙ (sym (ap (λ (t : Bool). cond t (Some o) (there es x)) g) ∙ i))
    by false true g s w i later = same_entries before after (sym w ∙ (sym (ap (λ (t : Bool). cond t (Some e.1) (there (set_value (same_name name) es o) x)) g) ∙ i))
    by false false g s w i later = later s w (sym (ap (λ (t : Bool). cond t (Some e.1) (there (set_value (same_name name) es o) x)) g) ∙ i)

module _ (s : State) (inc : Inc) (x : Name) where
  abbrev KeepsBy : Outcome → Type 0
  KeepsBy o = IfOk o (λ f. HasKept s f.1.objects x)

  kept_object : (name : Name) (o : Object) → o.entries ≡ (object s name).entries → HasKept s (set_value (same_name name) s.objects o) x
  kept_object name o same before after was is = kept_in s.objects name x o before after same was is

  put_keeps : (path : List ℕ) (at word : ℕ) → KeepsBy (put_word s inc path at word)
  unfolding put_word
  put_keeps path at word = search (then_is, and_is, kept_object)

  add_keeps : (path : List ℕ) (word : ℕ) → KeepsBy (add_word s inc path word)
  unfolding add_word
  add_keeps path word = search (then_is, and_is, kept_object)

  take_keeps : (proc : Proc) (path : List ℕ) → KeepsBy (take_token s proc inc path)
  unfolding take_token
  take_keeps proc path =
      then_is (λ f. HasKept s f.1.objects x) (target s inc path (is_of_type SEMAPHORE) MODIFY+A0) (λ c. Ok (elim (nat_lt 0 (object s c.name).count) [
        | true ↦ (Done, put_object s c.name (record (object s c.name) { count = (object s c.name).count - 1 }))
        | false ↦ (
          Waits,
          put_process (put_object s c.name (record (object s c.name) { waiters = (object s c.name).waiters ++ proc ∷ [] })) proc
              (record (process s proc) { run = Waiting c.name }),
        )
      ])) (λ c g. by c (nat_lt 0 (object s c.name).count))
    where
      by : (c : Cap) (b : Bool) → HasKept s (elim b as (λ t. Answer × State) [
        | true ↦ (Done, put_object s c.name (record (object s c.name) { count = (object s c.name).count - 1 }))
        | false ↦ (
          Waits,
          put_process (put_object s c.name (record (object s c.name) { waiters = (object s c.name).waiters ++ proc ∷ [] })) proc
              (record (process s proc) { run = Waiting c.name }),
        )
      ]).1.objects x
      by c true = kept_object c.name (record (object s c.name) { count = (object s c.name).count - 1 }) refl
      by c false = kept_object c.name (record (object s c.name) { waiters = (object s c.name).waiters ++ proc ∷ [] }) refl

  token_keeps : (name : Name) (waiters : List Proc) → KeepsBy (token_given s name (object s name) waiters)
  token_keeps name [] =
      and_is (λ f. HasKept s f.1.objects x) (unless (nat_lt (object s name).count token_limit) (refused.Full full.Tokens))
      (Ok (Done, put_object s name (record (object s name) { count = (object s name).count + 1 })))
      (λ u h. kept_object name (record (object s name) { count = (object s name).count + 1 }) refl)
  token_keeps name (first ∷ rest) = kept_object name (record (object s name) { waiters = rest }) refl

  give_keeps : (path : List ℕ) → KeepsBy (give_token s inc path)
  unfolding give_token
  give_keeps path = search (then_is, token_keeps)

  -- a call that is told to change an object, and no list
  outcome_keeps : (proc : Proc) (c : Call) → lists_path (Some c) ≡ None → changed_by s inc (Some c) ≡ Some x → KeepsBy (outcome s proc inc c)
  outcome_keeps proc (call.Put of at word) none told = put_keeps of at word
  outcome_keeps proc (call.Add of word) none told = add_keeps of word
  outcome_keeps proc (call.P of) none told = take_keeps proc of
  outcome_keeps proc (call.V of) none told = give_keeps of
  outcome_keeps proc (call.Store list at from) none told = absurd (cc)
  outcome_keeps proc (call.Append list from) none told = absurd (cc)
  outcome_keeps proc (call.Erase list at) none told = absurd (cc)
  outcome_keeps proc (call.Get of at) none told = absurd (cc)
  outcome_keeps proc (call.Length of) none told = absurd (cc)
  outcome_keeps proc (call.Load from into) none told = absurd (cc)
  outcome_keeps proc (call.Drop slot) none told = absurd (cc)
  outcome_keeps proc (call.Restrict slot keep) none told = absurd (cc)
  outcome_keeps proc (call.Look of) none told = absurd (cc)
  outcome_keeps proc (call.MakeTemplate of kind into) none told = absurd (cc)
  outcome_keeps proc (call.Create by into) none told = absurd (cc)
  outcome_keeps proc (call.Merge with c into) none told = absurd (cc)
  outcome_keeps proc (call.Copy of into) none told = absurd (cc)
  outcome_keeps proc (call.Enter path args into) none told = absurd (cc)
  outcome_keeps proc (call.Leave give) none told = absurd (cc)
  outcome_keeps proc call.Yield none told = absurd (cc)

-- and then objects vanish
settled_keeps : (s : State) (o : Outcome) (x : Name) → IfOk o (λ f. HasKept s f.1.objects x) → HasKept s (settled s o).1.objects x
settled_keeps s (Ok f) x h before after was is = by (stays_or_lost f.1 (kept_objects f.1) (kept_vanish f.1) x)
  where
    by : (there (kept_objects f.1) x ≡ there f.1.objects x) ⊎ IsLost f.1 (kept_objects f.1) x → after.entries ≡ before.entries
    by (inl e) = h before after was (sym e ∙ is)
    by (inr l) = let clash : None ≡ Some after = sym l.gone ∙ is in absurd (cc)
settled_keeps s (Err e) x h before after was is = same_entries before after (sym was ∙ is)

-- where a line is told to change an object, and no list, the object's list stays
abbrev pub KeepsLists : State → Line → State → Type 0
KeepsLists s line t = lists_path (done_call line) ≡ None → (x : Name) → changed s line ≡ Some x → HasKept s t.objects x

call_keeps : (s : State) (inc : Inc) (c : Call) (o : Outcome) → ((x : Name) → lists_path (Some c) ≡ None → changed_by s inc (Some c) ≡ Some x → IfOk o (λ f. HasKept s f.1.objects x))
    → lists_path (done_by (what.Call c) (settled s o).0) ≡ None → (x : Name) → changed_by s inc (done_by (what.Call c) (settled s o).0) ≡ Some x → HasKept s (settled s o).1.objects x
call_keeps s inc c (Ok f) h none x told =
    settled_keeps s (Ok f) x
    (h x (subst (λ (d : Option Call). lists_path d ≡ None) (answered_done c f.0) none) (subst (λ (d : Option Call). changed_by s inc d ≡ Some x) (answered_done c f.0) told))
call_keeps s inc c (Err e) h none x told = settled_keeps s (Err e) x tt

pub lists_each : EachStep KeepsLists
lists_each = record {
  calls = λ s cpu proc c r. call_keeps s (process s proc).current c (outcome s proc (process s proc).current c) (λ x. outcome_keeps s (process s proc).current x proc c);
  halts = λ s cpu proc r none x told. absurd (cc);
  dispatches = λ s cpu first rest r none x told. absurd (cc);
}
