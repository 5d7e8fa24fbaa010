-- Each object keeps its kind; but one that is new, which is no procedure, and one of those that were made, which may go.
use Rattle.std.proofs.Common.{◌≡◌, ℕ, ◌+◌, ◌-◌, List, [], ◌∷◌, ◌++◌, length, Bool, true, false, Option, Some, None, Ok, Err, refl, sym, ◌∙◌, ap, arith, cond, subst}
use Rattle.std.specs.Prelude.{IfOk, nat_lt, not, ◌==◌, ◌||◌, ◌⊎◌}
use mathlib.Core.Logic.{inl, inr}
use Rattle.std.proofs.lemmas.Bool.{false≢true}
use Rattle.std.specs.Option.{unwrap_or}
use Rattle.std.specs.Map.{lookup, set_value, remove_entry}
use Rattle.std.proofs.lemmas.Bool.Decides.{nat_tests}
use Rattle.hk_model.specs.declared.names.Name.{Name}
use Rattle.hk_model.specs.declared.names.Inc.{Inc}
use Rattle.hk_model.specs.declared.names.Proc.{Proc}
use Rattle.hk_model.specs.declared.names.Slot.{Slot}
use Rattle.hk_model.specs.declared.entries.Cap.{Cap}
use Rattle.hk_model.specs.declared.entries.Entry.{Entry}
use Rattle.hk_model.specs.declared.entries.Entry.TheVariants.{Held}
use Rattle.hk_model.specs.declared.calls.Call.{Call}
use Rattle.hk_model.specs.declared.calls.Call.TheVariants as call
use Rattle.hk_model.specs.declared.calls.Refusal.{Refusal}
use Rattle.hk_model.specs.declared.calls.Refusal.TheVariants as refused
use Rattle.hk_model.specs.declared.calls.What8.TheVariants as full
use Rattle.hk_model.specs.declared.calls.Answer.{Answer}
use Rattle.hk_model.specs.declared.calls.Answer.TheVariants.{Done, Waits}
use Rattle.hk_model.specs.declared.objects.Object.{Object}
use Rattle.hk_model.specs.declared.objects.ProcessState.TheVariants.{Waiting}
use Rattle.hk_rights.specs.Rights.{COPY}
use Rattle.hk_model.specs.Limits.{token_limit}
use Rattle.hk_model.specs.State.{State, object, process, put_object, put_process, put_slot, same_name, same_inc, name_cmp, no_object}
use Rattle.hk_model.specs.Keeping.{is_opening, kept_objects, restricted}
use Rattle.hk_model.specs.Effects.{IsSameKind}
use Rattle.hk_model.specs.Refusing.{unless}
use Rattle.hk_model.specs.Walking.{walk}
use Rattle.hk_model.specs.Targets.{slot_at, create_form, last_step, SEMAPHORE, PROCEDURE, PROCESS, LNS, is_of_type, is_general, MODIFY+A0, target}
use Rattle.hk_model.specs.Rule.{Outcome, outcome, counted, leave_to, token_given, plain_object, can_be_created, room_made, add_beside, get_word, put_word, add_word, word_count}
use Rattle.hk_model.specs.Rule.{load_entry, store_entry, append_entry, erase_entry, drop_slot, restrict_slot, look, make_template, create_object, merge_cap, copy_object}
use Rattle.hk_model.specs.Rule.{enter_procedure, leave, take_token, give_token}
use Rattle.hk_model.specs.Processors.{ended}
use Rattle.hk_model.proofs.Standing.{name_laws, on_cond, insert_holds}
use Rattle.hk_model.proofs.Keeping.{Vanish, IsLost, kept_vanish, stays_or_lost}
use Rattle.hk_model.proofs.CallWays.{room_vanish}
use Rattle.hk_model.proofs.TestLemmas.{then_is, and_is, unless_is}
use Rattle.hk_model.proofs.WalkLemmas.{target_is}
use Rattle.hk_model.proofs.KindsStay.{kind_self}
use Rattle.hk_model.proofs.Steps.{EachStep, settled_keeps}

-- a new object takes the next name, and is no procedure
abbrev pub IsNewKind : State → Name → Object → Type 0
IsNewKind s q o = (same_name q s.next_name ≡ true) × (is_of_type PROCEDURE o.of ≡ false)

-- an object that is none of the opening has gone
abbrev pub IsGone : State → Name → Object → Type 0
IsGone s q o = (is_opening s q ≡ false) × (o ≡ no_object)

-- what is there now under a name: an object of the same kind, a new one, or none where the object was made
abbrev pub KeepsKind : State → Name → Object → Type 0
KeepsKind s q o = IsSameKind (object s q) o ⊎ (IsNewKind s q o ⊎ IsGone s q o)

-- from one state to another each object keeps its kind, and the opening is the same
pub record Steady (s t : State) : Type 0 where
  pub first : t.first_new ≡ s.first_new
  pub kinds : (q : Name) → KeepsKind s q (object t q)

abbrev found_in : Name → List (Name × Object) → Object
found_in q os = unwrap_or (lookup (same_name q) os) no_object

set_kind : (k q : Name) (os : List (Name × Object)) (o : Object) → IsSameKind (found_in k os) o → IsSameKind (found_in q os) (found_in q (set_value (same_name k) os o))
set_kind k q [] o h = kind_self no_object
set_kind k q (e ∷ os) o h =
    on_cond (λ l. IsSameKind (found_in q (e ∷ os)) (found_in q l)) (same_name k e.0) ((e.0, o) ∷ os) (e ∷ set_value (same_name k) os o)
    (λ g. here (same_name q e.0) (rw g at h))
    (λ g. there (same_name q e.0) (set_kind k q os o (rw g at h)))
  where
    here : (b : Bool) → IsSameKind e.1 o
        → IsSameKind (unwrap_or (cond b (Some e.1) (lookup (same_name q) os)) no_object) (unwrap_or (cond b (Some o) (lookup (same_name q) os)) no_object)
    here true g = g
    here false g = kind_self (found_in q os)

    there : (b : Bool) → IsSameKind (found_in q os) (found_in q (set_value (same_name k) os o))
        → IsSameKind (unwrap_or (cond b (Some e.1) (lookup (same_name q) os)) no_object)
        (unwrap_or (cond b (Some e.1) (lookup (same_name q) (set_value (same_name k) os o))) no_object)
    there true g = kind_self e.1
    there false g = g

-- another object of the same kind
put_steady : (s : State) (name : Name) (o : Object) → IsSameKind (object s name) o → Steady s (put_object s name o)
put_steady s name o h = record { first = refl; kinds = λ q. inl (set_kind name q s.objects o h) }

-- where objects vanish, each of the opening stays
left_kind : (s : State) (objects : List (Name × Object)) → Vanish s objects → (q : Name) → (found_in q objects ≡ object s q) ⊎ IsGone s q (found_in q objects)
left_kind s objects v q = by (stays_or_lost s objects v q)
  where
    by : (lookup (same_name q) objects ≡ lookup (same_name q) s.objects) ⊎ IsLost s objects q → (found_in q objects ≡ object s q) ⊎ IsGone s q (found_in q objects)
    by (inl e) = inl (ap (λ (o : Option Object). unwrap_or o no_object) e)
    by (inr l) = inr (l.made, ap (λ (o : Option Object). unwrap_or o no_object) l.gone)

same_kind : (a b : Object) → b ≡ a → IsSameKind a b
same_kind a b e = subst (IsSameKind a) (sym e) (kind_self a)

-- one more object, beside those that stay
add_steady : (s : State) (room : List (Name × Object)) (o : Object) → Vanish s room → is_of_type PROCEDURE o.of ≡ false → Steady s (add_beside s room o)
add_steady s room o v new = record { first = refl; kinds = kinds }
  where
    kinds : (q : Name) → KeepsKind s q (object (add_beside s room o) q)
    kinds q =
        insert_holds name_cmp name_laws (λ b x. IsSameKind (object s q) x ⊎ (((b ≡ true) × (is_of_type PROCEDURE x.of ≡ false)) ⊎ IsGone s q x)) s.next_name q room o no_object
        (inr (inl (refl, new))) (by (left_kind s room v q))
      where
        by : (found_in q room ≡ object s q) ⊎ IsGone s q (found_in q room)
            → IsSameKind (object s q) (found_in q room) ⊎ (((false ≡ true) × (is_of_type PROCEDURE (found_in q room).of ≡ false)) ⊎ IsGone s q (found_in q room))
        by (inl e) = inl (same_kind (object s q) (found_in q room) e)
        by (inr h) = inr (inr h)

steady_self : (s t : State) → t.objects ≡ s.objects → t.first_new ≡ s.first_new → Steady s t
steady_self s t h f = record { first = f; kinds = λ q. inl (rw h (kind_self (object s q))) }

-- each call
abbrev StaysSteady : State → Outcome → Type 0
StaysSteady s o = IfOk o (λ f. Steady s f.1)

words_steady : (s : State) (name : Name) (words : List ℕ) → Steady s (put_object s name (record (object s name) { words = words }))
words_steady s name words = put_steady s name (record (object s name) { words = words }) (record { of = refl; code = refl; params = refl })

entries_steady : (s : State) (name : Name) (entries : List Entry) → Steady s (put_object s name (record (object s name) { entries = entries }))
entries_steady s name entries = put_steady s name (record (object s name) { entries = entries }) (record { of = refl; code = refl; params = refl })

count_steady : (s : State) (name : Name) (n : ℕ) → Steady s (put_object s name (record (object s name) { count = n }))
count_steady s name n = put_steady s name (record (object s name) { count = n }) (record { of = refl; code = refl; params = refl })

waiters_steady : (s : State) (name : Name) (ps : List Proc) → Steady s (put_object s name (record (object s name) { waiters = ps }))
waiters_steady s name ps = put_steady s name (record (object s name) { waiters = ps }) (record { of = refl; code = refl; params = refl })

slot_steady : (s : State) (inc : Inc) (slot : ℕ) (e : Entry) → Steady s (put_slot s inc slot e)
slot_steady s inc slot e = steady_self s (put_slot s inc slot e) refl refl

created_kind : (of : Name) (r : Refusal) (u : Unit {0}) → unless (can_be_created of) r ≡ Ok u → is_of_type PROCEDURE of ≡ false
created_kind of r u h = by (of.0 == PROCEDURE) (unless_is (can_be_created of) r u h)
  where
    by : (b : Bool) → not (b || of.0 == PROCESS || of.0 == LNS) ≡ true → b ≡ false
    by true g = absurd (false≢true g)
    by false g = refl

general_kind : (of : Name) → is_general of ≡ true → is_of_type PROCEDURE of ≡ false
general_kind of h = grind (arith, nat_tests)

-- the same with what is put into a slot besides
slotted : (s t : State) (inc : Inc) (slot : ℕ) (e : Entry) → Steady s t → Steady s (put_slot t inc slot e)
slotted s t inc slot e h = record { first = h.first; kinds = h.kinds }

created_steady : (s : State) (inc : Inc) (slot : ℕ) (form : Name × ℕ) (r : Refusal) (u : Unit {0}) (room : List (Name × Object)) → unless (can_be_created form.0) r ≡ Ok u
    → room_made s ≡ Ok room
    → Steady s (put_slot (add_beside s room (plain_object form.0 [] [])) inc slot (Held (record { name = s.next_name; rights = form.1 })))
created_steady s inc slot form r u room h g =
    slotted s (add_beside s room (plain_object form.0 [] [])) inc slot (Held (record { name = s.next_name; rights = form.1 }))
    (add_steady s room (plain_object form.0 [] []) (room_vanish s room g) (created_kind form.0 r u h))

copied_steady : (s : State) (inc : Inc) (path : List ℕ) (slot : ℕ) (cap : Cap) (room : List (Name × Object)) (words : List ℕ) (es : List Entry) (e : Entry)
    → target s inc path is_general COPY ≡ Ok cap → room_made s ≡ Ok room
    → Steady s (put_slot (add_beside s room (plain_object (object s cap.name).of words es)) inc slot e)
copied_steady s inc path slot cap room words es e h g =
    slotted s (add_beside s room (plain_object (object s cap.name).of words es)) inc slot e
    (add_steady s room (plain_object (object s cap.name).of words es) (room_vanish s room g)
    (general_kind (object s cap.name).of (target_is s inc path is_general COPY cap h).typed))

leave_steady : (s : State) (proc : Proc) (inc : Inc) (caller : Option Inc) (slot : ℕ) (c : Option Cap)
    → Steady s (leave_to (record s { incarnations = remove_entry (same_inc inc) s.incarnations }) proc caller slot c)
leave_steady s proc inc None slot c = record { first = refl; kinds = λ q. inl (kind_self (object s q)) }
leave_steady s proc inc (Some x) slot None = record { first = refl; kinds = λ q. inl (kind_self (object s q)) }
leave_steady s proc inc (Some x) slot (Some c) = record { first = refl; kinds = λ q. inl (kind_self (object s q)) }

-- the same with other processes
process_steady : (s : State) (name : Name) (o : Object) (proc : Proc) (n : Name) → IsSameKind (object s name) o
    → Steady s (put_process (put_object s name o) proc (record (process s proc) { run = Waiting n }))
process_steady s name o proc n h = let k = put_steady s name o h in record { first = k.first; kinds = k.kinds }

token_steady : (s : State) (name : Name) (waiters : List Proc) → StaysSteady s (token_given s name (object s name) waiters)
token_steady s name [] =
    and_is (λ f. Steady s f.1) (unless (nat_lt (object s name).count token_limit) (refused.Full full.Tokens))
    (Ok (Done, put_object s name (record (object s name) { count = (object s name).count + 1 })))
    (λ u g. count_steady s name ((object s name).count + 1))
token_steady s name (first ∷ rest) = let k = waiters_steady s name rest in record { first = k.first; kinds = k.kinds }

take_steady : (s : State) (proc : Proc) (inc : Inc) (path : List ℕ) → StaysSteady s (take_token s proc inc path)
unfolding take_token
take_steady s proc inc path =
    then_is (λ f. Steady s f.1) (target s inc path (is_of_type SEMAPHORE) MODIFY+A0) (λ c. Ok (elim (nat_lt 0 (object s c.name).count) [
      | true ↦ (Done, put_object s c.name (record (object s c.name) { count = (object s c.name).count - 1 }))
      | false ↦ (
        Waits,
        put_process (put_object s c.name (record (object s c.name) { waiters = (object s c.name).waiters ++ proc ∷ [] })) proc
            (record (process s proc) { run = Waiting c.name }),
      )
    ])) (λ c g. by c (nat_lt 0 (object s c.name).count))
  where
    by : (c : Cap) (b : Bool) → Steady s (elim b as (λ x. Answer × State) [
      | true ↦ (Done, put_object s c.name (record (object s c.name) { count = (object s c.name).count - 1 }))
      | false ↦ (
        Waits,
        put_process (put_object s c.name (record (object s c.name) { waiters = (object s c.name).waiters ++ proc ∷ [] })) proc
            (record (process s proc) { run = Waiting c.name }),
      )
    ]).1
    by c true = count_steady s c.name ((object s c.name).count - 1)
    by c false =
        process_steady s c.name (record (object s c.name) { waiters = (object s c.name).waiters ++ proc ∷ [] }) proc c.name (record { of = refl; code = refl; params = refl })

here_steady : (s : State) → Steady s s
here_steady s = record { first = refl; kinds = λ q. inl (kind_self (object s q)) }

still_steady : (s t : State) → t.objects ≡ s.objects → t.first_new ≡ s.first_new → Steady s t
still_steady s t h f = steady_self s t h f

create_steady : (s : State) (inc : Inc) (path : List ℕ) (into : Slot) → StaysSteady s (create_object s inc path into)
unfolding create_object
create_steady s inc path into =
    then_is (λ f. Steady s f.1) (slot_at into (length path)) _ (λ slot a.
    then_is (λ f. Steady s f.1) (walk s inc path) _ (λ entry b.
    then_is (λ f. Steady s f.1) (create_form entry (last_step path)) _ (λ form c.
    and_is (λ f. Steady s f.1) (unless (can_be_created form.0) (refused.WrongType (last_step path))) _ (λ u d.
    then_is (λ f. Steady s f.1) (room_made s) _ (λ room r. created_steady s inc slot form (refused.WrongType (last_step path)) u room d r)))))

outcome_steady : (s : State) (proc : Proc) (inc : Inc) (c : Call) → StaysSteady s (outcome s proc inc c)
unfolding get_word put_word add_word word_count load_entry store_entry append_entry erase_entry drop_slot restrict_slot look make_template create_object merge_cap copy_object
    enter_procedure leave give_token
outcome_steady s proc inc (call.Get of at) = search (then_is, here_steady)
outcome_steady s proc inc (call.Put of at word) = search (then_is, and_is, words_steady)
outcome_steady s proc inc (call.Add of word) = search (then_is, and_is, words_steady)
outcome_steady s proc inc (call.Length of) = search (then_is, here_steady)
outcome_steady s proc inc (call.Load from into) = search (then_is, slot_steady)
outcome_steady s proc inc (call.Store list at from) = search (then_is, and_is, entries_steady) depth 8
outcome_steady s proc inc (call.Append list from) = search (then_is, and_is, entries_steady) depth 8
outcome_steady s proc inc (call.Erase list at) = search (then_is, and_is, entries_steady)
outcome_steady s proc inc (call.Drop slot) = search (then_is, slot_steady)
outcome_steady s proc inc (call.Restrict slot keep) = search (then_is, slot_steady)
outcome_steady s proc inc (call.Look of) = search (then_is, here_steady)
outcome_steady s proc inc (call.MakeTemplate of kind into) = search (then_is, slot_steady)
outcome_steady s proc inc (call.Create by into) = create_steady s inc by into
outcome_steady s proc inc (call.Merge with c into) = search (then_is, slot_steady) depth 10
outcome_steady s proc inc (call.Copy of into) = search (then_is, copied_steady) depth 8
outcome_steady s proc inc (call.Enter path args into) = search (then_is, and_is, still_steady) depth 12
outcome_steady s proc inc (call.Leave give) = search (then_is, leave_steady)
outcome_steady s proc inc (call.P of) = take_steady s proc inc of
outcome_steady s proc inc (call.V of) = search (then_is, token_steady)
outcome_steady s proc inc call.Yield = still_steady s _ refl refl

-- and then objects vanish
vanish_steady : (s t : State) (n : ℕ) → Steady s t → Steady s (counted n (restricted t))
vanish_steady s t n h = record { first = h.first; kinds = λ q. by q (h.kinds q) (left_kind t (kept_objects t) (kept_vanish t) q) }
  where
    by : (q : Name) → KeepsKind s q (object t q) → (found_in q (kept_objects t) ≡ object t q) ⊎ IsGone t q (found_in q (kept_objects t))
        → KeepsKind s q (found_in q (kept_objects t))
    by q a (inl e) = subst (KeepsKind s q) (sym e) a
    by q a (inr b) = inr (inr (ap (λ (n : Name). nat_lt q.0 n.0) (sym h.first) ∙ b.0, b.1))

vanishes : (s : State) (o : Outcome) → StaysSteady s o → IfOk o (λ f. Steady s (counted (s.events + 1) (restricted f.1)))
vanishes s (Ok f) h = vanish_steady s f.1 (s.events + 1) h
vanishes s (Err e) h = tt

-- every line
pub steady_each : EachStep (λ s line t. Steady s t)
steady_each = record {
  calls =
      λ s cpu proc c r. settled_keeps (λ t. Steady s t) s (outcome s proc (process s proc).current c) (still_steady s (counted (s.events + 1) s) refl refl)
      (vanishes s (outcome s proc (process s proc).current c) (outcome_steady s proc (process s proc).current c));
  halts = λ s cpu proc r. vanish_steady s (ended s proc) (s.events + 1) (still_steady s (ended s proc) refl refl);
  dispatches = λ s cpu first rest r. still_steady s _ refl refl;
}
