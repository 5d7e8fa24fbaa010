-- Each object that stands has a name that was given, and the numbers are few: when a world opens, and after each event.
use Rattle.std.proofs.Common.{◌≡◌, ℕ, ◌+◌, ◌-◌, ◌<◌, List, [], ◌∷◌, ◌++◌, Bool, true, false, Option, Some, None, Ok, Err, refl, sym, ◌∙◌, ap, subst, arith, cond}
use mathlib.Core.Logic.{inl, inr}
use Rattle.std.specs.Prelude.{IfOk, is_some, nat_lt, ◌⊎◌}
use Rattle.std.specs.Map.{lookup, set_value, remove_entry}
use Rattle.std.specs.Option.{unwrap_or}
use Rattle.std.specs.BTreeMap.{insert_entry}
use Rattle.std.proofs.lemmas.Bool.{false≢true}
use Rattle.hk_model.specs.declared.names.Name.{Name}
use Rattle.hk_model.specs.declared.names.Inc.{Inc}
use Rattle.hk_model.specs.declared.names.Proc.{Proc}
use Rattle.hk_model.specs.declared.names.Cpu.{Cpu}
use Rattle.hk_model.specs.declared.entries.Cap.{Cap}
use Rattle.hk_model.specs.declared.entries.Entry.{Entry}
use Rattle.hk_model.specs.declared.calls.Call.{Call}
use Rattle.hk_model.specs.declared.calls.Call.TheVariants as call
use Rattle.hk_model.specs.declared.calls.Refusal.TheVariants as refused
use Rattle.hk_model.specs.declared.calls.What8.TheVariants as full
use Rattle.hk_model.specs.declared.calls.Answer.{Answer}
use Rattle.hk_model.specs.declared.calls.Answer.TheVariants.{Done, Waits}
use Rattle.hk_model.specs.declared.objects.Object.{Object}
use Rattle.hk_model.specs.declared.objects.Incarnation.{Incarnation}
use Rattle.hk_model.specs.declared.objects.ProcessState.TheVariants.{Running, Waiting}
use Rattle.hk_model.specs.Limits.{token_limit}
use Rattle.hk_model.specs.State.{State, object, process, put_object, put_slot, put_process, same_name, same_inc, name_cmp}
use Rattle.hk_model.specs.Keeping.{kept_objects, restricted}
use Rattle.hk_model.specs.Refusing.{unless}
use Rattle.hk_model.specs.Targets.{SEMAPHORE, is_of_type, MODIFY+A0, target}
use Rattle.hk_model.specs.Rule.{Outcome, outcome, rule, settled, counted, add_beside, room_made, enter, leave_to, token_given, get_word, put_word, add_word}
use Rattle.hk_model.specs.Rule.{word_count, load_entry, store_entry, append_entry, erase_entry, drop_slot, restrict_slot, look, make_template, create_object, merge_cap}
use Rattle.hk_model.specs.Rule.{copy_object, enter_procedure, leave, take_token, give_token}
use Rattle.hk_model.specs.Processors.{dispatched, dispatched_from, ended, halted}
use Rattle.hk_model.specs.Opening.{opening}
use Rattle.hk_model.specs.WorldValue.{WorldValue}
use Rattle.hk_model.proofs.Standing.{name_same}
use Rattle.hk_model.proofs.Keeping.{Vanish, IsLost, kept_vanish, stays_or_lost}
use Rattle.hk_model.proofs.TestLemmas.{then_is, and_is, if_ok}
use Rattle.hk_model.proofs.CallWays.{room_vanish}
use Rattle.hk_model.proofs.KindsStay.{opening_objects}
use Rattle.hk_plain.specs.Numbers.{FewNumbers, TakesOne}
use Rattle.hk_plain.specs.Changes.{IsWhole}
use Rattle.hk_plain.proofs.CountedParts.{name_order}
use Rattle.hk_plain.proofs.PutBack.{lookup_inserted}

-- each object of a list has a name below this one
pub record AreGiven (objects : List (Name × Object)) (next : Name) : Type 0 where
  pub below : (n : Name) → is_some (lookup (same_name n) objects) ≡ true → n.0 < next.0

abbrev pub Given : State → Type 0
Given s = AreGiven s.objects s.next_name

-- ---- no object stands under the next name

pub given_new : (s : State) → Given s → lookup (same_name s.next_name) s.objects ≡ None
given_new s given = by (lookup (same_name s.next_name) s.objects) refl
  where
    by : (o : Option Object) → lookup (same_name s.next_name) s.objects ≡ o → o ≡ None
    by None is = refl
    by (Some x) is = let low = given.below s.next_name (ap is_some is) in absurd (omega (arith, low))

-- ---- one change of the objects

-- as many stand after a write
stands_set : (name n : Name) (es : List (Name × Object)) (o : Object) → is_some (lookup (same_name n) (set_value (same_name name) es o)) ≡ is_some (lookup (same_name n) es)
stands_set name n [] o = refl
stands_set name n (e ∷ es) o = by (same_name name e.0) (stands_set name n es o)
  where
    by : (b : Bool) → is_some (lookup (same_name n) (set_value (same_name name) es o)) ≡ is_some (lookup (same_name n) es)
        → is_some (lookup (same_name n) (cond b ((e.0, o) ∷ es) (e ∷ set_value (same_name name) es o))) ≡ is_some (cond (same_name n e.0) (Some e.1) (lookup (same_name n) es))
    by true rest = instead (same_name n e.0)
      where
        instead : (b : Bool) → is_some (cond b (Some o) (lookup (same_name n) es)) ≡ is_some (cond b (Some e.1) (lookup (same_name n) es))
        instead true = refl
        instead false = refl
    by false rest = further (same_name n e.0)
      where
        further : (b : Bool) → is_some (cond b (Some e.1) (lookup (same_name n) (set_value (same_name name) es o))) ≡ is_some (cond b (Some e.1) (lookup (same_name n) es))
        further true = refl
        further false = rest

given_set : (name : Name) (es : List (Name × Object)) (o : Object) (next : Name) → AreGiven es next → AreGiven (set_value (same_name name) es o) next
given_set name es o next given = record { below = λ n h. given.below n (sym (stands_set name n es o) ∙ h) }

-- one more has the next name
given_inserted : (es : List (Name × Object)) (o : Object) (next : Name) → AreGiven es next → AreGiven (insert_entry name_cmp es next o) (record { 0 = next.0 + 1 })
given_inserted es o next given = record { below = λ n h. by n (same_name n next) refl (rw (lookup_inserted name_cmp name_order name_same es next n o) at h) }
  where
    by : (n : Name) (b : Bool) → same_name n next ≡ b → is_some (cond b (Some o) (lookup (same_name n) es)) ≡ true → n.0 < next.0 + 1
    by n true is h = let same : n.0 ≡ next.0 = ap (λ (m : Name). m.0) (name_same n next is) in omega (arith, same)
    by n false is h = let low = given.below n h in omega (arith, low)

-- where objects vanish
pub given_left : (s : State) (objects : List (Name × Object)) → Vanish s objects → Given s → AreGiven objects s.next_name
given_left s objects vanish given = record { below = λ n h. by n h (stays_or_lost s objects vanish n) }
  where
    by : (n : Name) → is_some (lookup (same_name n) objects) ≡ true → ((lookup (same_name n) objects ≡ lookup (same_name n) s.objects) ⊎ IsLost s objects n) → n.0 < s.next_name.0
    by n h (inl same) = given.below n (sym (ap is_some same) ∙ h)
    by n h (inr lost) = absurd (false≢true (sym (ap is_some lost.gone) ∙ h))

pub given_restricted : (s : State) → Given s → Given (restricted s)
given_restricted s given = given_left s (kept_objects s) (kept_vanish s) given

-- ---- every call

-- the objects have given names, and each number rises by one at most
record Stays (s t : State) : Type 0 where
  given : Given t
  takes : TakesOne s t

none_taken : (s : State) → TakesOne s s
none_taken s = (omega arith, omega arith)

module _ (s : State) (given : Given s) where
  same_stays : Stays s s
  same_stays = record { given = given; takes = none_taken s }

  slot_stays : (inc : Inc) (n : ℕ) (e : Entry) → Stays s (put_slot s inc n e)
  slot_stays inc n e = record { given = given; takes = none_taken s }

  object_stays : (name : Name) (o : Object) → Stays s (put_object s name o)
  object_stays name o = record { given = given_set name s.objects o s.next_name given; takes = none_taken s }

  made_stays : (room : List (Name × Object)) (o : Object) (inc : Inc) (n : ℕ) (e : Entry) → room_made s ≡ Ok room → Stays s (put_slot (add_beside s room o) inc n e)
  made_stays room o inc n e is = record {
    given = given_inserted room o s.next_name (given_left s room (room_vanish s room is) given);
    takes = (omega arith, omega arith);
  }

  entered_stays : (new : Incarnation) → Stays s (enter s new)
  entered_stays new = record { given = given; takes = (omega arith, omega arith) }

  left_stays : (proc : Proc) (inc : Inc) (caller : Option Inc) (into : ℕ) (cap : Option Cap)
      → Stays s (leave_to (record s { incarnations = remove_entry (same_inc inc) s.incarnations }) proc caller into cap)
  left_stays proc inc None into cap = record { given = given; takes = none_taken s }
  left_stays proc inc (Some caller) into None = record { given = given; takes = none_taken s }
  left_stays proc inc (Some caller) into (Some cap) = record { given = given; takes = none_taken s }

  token_stays : (name : Name) (o : Object) (waiters : List Proc) → IfOk (token_given s name o waiters) (λ f. Stays s f.1)
  token_stays name o [] =
      and_is (λ f. Stays s f.1) (unless (nat_lt o.count token_limit) (refused.Full full.Tokens)) (Ok (Done, put_object s name (record o { count = o.count + 1 })))
      (λ u h. object_stays name (record o { count = o.count + 1 }))
  token_stays name o (first ∷ rest) = record { given = given_set name s.objects (record o { waiters = rest }) s.next_name given; takes = none_taken s }

  abbrev taken : Proc → Cap → Bool → Answer × State
  taken proc cap b = elim b as (λ _. Answer × State) [
    | true ↦ (Done, put_object s cap.name (record (object s cap.name) { count = (object s cap.name).count - 1 }))
    | false ↦ (
      Waits,
      put_process (put_object s cap.name (record (object s cap.name) { waiters = (object s cap.name).waiters ++ proc ∷ [] })) proc
          (record (process s proc) { run = Waiting cap.name }),
    )
  ]

  taken_stays : (proc : Proc) (cap : Cap) (b : Bool) → Stays s (taken proc cap b).1
  taken_stays proc cap true = object_stays cap.name (record (object s cap.name) { count = (object s cap.name).count - 1 })
  taken_stays proc cap false = record {
    given = given_set cap.name s.objects (record (object s cap.name) { waiters = (object s cap.name).waiters ++ proc ∷ [] }) s.next_name given;
    takes = none_taken s;
  }

  take_stays : (proc : Proc) (inc : Inc) (path : List ℕ) → IfOk (take_token s proc inc path) (λ f. Stays s f.1)
  unfolding take_token
  take_stays proc inc path =
      then_is (λ f. Stays s f.1) (target s inc path (is_of_type SEMAPHORE) MODIFY+A0) (λ cap. Ok (taken proc cap (nat_lt 0 (object s cap.name).count)))
      (λ cap h. taken_stays proc cap (nat_lt 0 (object s cap.name).count))

  outcome_stays : (proc : Proc) (inc : Inc) (c : Call) → IfOk (outcome s proc inc c) (λ f. Stays s f.1)
  unfolding get_word put_word add_word word_count load_entry store_entry append_entry erase_entry drop_slot restrict_slot look make_template create_object merge_cap copy_object
      enter_procedure leave give_token
  outcome_stays proc inc (call.Get of at) = search (then_is, same_stays)
  outcome_stays proc inc (call.Put of at word) = search (then_is, and_is, object_stays)
  outcome_stays proc inc (call.Add of word) = search (then_is, and_is, object_stays)
  outcome_stays proc inc (call.Length of) = search (then_is, same_stays)
  outcome_stays proc inc (call.Load from into) = search (then_is, slot_stays)
  outcome_stays proc inc (call.Store list at from) = search (then_is, and_is, object_stays)
  outcome_stays proc inc (call.Append list from) = search (then_is, and_is, object_stays)
  outcome_stays proc inc (call.Erase list at) = search (then_is, and_is, object_stays)
  outcome_stays proc inc (call.Drop slot) = search (then_is, slot_stays)
  outcome_stays proc inc (call.Restrict slot keep) = search (then_is, slot_stays)
  outcome_stays proc inc (call.Look of) = search (then_is, same_stays)
  outcome_stays proc inc (call.MakeTemplate of kind into) = search (then_is, slot_stays)
  outcome_stays proc inc (call.Create by into) = search (then_is, and_is, made_stays) depth 8
  outcome_stays proc inc (call.Merge with cap into) = search (then_is, slot_stays) depth 10
  outcome_stays proc inc (call.Copy of into) = search (then_is, made_stays) depth 8
  outcome_stays proc inc (call.Enter path args into) = search (then_is, and_is, entered_stays) depth 12
  outcome_stays proc inc (call.Leave give) = search (then_is, left_stays)
  outcome_stays proc inc (call.P of) = take_stays proc inc of
  outcome_stays proc inc (call.V of) = search (then_is, token_stays)
  outcome_stays proc inc call.Yield = record { given = given; takes = none_taken s }

pub outcome_given : (s : State) (proc : Proc) (inc : Inc) (c : Call) (answer : Answer) (after : State) → outcome s proc inc c ≡ Ok (answer, after) → Given s → Given after
outcome_given s proc inc c answer after is given =
    (if_ok (λ (f : Answer × State). Stays s f.1) (outcome s proc inc c) (answer, after) (outcome_stays s given proc inc c) is).given

-- ---- every event

pub whole_given : (s : State) → IsWhole s → Given s
whole_given s whole = record { below = whole.given }

few_after : (s after : State) → FewNumbers s → TakesOne s after → FewNumbers (counted (s.events + 1) after)
few_after s after few takes = let a = takes.0 in let b = takes.1 in (omega (arith, few.0, a), omega (arith, few.1, b))

pub whole_after : (s after : State) → IsWhole s → Given after → TakesOne s after → IsWhole (counted (s.events + 1) after)
whole_after s after whole given takes = record { numbers = few_after s after whole.numbers takes; given = given.below }

settled_whole : (s : State) (o : Outcome) → IsWhole s → IfOk o (λ f. Stays s f.1) → IsWhole (settled s o).1
settled_whole s (Ok found) whole stays = whole_after s (restricted found.1) whole (given_restricted found.1 stays.given) stays.takes
settled_whole s (Err refusal) whole stays = whole_after s s whole (whole_given s whole) (none_taken s)

pub rule_whole : (s : State) (proc : Proc) (c : Call) → IsWhole s → IsWhole (rule s proc c).1
rule_whole s proc c whole = settled_whole s (outcome s proc (process s proc).current c) whole (outcome_stays s (whole_given s whole) proc (process s proc).current c)

pub halted_whole : (s : State) (proc : Proc) → IsWhole s → IsWhole (halted s proc)
halted_whole s proc whole = whole_after s (restricted (ended s proc)) whole (given_restricted (ended s proc) (record { below = whole.given })) (none_taken s)

pub dispatched_whole : (s : State) (cpu : Cpu) (first : Proc) (after : State) → dispatched s cpu ≡ Some (first, after) → IsWhole s → IsWhole after
dispatched_whole s cpu first after is whole = by s.ready is
  where
    by : (ready : List Proc) → dispatched_from s cpu ready ≡ Some (first, after) → IsWhole after
    by [] found = absurd (cc)
    by (head ∷ rest) found =
        let given : State = record (put_process s head (record (process s head) { run = Running cpu })) { ready = rest } in
        let left : counted (s.events + 1) given ≡ after = ap (λ (o : Option (Proc × State)). (unwrap_or o (first, after)).1) found in
        subst IsWhole left (whole_after s given whole (whole_given s whole) (none_taken s))

-- ---- a world opens

opening_given : (w : WorldValue) → Given (opening w)
opening_given w = record { below = λ n h. by n (lookup (same_name n) (opening w).objects) refl h }
  where
    by : (n : Name) (o : Option Object) → lookup (same_name n) (opening w).objects ≡ o → is_some o ≡ true → n.0 < (opening w).next_name.0
    by n None is h = absurd (false≢true h)
    by n (Some x) is h = opening_objects w n x is

pub opening_whole : (w : WorldValue) → FewNumbers (opening w) → IsWhole (opening w)
opening_whole w few = record { numbers = few; given = (opening_given w).below }
