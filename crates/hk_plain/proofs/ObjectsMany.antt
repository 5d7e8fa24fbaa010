-- How many objects stand after a call, and what a Leave leaves of the incarnations.
use Rattle.std.proofs.Common.{◌≡◌, ◌∙◌, ℕ, ◌+◌, ◌-◌, ◌≤◌, List, [], ◌∷◌, ◌++◌, length, Bool, true, false, Option, Some, None, Ok, cond, refl, ap, arith}
use Rattle.std.specs.Prelude.{IfOk, nat_lt}
use Rattle.std.specs.Map.{lookup, set_value, remove_entry, keys_of}
use Rattle.std.specs.List.Sorted.{IsStrictlySortedBy}
use Rattle.std.proofs.lemmas.Map.{lookup-remove_entry}
use Rattle.std.proofs.lemmas.Map.Keys.{IsDistinct-from_sorted}
use Rattle.hk_model.specs.declared.names.Inc.{Inc}
use Rattle.hk_model.specs.declared.names.Proc.{Proc}
use Rattle.hk_model.specs.declared.names.Slot.{Slot}
use Rattle.hk_model.specs.declared.names.Name.{Name}
use Rattle.hk_model.specs.declared.entries.Cap.{Cap}
use Rattle.hk_model.specs.declared.calls.Call.{Call}
use Rattle.hk_model.specs.declared.calls.Call.TheVariants as call
use Rattle.hk_model.specs.declared.calls.Refusal.TheVariants as refused
use Rattle.hk_model.specs.declared.calls.What8.TheVariants as full
use Rattle.hk_model.specs.declared.calls.Answer.{Answer}
use Rattle.hk_model.specs.declared.calls.Answer.TheVariants.{Done, Waits}
use Rattle.hk_model.specs.declared.objects.Object.{Object}
use Rattle.hk_model.specs.declared.objects.ProcessState.TheVariants.{Waiting}
use Rattle.hk_model.specs.declared.objects.Incarnation.{Incarnation}
use Rattle.hk_model.specs.Limits.{token_limit}
use Rattle.hk_model.specs.State.{State, object, process, put_object, put_process, same_inc, inc_cmp}
use Rattle.hk_model.specs.Refusing.{unless}
use Rattle.hk_model.specs.Targets.{SEMAPHORE, is_of_type, MODIFY+A0, target}
use Rattle.hk_model.specs.Rule.{Outcome, outcome, leave_to, token_given, get_word, put_word, add_word, word_count, load_entry, store_entry}
use Rattle.hk_model.specs.Rule.{append_entry, erase_entry, drop_slot, restrict_slot, look, make_template, merge_cap, enter_procedure, leave, take_token}
use Rattle.hk_model.specs.Rule.{give_token}
use Rattle.hk_model.proofs.Standing.{inc_same, inc_laws}
use Rattle.hk_model.proofs.TestLemmas.{then_is, and_is, if_ok}
use Rattle.hk_plain.proofs.CallsTakenBack.{NothingGoes}

set_many : {K X : Type 0} (test : K → Bool) (es : List (K × X)) (x : X) → length (set_value test es x) ≤ length es + 1
set_many test [] x = omega arith
set_many test (e ∷ es) x = by (test e.0) (set_many test es x)
  where
    by : (b : Bool) → length (set_value test es x) ≤ length es + 1 → length (cond b ((e.0, x) ∷ es) (e ∷ set_value test es x)) ≤ length (e ∷ es) + 1
    by true rest = omega arith
    by false rest = omega arith

same_many : (n : ℕ) → n ≤ n + 1
same_many n = omega arith

-- one object more at most
abbrev FewMore : State → Outcome → Type 0
FewMore s o = IfOk o (λ f. length f.1.objects ≤ length s.objects + 1)

take_many : (s : State) (proc : Proc) (inc : Inc) (path : List ℕ) → FewMore s (take_token s proc inc path)
unfolding take_token
take_many s proc inc path =
    then_is (λ f. length f.1.objects ≤ length s.objects + 1) (target s inc path (is_of_type SEMAPHORE) MODIFY+A0) (λ c. Ok (elim (nat_lt 0 (object s c.name).count) [
      | true ↦ (Done, put_object s c.name (record (object s c.name) { count = (object s c.name).count - 1 }))
      | false ↦ (
        Waits,
        put_process (put_object s c.name (record (object s c.name) { waiters = (object s c.name).waiters ++ proc ∷ [] })) proc
            (record (process s proc) { run = Waiting c.name }),
      )
    ])) (λ c g. by c (nat_lt 0 (object s c.name).count))
  where
    by : (c : Cap) (b : Bool) → length (elim b as (λ x. Answer × State) [
      | true ↦ (Done, put_object s c.name (record (object s c.name) { count = (object s c.name).count - 1 }))
      | false ↦ (
        Waits,
        put_process (put_object s c.name (record (object s c.name) { waiters = (object s c.name).waiters ++ proc ∷ [] })) proc
            (record (process s proc) { run = Waiting c.name }),
      )
    ]).1.objects ≤ length s.objects + 1
    by c true = search (set_many)
    by c false = search (set_many)

token_many : (s : State) (name : Name) (o : Object) (waiters : List Proc) → FewMore s (token_given s name o waiters)
token_many s name o [] =
    and_is (λ f. length f.1.objects ≤ length s.objects + 1) (unless (nat_lt o.count token_limit) (refused.Full full.Tokens))
    (Ok (Done, put_object s name (record o { count = o.count + 1 }))) (λ u g. search (set_many))
token_many s name o (first ∷ rest) = search (set_many)

few_more : (s : State) (proc : Proc) (inc : Inc) (c : Call) → NothingGoes c → FewMore s (outcome s proc inc c)
unfolding get_word put_word add_word word_count load_entry store_entry append_entry erase_entry drop_slot restrict_slot look make_template merge_cap enter_procedure give_token
few_more s proc inc (call.Get of at) none = search (then_is, same_many)
few_more s proc inc (call.Put of at word) none = search (then_is, and_is, set_many)
few_more s proc inc (call.Add of word) none = search (then_is, and_is, set_many)
few_more s proc inc (call.Length of) none = search (then_is, same_many)
few_more s proc inc (call.Load from into) none = search (then_is, same_many)
few_more s proc inc (call.Store list at from) none = search (then_is, and_is, set_many)
few_more s proc inc (call.Append list from) none = search (then_is, and_is, set_many)
few_more s proc inc (call.Erase list at) none = search (then_is, and_is, set_many)
few_more s proc inc (call.Drop slot) none = search (then_is, same_many)
few_more s proc inc (call.Restrict slot keep) none = search (then_is, same_many)
few_more s proc inc (call.Look of) none = search (then_is, same_many)
few_more s proc inc (call.MakeTemplate of kind into) none = search (then_is, same_many)
few_more s proc inc (call.Create by into) none = absurd none
few_more s proc inc (call.Merge with cap into) none = search (then_is, same_many) depth 10
few_more s proc inc (call.Copy of into) none = absurd none
few_more s proc inc (call.Enter path args into) none = search (then_is, and_is, same_many) depth 12
few_more s proc inc (call.Leave give) none = absurd none
few_more s proc inc (call.P of) none = take_many s proc inc of
few_more s proc inc (call.V of) none = search (then_is, token_many)
few_more s proc inc call.Yield none = same_many (length s.objects)

pub call_many : (s : State) (proc : Proc) (inc : Inc) (c : Call) (answer : Answer) (after : State) → NothingGoes c → outcome s proc inc c ≡ Ok (answer, after)
    → length after.objects ≤ length s.objects + 1
call_many s proc inc c answer after none is =
    if_ok (λ (f : Answer × State). length f.1.objects ≤ length s.objects + 1) (outcome s proc inc c) (answer, after) (few_more s proc inc c none) is

-- ---- Leave

absent_set : {K X : Type 0} (test set : K → Bool) (es : List (K × X)) (x : X) → lookup test es ≡ None → lookup test (set_value set es x) ≡ None
absent_set test set [] x absent = refl
absent_set test set (e ∷ es) x absent = by (set e.0) (test e.0) refl absent (absent_set test set es x)
  where
    by : (b c : Bool) → test e.0 ≡ c → cond c (Some e.1) (lookup test es) ≡ None → (lookup test es ≡ None → lookup test (set_value set es x) ≡ None)
        → lookup test (cond b ((e.0, x) ∷ es) (e ∷ set_value set es x)) ≡ None
    by b true is none later = absurd (cc)
    by true false is none later = rw is none
    by false false is none later = rw is (later none)

left_without : (s : State) (proc : Proc) (inc : Inc) → IsStrictlySortedBy inc_cmp (keys_of s.incarnations) → (caller : Option Inc) (into : ℕ) (cap : Option Cap)
    → lookup (same_inc inc) (leave_to (record s { incarnations = remove_entry (same_inc inc) s.incarnations }) proc caller into cap).incarnations ≡ None
left_without s proc inc sorted caller into cap = by caller cap
  where
    without : List (Inc × Incarnation)
    without = remove_entry (same_inc inc) s.incarnations

    none : lookup (same_inc inc) without ≡ None
    none =
        lookup-remove_entry inc_laws (same_inc inc) (λ x y is. ap (λ (m : Inc). same_inc m y) (inc_same inc x is)) inc s.incarnations
        (IsDistinct-from_sorted inc_cmp (keys_of s.incarnations) sorted)
        ∙ ap (λ (b : Bool). cond b None (lookup (same_inc inc) s.incarnations)) (inc_laws.refl inc)

    by : (caller : Option Inc) (cap : Option Cap) → lookup (same_inc inc) (leave_to (record s { incarnations = without }) proc caller into cap).incarnations ≡ None
    by None cap = none
    by (Some caller) None = none
    by (Some caller) (Some cap) = absent_set (same_inc inc) (same_inc caller) without _ none

leave_without : (s : State) (proc : Proc) (inc : Inc) (give : Option Slot) → IsStrictlySortedBy inc_cmp (keys_of s.incarnations)
    → IfOk (leave s proc inc give) (λ f. lookup (same_inc inc) f.1.incarnations ≡ None)
unfolding leave
leave_without s proc inc give sorted = search (then_is, left_without)

pub left_absent : (s : State) (proc : Proc) (inc : Inc) (give : Option Slot) (answer : Answer) (after : State) → IsStrictlySortedBy inc_cmp (keys_of s.incarnations)
    → outcome s proc inc (call.Leave give) ≡ Ok (answer, after) → lookup (same_inc inc) after.incarnations ≡ None
left_absent s proc inc give answer after sorted is =
    if_ok (λ (f : Answer × State). lookup (same_inc inc) f.1.incarnations ≡ None) (leave s proc inc give) (answer, after) (leave_without s proc inc give sorted) is

-- the objects and the next number stay
left_same : (s : State) (proc : Proc) (inc : Inc) (caller : Option Inc) (into : ℕ) (cap : Option Cap)
    → ((leave_to (record s { incarnations = remove_entry (same_inc inc) s.incarnations }) proc caller into cap).next_inc ≡ s.next_inc)
    × ((leave_to (record s { incarnations = remove_entry (same_inc inc) s.incarnations }) proc caller into cap).objects ≡ s.objects)
left_same s proc inc None into cap = (refl, refl)
left_same s proc inc (Some caller) into None = (refl, refl)
left_same s proc inc (Some caller) into (Some cap) = (refl, refl)

leave_same : (s : State) (proc : Proc) (inc : Inc) (give : Option Slot) → IfOk (leave s proc inc give) (λ f. (f.1.next_inc ≡ s.next_inc) × (f.1.objects ≡ s.objects))
unfolding leave
leave_same s proc inc give = search (then_is, left_same)

pub left_next : (s : State) (proc : Proc) (inc : Inc) (give : Option Slot) (answer : Answer) (after : State) → outcome s proc inc (call.Leave give) ≡ Ok (answer, after)
    → after.next_inc ≡ s.next_inc
left_next s proc inc give answer after is =
    (if_ok (λ (f : Answer × State). (f.1.next_inc ≡ s.next_inc) × (f.1.objects ≡ s.objects)) (leave s proc inc give) (answer, after) (leave_same s proc inc give) is).0

pub left_many : (s : State) (proc : Proc) (inc : Inc) (give : Option Slot) (answer : Answer) (after : State) → outcome s proc inc (call.Leave give) ≡ Ok (answer, after)
    → length after.objects ≤ length s.objects + 1
left_many s proc inc give answer after is =
    let same =
    (if_ok (λ (f : Answer × State). (f.1.next_inc ≡ s.next_inc) × (f.1.objects ≡ s.objects)) (leave s proc inc give) (answer, after) (leave_same s proc inc give) is).1 in
    rw same (same_many (length s.objects))
