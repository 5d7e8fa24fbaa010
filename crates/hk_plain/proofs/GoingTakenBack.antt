-- What an event saves leads back over it where objects or incarnations went, once they are put back: Create and Copy, Leave, a dispatch and a halt.
use Rattle.std.proofs.Common.{◌≡◌, ℕ, ◌+◌, ◌-◌, List, [], ◌∷◌, Bool, true, false, Option, Some, None, Ok, refl, sym, ◌∙◌, ap, arith, cond}
use Rattle.std.specs.Prelude.{IfOk, slice_set, slice_index_or, not, ◌==◌, filter}
use Rattle.std.specs.Map.{lookup, set_value, remove_entry, keys_of}
use Rattle.std.specs.Option.{unwrap_or}
use Rattle.std.specs.BTreeMap.{insert_entry}
use Rattle.std.specs.List.Sorted.{IsStrictlySortedBy}
use Rattle.std.proofs.lemmas.List.{set-get_or}
use Rattle.std.proofs.lemmas.Map.{lookup-remove_entry}
use Rattle.std.proofs.lemmas.Map.Keys.{IsDistinct-from_sorted}
use Rattle.hk_model.specs.declared.names.Name.{Name}
use Rattle.hk_model.specs.declared.names.Inc.{Inc}
use Rattle.hk_model.specs.declared.names.Proc.{Proc}
use Rattle.hk_model.specs.declared.names.Cpu.{Cpu}
use Rattle.hk_model.specs.declared.names.Slot.{Slot}
use Rattle.hk_model.specs.declared.entries.Cap.{Cap}
use Rattle.hk_model.specs.declared.entries.Entry.{Entry}
use Rattle.hk_model.specs.declared.entries.Entry.TheVariants.{Empty, Held}
use Rattle.hk_model.specs.declared.calls.Answer.{Answer}
use Rattle.hk_model.specs.declared.calls.Call.TheVariants as call
use Rattle.hk_model.specs.declared.objects.Object.{Object}
use Rattle.hk_model.specs.declared.objects.Incarnation.{Incarnation}
use Rattle.hk_model.specs.declared.objects.ProcessState.TheVariants.{Running, Ended}
use Rattle.hk_model.specs.State.{State, incarnation, process, put_slot, put_process, add_object, same_name, same_inc, name_cmp, inc_cmp, no_incarnation}
use Rattle.hk_model.specs.Rule.{outcome, leave, leave_to, add_beside, counted}
use Rattle.hk_model.specs.Processors.{dispatched, dispatched_from, ended}
use Rattle.hk_model.proofs.Standing.{inc_same, inc_laws}
use Rattle.hk_model.proofs.TestLemmas.{then_is, if_ok}
use Rattle.hk_plain.specs.declared.changes.Saved.{Saved}
use Rattle.hk_plain.specs.declared.changes.Turn.TheVariants.{Taken}
use Rattle.hk_plain.specs.Stacks.{with_slot}
use Rattle.hk_plain.specs.Changes.{Changes, unsaved, taken_back, with_gone, objects_with, incarnations_with, slot_saved, leave_saved, dispatch_saved, halt_saved}
use Rattle.hk_plain.specs.Changes.{call_saved}
use Rattle.hk_plain.specs.Changes.{slots_back, processes_back, ready_back}
use Rattle.hk_plain.proofs.Maps.{set_value_absent, set_value_same}
use Rattle.hk_plain.proofs.CountedParts.{inc_order}
use Rattle.hk_plain.proofs.PutBack.{incarnation_put_back, set_inserted, remove_absent}
use Rattle.hk_plain.proofs.WritesTakenBack.{rebuilt, slot_put, process_put, made_slot_back}

-- ---- the state with all that went, and the events

-- where what went is put back the state is this one, but for the events
pub back_with : (v : Saved) (s full after : State) (gone : List (Name × Object)) (left : List (Inc × Incarnation)) → unsaved v full ≡ s
    → with_gone gone left after ≡ counted after.events full → record (unsaved v (with_gone gone left after)) { events = s.events } ≡ s
back_with v s full after gone left leads is =
    ap (λ (t : State). record (unsaved v t) { events = s.events }) is ∙ ap (λ (t : State). record t { events = s.events }) leads

pub taken_back_with : (c : Changes) (s after : State) → record (unsaved c.saved (with_gone c.gone c.left after)) { events = s.events } ≡ s → after.events ≡ s.events + 1
    → taken_back c after ≡ s
taken_back_with c s after leads one =
    let events : after.events - 1 ≡ s.events = omega (arith, one) in
    ap (λ (n : ℕ). record (unsaved c.saved (with_gone c.gone c.left after)) { events = n }) events ∙ leads

-- ---- an object was made, and others went

pub with_made : (s : State) (inc : Inc) (n : ℕ) (stay : List (Name × Object)) (made : Object) (e : Entry) (gone objects : List (Name × Object))
    → objects_with gone objects ≡ insert_entry name_cmp s.objects s.next_name made
    → with_gone gone [] (record (put_slot (add_beside s stay made) inc n e) { objects = objects }) ≡ put_slot (add_object s made) inc n e
with_made s inc n stay made e gone objects is = ap (λ (all : List (Name × Object)). record (put_slot (add_object s made) inc n e) { objects = all }) is

pub made_back : (s : State) (inc : Inc) (into : Slot) (stay : List (Name × Object)) (made : Object) (e : Entry) (gone objects : List (Name × Object))
    → lookup (same_name s.next_name) s.objects ≡ None → objects_with gone objects ≡ insert_entry name_cmp s.objects s.next_name made
    → unsaved (record (slot_saved s inc into) { made = true }) (with_gone gone [] (record (put_slot (add_beside s stay made) inc into.0 e) { objects = objects })) ≡ s
made_back s inc into stay made e gone objects absent is =
    ap (unsaved (record (slot_saved s inc into) { made = true })) (with_made s inc into.0 stay made e gone objects is) ∙ made_slot_back s inc into made e absent

-- ---- an incarnation was left

-- the incarnation that goes, if it was live
abbrev pub left_of : Inc → Option Incarnation → List (Inc × Incarnation)
left_of inc None = []
left_of inc (Some x) = (inc, x) ∷ []

module _ (live : List (Inc × Incarnation)) (sorted : IsStrictlySortedBy inc_cmp (keys_of live)) (inc : Inc) where
  abbrev removed : List (Inc × Incarnation)
  removed = remove_entry (same_inc inc) live

  all_back : (o : Option Incarnation) → lookup (same_inc inc) live ≡ o → incarnations_with (left_of inc o) removed ≡ live
  all_back None absent = remove_absent (same_inc inc) live absent
  all_back (Some x) there = incarnation_put_back live inc x sorted there

  removed_at : (other : Inc) → lookup (same_inc other) removed ≡ cond (same_inc inc other) None (lookup (same_inc other) live)
  removed_at other = lookup-remove_entry inc_laws (same_inc inc) (λ x y h. inc_laws.congr inc x y h) other live (IsDistinct-from_sorted inc_cmp (keys_of live) sorted)

-- what a slot holds, written there again
slot_same : (live : List (Inc × Incarnation)) (inc : Inc) (n : ℕ)
    → slots_back (Some (inc, n, slice_index_or (unwrap_or (lookup (same_inc inc) live) no_incarnation).slots n Empty)) live ≡ live
slot_same live inc n = by (lookup (same_inc inc) live) refl
  where
    again : Incarnation → Incarnation
    again x = record x { slots = slice_set x.slots n (slice_index_or x.slots n Empty) }

    by : (o : Option Incarnation) → lookup (same_inc inc) live ≡ o → set_value (same_inc inc) live (again (unwrap_or o no_incarnation)) ≡ live
    by None absent = set_value_absent (same_inc inc) live no_incarnation absent
    by (Some x) there =
        ap (λ (slots : List Entry). set_value (same_inc inc) live (record x { slots = slots })) (set-get_or x.slots n Empty) ∙ set_value_same (same_inc inc) live x there

-- the slot of the caller, written after the incarnation has gone, and then all written back
slot_back_after : (s : State) (inc caller : Inc) (n : ℕ) (e : Entry) → IsStrictlySortedBy inc_cmp (keys_of s.incarnations) → (o : Option Incarnation)
    → lookup (same_inc inc) s.incarnations ≡ o
    → slots_back (Some (caller, n, slice_index_or (incarnation s caller).slots n Empty))
    (incarnations_with (left_of inc o) (put_slot (record s { incarnations = remove_entry (same_inc inc) s.incarnations }) caller n e).incarnations) ≡ s.incarnations
slot_back_after s inc caller n e sorted None absent =
    ap (λ (live : List (Inc × Incarnation)).
    slots_back (Some (caller, n, slice_index_or (incarnation s caller).slots n Empty)) (put_slot (record s { incarnations = live }) caller n e).incarnations)
    (remove_absent (same_inc inc) s.incarnations absent) ∙ slot_put s caller n e
slot_back_after s inc caller n e sorted (Some x) there = by (same_inc caller inc) refl
  where
    without : List (Inc × Incarnation)
    without = remove_entry (same_inc inc) s.incarnations

    old : Entry
    old = slice_index_or (incarnation s caller).slots n Empty

    whole : insert_entry inc_cmp without inc x ≡ s.incarnations
    whole = incarnation_put_back s.incarnations inc x sorted there

    by : (b : Bool) → same_inc caller inc ≡ b
        → slots_back (Some (caller, n, old)) (insert_entry inc_cmp (set_value (same_inc caller) without (with_slot without caller n e)) inc x) ≡ s.incarnations
    by true same =
        let none : lookup (same_inc caller) without ≡ None =
        removed_at s.incarnations sorted inc caller ∙ ap (λ (b : Bool). cond b None (lookup (same_inc caller) s.incarnations)) (inc_laws.symm inc caller ∙ same) in
        ap (λ (live : List (Inc × Incarnation)). slots_back (Some (caller, n, old)) (insert_entry inc_cmp live inc x))
        (set_value_absent (same_inc caller) without (with_slot without caller n e) none)
        ∙ (ap (slots_back (Some (caller, n, old))) whole ∙ slot_same s.incarnations caller n)
    by false other =
        let stays : lookup (same_inc caller) without ≡ lookup (same_inc caller) s.incarnations =
        removed_at s.incarnations sorted inc caller ∙ ap (λ (b : Bool). cond b None (lookup (same_inc caller) s.incarnations)) (inc_laws.symm inc caller ∙ other) in
        let slot : with_slot without caller n e ≡ with_slot s.incarnations caller n e =
        ap (λ (o : Option Incarnation). let was = unwrap_or o no_incarnation in let w : Incarnation = record was { slots = slice_set was.slots n e } in w) stays in
        ap (slots_back (Some (caller, n, old)))
        (sym (set_inserted inc_cmp inc_order inc_same without inc caller x (with_slot without caller n e) other)
        ∙ (ap (λ (live : List (Inc × Incarnation)). set_value (same_inc caller) live (with_slot without caller n e)) whole
        ∙ ap (λ (w : Incarnation). set_value (same_inc caller) s.incarnations w) slot))
        ∙ slot_put s caller n e

-- a state with the incarnation put back that a call of it left
abbrev pub with_left : State → Inc → State → State
with_left s inc after =
    record after { incarnations = incarnations_with (left_of inc (lookup (same_inc inc) s.incarnations)) after.incarnations }

left_back : (s : State) (proc : Proc) (inc : Inc) → IsStrictlySortedBy inc_cmp (keys_of s.incarnations) → (caller : Option Inc) (into : Slot) (cap : Option Cap)
    → unsaved (leave_saved s proc caller into)
    (with_left s inc (leave_to (record s { incarnations = remove_entry (same_inc inc) s.incarnations }) proc caller into.0 cap)) ≡ s
left_back s proc inc sorted None into cap =
    rebuilt s s.objects (incarnations_with (left_of inc (lookup (same_inc inc) s.incarnations)) (remove_entry (same_inc inc) s.incarnations))
    (processes_back (Some (proc, process s proc)) (put_process s proc (record (process s proc) { run = Ended })).processes) s.ready s.next_name s.next_inc
    refl (all_back s.incarnations sorted inc (lookup (same_inc inc) s.incarnations) refl) (process_put s proc (record (process s proc) { run = Ended })) refl refl refl
left_back s proc inc sorted (Some caller) into None =
    rebuilt s s.objects
    (slots_back (Some (caller, into.0, slice_index_or (incarnation s caller).slots into.0 Empty))
    (incarnations_with (left_of inc (lookup (same_inc inc) s.incarnations)) (remove_entry (same_inc inc) s.incarnations)))
    (processes_back (Some (proc, process s proc)) (put_process s proc (record (process s proc) { current = caller })).processes) s.ready s.next_name s.next_inc
    refl
    (ap (slots_back (Some (caller, into.0, slice_index_or (incarnation s caller).slots into.0 Empty)))
    (all_back s.incarnations sorted inc (lookup (same_inc inc) s.incarnations) refl) ∙ slot_same s.incarnations caller into.0)
    (process_put s proc (record (process s proc) { current = caller })) refl refl refl
left_back s proc inc sorted (Some caller) into (Some cap) =
    rebuilt s s.objects
    (slots_back (Some (caller, into.0, slice_index_or (incarnation s caller).slots into.0 Empty))
    (incarnations_with (left_of inc (lookup (same_inc inc) s.incarnations))
    (put_slot (record s { incarnations = remove_entry (same_inc inc) s.incarnations }) caller into.0 (Held cap)).incarnations))
    (processes_back (Some (proc, process s proc)) (put_process s proc (record (process s proc) { current = caller })).processes) s.ready s.next_name s.next_inc
    refl (slot_back_after s inc caller into.0 (Held cap) sorted (lookup (same_inc inc) s.incarnations) refl)
    (process_put s proc (record (process s proc) { current = caller })) refl refl refl

leave_leads : (s : State) (proc : Proc) (inc : Inc) (give : Option Slot) → IsStrictlySortedBy inc_cmp (keys_of s.incarnations)
    → IfOk (leave s proc inc give) (λ f. unsaved (call_saved s proc inc (call.Leave give)) (with_left s inc f.1) ≡ s)
unfolding leave
leave_leads s proc inc give sorted = search (then_is, left_back)

pub leave_back : (s : State) (proc : Proc) (inc : Inc) (give : Option Slot) (answer : Answer) (after : State) → IsStrictlySortedBy inc_cmp (keys_of s.incarnations)
    → outcome s proc inc (call.Leave give) ≡ Ok (answer, after) → unsaved (call_saved s proc inc (call.Leave give)) (with_left s inc after) ≡ s
leave_back s proc inc give answer after sorted is =
    if_ok (λ (f : Answer × State). unsaved (call_saved s proc inc (call.Leave give)) (with_left s inc f.1) ≡ s) (leave s proc inc give) (answer, after)
    (leave_leads s proc inc give sorted) is

-- ---- a dispatch and a halt

pub dispatch_back : (s : State) (cpu : Cpu) (first : Proc) (after : State) → dispatched s cpu ≡ Some (first, after)
    → unsaved (dispatch_saved s first) (counted s.events after) ≡ s
dispatch_back s cpu first after is = by s.ready refl is
  where
    by : (ready : List Proc) → s.ready ≡ ready → dispatched_from s cpu ready ≡ Some (first, after) → unsaved (dispatch_saved s first) (counted s.events after) ≡ s
    by [] stand found = absurd (cc)
    by (head ∷ rest) stand found =
        let same : head ≡ first = ap (λ (o : Option (Proc × State)). (unwrap_or o (first, after)).0) found in
        let left : counted (s.events + 1) (record (put_process s head (record (process s head) { run = Running cpu })) { ready = rest }) ≡ after =
        ap (λ (o : Option (Proc × State)). (unwrap_or o (first, after)).1) found in
        rw (← left, ← same)
        (rebuilt s s.objects s.incarnations (processes_back (Some (head, process s head)) (put_process s head (record (process s head) { run = Running cpu })).processes)
        (ready_back (Taken head) rest) s.next_name s.next_inc refl refl (process_put s head (record (process s head) { run = Running cpu })) (sym stand) refl refl)

pub halt_back : (s : State) (proc : Proc) (left : List (Inc × Incarnation)) → incarnations_with left (ended s proc).incarnations ≡ s.incarnations
    → unsaved (halt_saved s proc) (record (ended s proc) { incarnations = incarnations_with left (ended s proc).incarnations }) ≡ s
halt_back s proc left is =
    rebuilt s s.objects (incarnations_with left (filter (λ (e : Inc × Incarnation). not (e.1.proc.0 == proc.0)) s.incarnations))
    (processes_back (Some (proc, process s proc)) (put_process s proc (record (process s proc) { run = Ended })).processes) s.ready s.next_name s.next_inc
    refl is (process_put s proc (record (process s proc) { run = Ended })) refl refl refl
