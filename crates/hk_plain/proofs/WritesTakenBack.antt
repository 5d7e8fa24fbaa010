-- What a write saves leads back over it: parts of objects, slots, processes, the ready list, what is made and entered.
use Rattle.std.proofs.Common.{◌≡◌, ℕ, zero, suc, ◌+◌, ◌-◌, List, [], ◌∷◌, ◌++◌, length, take, true, Some, None, Ok, refl, ◌∙◌, ap, arith}
use Rattle.std.specs.Prelude.{slice_get, slice_set, slice_index_or}
use Rattle.std.specs.Map.{lookup, set_value, remove_entry}
use Rattle.std.specs.Option.{unwrap_or}
use Rattle.std.specs.BTreeMap.{insert_entry}
use Rattle.std.proofs.lemmas.List.{set-set, set-get_or, take_at, length-append}
use Rattle.hk_model.specs.declared.names.Name.{Name}
use Rattle.hk_model.specs.declared.names.Inc.{Inc}
use Rattle.hk_model.specs.declared.names.Proc.{Proc}
use Rattle.hk_model.specs.declared.names.Slot.{Slot}
use Rattle.hk_model.specs.declared.entries.Entry.{Entry}
use Rattle.hk_model.specs.declared.entries.Entry.TheVariants.{Empty}
use Rattle.hk_model.specs.declared.objects.Object.{Object}
use Rattle.hk_model.specs.declared.objects.Incarnation.{Incarnation}
use Rattle.hk_model.specs.declared.objects.Process.{Process}
use Rattle.hk_model.specs.declared.objects.ProcessState.TheVariants.{Ended}
use Rattle.hk_model.specs.State.{State, object, incarnation, process, put_object, put_slot, put_process, add_object, same_name, same_inc, name_cmp, inc_cmp}
use Rattle.hk_model.specs.State.{no_object, no_incarnation}
use Rattle.hk_model.specs.Rule.{enter}
use Rattle.hk_model.specs.Targets.{slot_at}
use Rattle.hk_model.proofs.TestLemmas.{slot_is}
use Rattle.hk_plain.specs.declared.changes.Part.{Part}
use Rattle.hk_plain.specs.Changes.{unsaved, nothing_saved, slot_saved, process_saved, part_back, parts_back, slots_back, processes_back}
use Rattle.hk_plain.proofs.PutBack.{set_back, object_taken_out, incarnation_taken_out}

-- ---- lists

pub set_read : {X : Type 0} (xs : List X) (n : ℕ) (y d : X) → slice_set (slice_set xs n y) n (slice_index_or xs n d) ≡ xs
set_read xs n y d = set-set xs n y (slice_index_or xs n d) ∙ set-get_or xs n d

pub set_got : {X : Type 0} (xs : List X) (n : ℕ) (y d : X) → slice_set (slice_set xs n y) n (unwrap_or (slice_get xs n) d) ≡ xs
set_got [] n y d = refl
set_got (x ∷ xs) zero y d = refl
set_got (x ∷ xs) (suc n) y d = ap (λ (rest : List _). x ∷ rest) (set_got xs n y d)

pub last_off : {X : Type 0} (xs : List X) (y : X) → take (length (xs ++ y ∷ []) - 1) (xs ++ y ∷ []) ≡ xs
last_off xs y = take_at xs (y ∷ []) (length (xs ++ y ∷ []) - 1) (let n = length-append xs (y ∷ []) in omega (arith, n))

-- ---- parts of the state

-- a state is another where each of its parts that an event changes is
pub rebuilt : (s : State) (objects : List (Name × Object)) (live : List (Inc × Incarnation)) (processes : List Process) (ready : List Proc) (name : Name) (inc : Inc)
    → objects ≡ s.objects → live ≡ s.incarnations → processes ≡ s.processes → ready ≡ s.ready → name ≡ s.next_name → inc ≡ s.next_inc
    → record s { objects = objects; incarnations = live; processes = processes; ready = ready; next_name = name; next_inc = inc } ≡ s
rebuilt s objects live processes ready name inc a b c d e f =
    λ i. record s { objects = a i; incarnations = b i; processes = c i; ready = d i; next_name = e i; next_inc = f i }

-- an object that was changed
pub part_put : (s : State) (name : Name) (part : Part) (o : Object) → part_back part o ≡ object s name
    → parts_back (Some (name, part)) (set_value (same_name name) s.objects o) ≡ s.objects
part_put s name part o leads = set_back (same_name name) s.objects no_object o (part_back part) leads

pub object_back : (s : State) (name : Name) (part : Part) (o : Object) → part_back part o ≡ object s name
    → unsaved (record nothing_saved { part = Some (name, part) }) (put_object s name o) ≡ s
object_back s name part o leads = ap (λ (objects : List (Name × Object)). record s { objects = objects }) (part_put s name part o leads)

-- a slot that was written
pub slot_put : (s : State) (inc : Inc) (n : ℕ) (e : Entry)
    → slots_back (Some (inc, n, slice_index_or (incarnation s inc).slots n Empty)) (put_slot s inc n e).incarnations ≡ s.incarnations
slot_put s inc n e =
    set_back (same_inc inc) s.incarnations no_incarnation (record (incarnation s inc) { slots = slice_set (incarnation s inc).slots n e })
    (λ (x : Incarnation). record x { slots = slice_set x.slots n (slice_index_or (incarnation s inc).slots n Empty) })
    (ap (λ (slots : List Entry). record (incarnation s inc) { slots = slots }) (set_read (incarnation s inc).slots n e Empty))

pub slot_back : (s : State) (inc : Inc) (into : Slot) (step n : ℕ) (e : Entry) → slot_at into step ≡ Ok n → unsaved (slot_saved s inc into) (put_slot s inc n e) ≡ s
slot_back s inc into step n e at =
    let same : n ≡ into.0 = slot_is into step n at in
    rw same (ap (λ (live : List (Inc × Incarnation)). record s { incarnations = live }) (slot_put s inc into.0 e))

-- a process that was changed
pub process_put : (s : State) (proc : Proc) (new : Process) → processes_back (Some (proc, process s proc)) (put_process s proc new).processes ≡ s.processes
process_put s proc new = set_got s.processes proc.0 new (record { run = Ended; current = record { 0 = 0 } })

pub process_back : (s : State) (proc : Proc) (new : Process) → unsaved (process_saved s proc) (put_process s proc new) ≡ s
process_back s proc new = ap (λ (processes : List Process). record s { processes = processes }) (process_put s proc new)

-- the numbers that were given
name_before : (name : Name) → ◌≡◌ {A = Name} (record { 0 = name.0 + 1 - 1 }) name
name_before name = ap (λ (n : ℕ). let it : Name = record { 0 = n } in it) (let e : name.0 + 1 - 1 ≡ name.0 = omega arith in e)

inc_before : (inc : Inc) → ◌≡◌ {A = Inc} (record { 0 = inc.0 + 1 - 1 }) inc
inc_before inc = ap (λ (n : ℕ). let it : Inc = record { 0 = n } in it) (let e : inc.0 + 1 - 1 ≡ inc.0 = omega arith in e)

-- an object that was made, and the slot that it was put in
pub made_slot_back : (s : State) (inc : Inc) (into : Slot) (new : Object) (e : Entry) → lookup (same_name s.next_name) s.objects ≡ None
    → unsaved (record (slot_saved s inc into) { made = true }) (put_slot (add_object s new) inc into.0 e) ≡ s
made_slot_back s inc into new e absent =
    rebuilt s (remove_entry (same_name (record { 0 = s.next_name.0 + 1 - 1 })) (insert_entry name_cmp s.objects s.next_name new))
    (slots_back (Some (inc, into.0, slice_index_or (incarnation s inc).slots into.0 Empty)) (put_slot s inc into.0 e).incarnations) s.processes s.ready
    (record { 0 = s.next_name.0 + 1 - 1 }) s.next_inc
    (ap (λ (name : Name). remove_entry (same_name name) (insert_entry name_cmp s.objects s.next_name new)) (name_before s.next_name)
    ∙ object_taken_out s.objects s.next_name new absent)
    (slot_put s inc into.0 e) refl refl (name_before s.next_name) refl

-- an incarnation that was entered
pub entered_back_to : (s : State) (new : Incarnation) → lookup (same_inc s.next_inc) s.incarnations ≡ None
    → unsaved (record (process_saved s new.proc) { entered = true }) (enter s new) ≡ s
entered_back_to s new absent =
    rebuilt s s.objects (remove_entry (same_inc (record { 0 = s.next_inc.0 + 1 - 1 })) (insert_entry inc_cmp s.incarnations s.next_inc new))
    (processes_back (Some (new.proc, process s new.proc)) (enter s new).processes) s.ready s.next_name (record { 0 = s.next_inc.0 + 1 - 1 })
    refl
    (ap (λ (inc : Inc). remove_entry (same_inc inc) (insert_entry inc_cmp s.incarnations s.next_inc new)) (inc_before s.next_inc)
    ∙ incarnation_taken_out s.incarnations s.next_inc new absent)
    (process_put s new.proc (record (process s new.proc) { current = s.next_inc })) refl refl (inc_before s.next_inc)
