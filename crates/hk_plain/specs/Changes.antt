-- What an event changed, and the state before it. docs/RULES.md, "Lines taken back".
use Rattle.std.specs.Prelude.{◌≡◌, ℕ, ◌-◌, ◌<◌, ◌⊎◌, ⊤, Bool, true, false, List, [], ◌∷◌, length, take, Option, Some, None, IfSome, Result, Ok, Err, nat_lt, slice_get, slice_set, slice_index_or, if◌then◌else◌}
use Rattle.std.specs.Map.{lookup, set_value, remove_entry}
use Rattle.std.specs.BTreeMap.{insert_entry}
use Rattle.hk_model.specs.declared.names.Name.{Name}
use Rattle.hk_model.specs.declared.names.Inc.{Inc}
use Rattle.hk_model.specs.declared.names.Proc.{Proc}
use Rattle.hk_model.specs.declared.names.Slot.{Slot}
use Rattle.hk_model.specs.declared.entries.Cap.{Cap}
use Rattle.hk_model.specs.declared.entries.Entry.{Entry}
use Rattle.hk_model.specs.declared.entries.Entry.TheVariants.{Empty}
use Rattle.hk_model.specs.declared.calls.Refusal.{Refusal}
use Rattle.hk_model.specs.declared.calls.Call.{Call}
use Rattle.hk_model.specs.declared.calls.Call.TheVariants as call
use Rattle.hk_model.specs.declared.objects.Object.{Object}
use Rattle.hk_model.specs.declared.objects.Incarnation.{Incarnation}
use Rattle.hk_model.specs.declared.objects.Process.{Process}
use Rattle.hk_model.specs.declared.objects.ProcessState.{ProcessState}
use Rattle.hk_model.specs.declared.objects.ProcessState.TheVariants.{Ready, Running, Waiting, Ended}
use Rattle.hk_model.specs.State.{State, object, incarnation, process, same_name, same_inc, name_cmp, inc_cmp}
use Rattle.hk_model.specs.Keeping.{stands}
use Rattle.hk_model.specs.Processors.{runner}
use Rattle.hk_model.specs.Targets.{target, is_general, is_listed, is_of_type, SEMAPHORE, PUTDATA+MODIFY, ADDDATA+MODIFY, STORE+MODIFY, APPEND+MODIFY, KILL+MODIFY, MODIFY+A0, MODIFY+A1}
use Rattle.hk_plain.specs.declared.changes.Part.{Part}
use Rattle.hk_plain.specs.declared.changes.Part.TheVariants.{Word, Item, NewWord, NewItem, Tokens, NewWaiter, FirstWaiter}
use Rattle.hk_plain.specs.declared.changes.Turn.{Turn}
use Rattle.hk_plain.specs.declared.changes.Turn.TheVariants.{Same, Joined, Taken}
use Rattle.hk_plain.specs.declared.changes.Saved.{Saved}
use Rattle.hk_plain.specs.Counts.{object_in}
use Rattle.hk_plain.specs.Stacks.{with_slot}
use Rattle.hk_plain.specs.Numbers.{FewNumbers}

-- what an event saved, and the objects and incarnations that went by it, in the order in which they went
pub record Changes : Type 0 where
  pub saved : Saved
  pub gone : List (Name × Object)
  pub left : List (Inc × Incarnation)

-- these objects put back among others, the last that went first; and incarnations likewise
abbrev pub objects_with : List (Name × Object) → List (Name × Object) → List (Name × Object)
objects_with [] objects = objects
objects_with (e ∷ gone) objects = insert_entry name_cmp (objects_with gone objects) e.0 e.1

abbrev pub incarnations_with : List (Inc × Incarnation) → List (Inc × Incarnation) → List (Inc × Incarnation)
incarnations_with [] live = live
incarnations_with (e ∷ left) live = insert_entry inc_cmp (incarnations_with left live) e.0 e.1

-- the state with what went put back
abbrev pub with_gone : List (Name × Object) → List (Inc × Incarnation) → State → State
with_gone gone left s = record s { objects = objects_with gone s.objects; incarnations = incarnations_with left s.incarnations }

-- an object before a part of it was written
abbrev pub part_back : Part → Object → Object
part_back (Word at old) o = record o { words = slice_set o.words at old }
part_back (Item at old) o = record o { entries = slice_set o.entries at old }
part_back NewWord o = record o { words = take (length o.words - 1) o.words }
part_back NewItem o = record o { entries = take (length o.entries - 1) o.entries }
part_back (Tokens old) o = record o { count = old }
part_back NewWaiter o = record o { waiters = take (length o.waiters - 1) o.waiters }
part_back (FirstWaiter first) o = record o { waiters = first ∷ o.waiters }

abbrev pub parts_back : Option (Name × Part) → List (Name × Object) → List (Name × Object)
parts_back None objects = objects
parts_back (Some (name, part)) objects = set_value (same_name name) objects (part_back part (object_in objects name))

abbrev pub slots_back : Option (Inc × ℕ × Entry) → List (Inc × Incarnation) → List (Inc × Incarnation)
slots_back None live = live
slots_back (Some (inc, slot, old)) live = set_value (same_inc inc) live (with_slot live inc slot old)

abbrev pub processes_back : Option (Proc × Process) → List Process → List Process
processes_back None processes = processes
processes_back (Some (proc, old)) processes = slice_set processes proc.0 old

abbrev pub ready_back : Turn → List Proc → List Proc
ready_back Same ready = ready
ready_back Joined ready = take (length ready - 1) ready
ready_back (Taken first) ready = first ∷ ready

-- the last name and the last incarnation number that were given
abbrev pub last_name : State → Name
last_name s = record { 0 = s.next_name.0 - 1 }

abbrev pub last_inc : State → Inc
last_inc s = record { 0 = s.next_inc.0 - 1 }

-- the objects without the last made one, and the incarnations without the last entered one, where there is one
abbrev pub made_back : Bool → State → List (Name × Object)
made_back made s = if made then remove_entry (same_name (last_name s)) s.objects else s.objects

abbrev pub entered_back : Bool → State → List (Inc × Incarnation)
entered_back entered s = if entered then remove_entry (same_inc (last_inc s)) s.incarnations else s.incarnations

-- the state before an event by which nothing went, from what it saved; the events are not counted here
abbrev pub unsaved : Saved → State → State
unsaved v s = record s {
  objects = parts_back v.part (made_back v.made s);
  incarnations = slots_back v.slot (entered_back v.entered s);
  processes = processes_back v.process s.processes;
  ready = ready_back v.turn s.ready;
  next_name = if v.made then last_name s else s.next_name;
  next_inc = if v.entered then last_inc s else s.next_inc;
}

-- the state before an event that changed this
abbrev pub taken_back : Changes → State → State
taken_back c s = record (unsaved c.saved (with_gone c.gone c.left s)) { events = s.events - 1 }

-- what an event saves that writes nothing over
abbrev pub nothing_saved : Saved
nothing_saved = record { part = None; slot = None; process = None; turn = Same; made = false; entered = false }

-- the part of the object that a path leads to
abbrev pub part_saved : State → Result Cap Refusal → (Object → Part) → Saved
part_saved s (Ok cap) part = record nothing_saved { part = Some (cap.name, part (object s cap.name)) }
part_saved s (Err refusal) part = nothing_saved

-- a slot, and a process
abbrev pub slot_saved : State → Inc → Slot → Saved
slot_saved s inc slot = record nothing_saved { slot = Some (inc, slot.0, slice_index_or (incarnation s inc).slots slot.0 Empty) }

abbrev pub process_saved : State → Proc → Saved
process_saved s proc = record nothing_saved { process = Some (proc, process s proc) }

-- Leave: the process, and the slot of the caller that may take what is returned
abbrev pub leave_saved : State → Proc → Option Inc → Slot → Saved
leave_saved s proc None into = process_saved s proc
leave_saved s proc (Some caller) into = record (slot_saved s caller into) { process = Some (proc, process s proc) }

-- P: the tokens, or one more that waits
abbrev pub wait_saved : State → Proc → Result Cap Refusal → Saved
wait_saved s proc (Err refusal) = nothing_saved
wait_saved s proc (Ok cap) =
    if nat_lt 0 (object s cap.name).count then record nothing_saved { part = Some (cap.name, Tokens (object s cap.name).count) }
    else record (process_saved s proc) { part = Some (cap.name, NewWaiter) }

-- V: the tokens, or the first that waits and now is ready
abbrev pub token_saved : State → Name → List Proc → Saved
token_saved s name [] = record nothing_saved { part = Some (name, Tokens (object s name).count) }
token_saved s name (first ∷ rest) = record (process_saved s first) { part = Some (name, FirstWaiter first); turn = Joined }

abbrev pub give_saved : State → Result Cap Refusal → Saved
give_saved s (Err refusal) = nothing_saved
give_saved s (Ok cap) = token_saved s cap.name (object s cap.name).waiters

-- what a call of a process in its current incarnation saves, if it is answered
abbrev pub call_saved : State → Proc → Inc → Call → Saved
call_saved s proc inc (call.Get of at) = nothing_saved
call_saved s proc inc (call.Put of at word) = part_saved s (target s inc of is_general PUTDATA+MODIFY) (λ (o : Object). Word at (slice_index_or o.words at 0))
call_saved s proc inc (call.Add of word) = part_saved s (target s inc of is_general ADDDATA+MODIFY) (λ (o : Object). NewWord)
call_saved s proc inc (call.Length of) = nothing_saved
call_saved s proc inc (call.Load from into) = slot_saved s inc into
call_saved s proc inc (call.Store list at from) = part_saved s (target s inc list is_listed STORE+MODIFY) (λ (o : Object). Item at (slice_index_or o.entries at Empty))
call_saved s proc inc (call.Append list from) = part_saved s (target s inc list is_listed APPEND+MODIFY) (λ (o : Object). NewItem)
call_saved s proc inc (call.Erase list at) = part_saved s (target s inc list is_listed KILL+MODIFY) (λ (o : Object). Item at (slice_index_or o.entries at Empty))
call_saved s proc inc (call.Drop slot) = slot_saved s inc slot
call_saved s proc inc (call.Restrict slot keep) = slot_saved s inc slot
call_saved s proc inc (call.Look of) = nothing_saved
call_saved s proc inc (call.MakeTemplate of kind into) = slot_saved s inc into
call_saved s proc inc (call.Create by into) = record (slot_saved s inc into) { made = true }
call_saved s proc inc (call.Merge with cap into) = slot_saved s inc into
call_saved s proc inc (call.Copy of into) = record (slot_saved s inc into) { made = true }
call_saved s proc inc (call.Enter path args into) = record (process_saved s proc) { entered = true }
call_saved s proc inc (call.Leave give) = leave_saved s proc (incarnation s inc).caller (incarnation s inc).into
call_saved s proc inc (call.P of) = wait_saved s proc (target s inc of (is_of_type SEMAPHORE) MODIFY+A0)
call_saved s proc inc (call.V of) = give_saved s (target s inc of (is_of_type SEMAPHORE) MODIFY+A1)
call_saved s proc inc call.Yield = record (process_saved s proc) { turn = Joined }

-- a dispatch, and a halt
abbrev pub dispatch_saved : State → Proc → Saved
dispatch_saved s first = record (process_saved s first) { turn = Taken first }

abbrev pub halt_saved : State → Proc → Saved
halt_saved s proc = process_saved s proc

-- the numbers are few, and each object that stands has a name that was given
pub record IsWhole (s : State) : Type 0 where
  pub numbers : FewNumbers s
  pub given : (n : Name) → stands s n ≡ true → n.0 < s.next_name.0

-- each of those that went is new among the others, the last that went first
abbrev pub AreNewObjects : List (Name × Object) → List (Name × Object) → Type 0
AreNewObjects [] objects = ⊤
AreNewObjects (e ∷ gone) objects = (lookup (same_name e.0) (objects_with gone objects) ≡ None) × AreNewObjects gone objects

abbrev pub AreNewIncarnations : List (Inc × Incarnation) → List (Inc × Incarnation) → Type 0
AreNewIncarnations [] live = ⊤
AreNewIncarnations (e ∷ left) live = (lookup (same_inc e.0) (incarnations_with left live) ≡ None) × AreNewIncarnations left live

-- a process that ran on a processor can run there: it does, or the processor runs nothing
abbrev pub CanRun : State → Proc → ProcessState → Type 0
CanRun s proc Ready = ⊤
CanRun s proc (Running cpu) = (cpu.0 < 16) × (((process s proc).run ≡ Running cpu) ⊎ (runner s cpu ≡ None))
CanRun s proc (Waiting at) = ⊤
CanRun s proc Ended = ⊤

-- what an event that changed this leaves behind, so that it can be taken back
pub record IsBehind (c : Changes) (s : State) : Type 0 where
  pub whole : IsWhole (taken_back c s)
  pub objects : AreNewObjects c.gone s.objects
  pub incarnations : AreNewIncarnations c.left s.incarnations
  pub below : (e : Inc × Incarnation) → (k : ℕ) → slice_get c.left k ≡ Some e → e.0.0 < s.next_inc.0
  pub process : IfSome c.saved.process (λ (p : Proc × Process). CanRun s p.0 p.1.run)
