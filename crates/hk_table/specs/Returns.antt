-- What a process does that leaves its current incarnation. docs/RULES.md, "Calls of procedures".
use Rattle.std.specs.Prelude.{◌≡◌, Option, Some, None}
use Rattle.std.specs.Map.{remove_entry}
use Rattle.hk_model.specs.declared.names.Inc.{Inc}
use Rattle.hk_model.specs.declared.entries.Cap.{Cap}
use Rattle.hk_model.specs.Rule.{leave_to}
use Rattle.hk_model.specs.declared.names.Proc.{Proc}
use Rattle.hk_model.specs.declared.names.Slot.{Slot}
use Rattle.hk_model.specs.declared.objects.ProcessState.TheVariants.{Ended}
use Rattle.hk_model.specs.State.{State, incarnation, process, put_process, same_inc}

-- the state without an incarnation
abbrev pub without_one : State → Inc → State
without_one s inc = record s { incarnations = remove_entry (same_inc inc) s.incarnations }

-- the process is in the caller now, where this slot takes what is returned; or there is no caller, and it has ended
abbrev pub GoesBack : State → Proc → Inc → Option Slot → State → Type 0
GoesBack before proc inc None after =
    ((incarnation before inc).caller ≡ None) × (after ≡ put_process (without_one before inc) proc (record (process before proc) { run = Ended }))
GoesBack before proc inc (Some into) after =
    (caller : Inc) × ((incarnation before inc).caller ≡ Some caller) × ((incarnation before inc).into ≡ into)
    × (after ≡ put_process (without_one before inc) proc (record (process before proc) { current = caller }))

-- the process has returned from that incarnation, with this capability for the caller, if any
abbrev pub returned_with : State → Proc → Inc → Option Cap → State
returned_with s proc inc cap = leave_to (without_one s inc) proc (incarnation s inc).caller (incarnation s inc).into.0 cap
