-- How a worker goes on, and how it ends, by what its pass has seen. docs/TURNS.md, "Workers".
use Rattle.std.specs.Prelude.{◌≡◌, true, List, Option, Some, None}
use Rattle.hk_model.specs.declared.names.Proc.{Proc}
use Rattle.hk_model.specs.declared.names.Cpu.{Cpu}
use Rattle.hk_model.specs.Control.{Context}
use Rattle.hk_model.specs.WorldValue.{WorldValue}
use Rattle.hk_procs.specs.declared.notes.Noted.{Noted}
use Rattle.hk_procs.specs.declared.worker.Ended.{Ended}
use Rattle.hk_procs.specs.declared.worker.Ended.TheVariants as ended
use Rattle.hk_procs.specs.declared.worker.Outcome.{Outcome}
use Rattle.hk_procs.specs.declared.worker.Outcome.TheVariants as outcome
use Rattle.hk_procs.specs.Notes.{IsStopped, IsStoppedBy}
use Rattle.hk_procs.specs.Shown.{RunsNothing, HandsOut, is_end_shown}

-- why it has ended
abbrev pub Ends : WorldValue → Cpu → List Noted → Ended → Type 0
Ends w cpu notes ended.Over = is_end_shown w notes ≡ true
Ends w cpu notes ended.Stopped = IsStopped notes
Ends w cpu notes ended.NoMemory = IsStoppedBy cpu notes

-- what the processor runs, if anything
abbrev pub Holds : WorldValue → Cpu → List Noted → Option (Proc × Context) → Type 0
Holds w cpu notes None = RunsNothing w cpu notes
Holds w cpu notes (Some (proc, context)) = HandsOut w cpu notes proc context

-- what comes of a call of the desk
abbrev pub ComesTo : WorldValue → Cpu → List Noted → Outcome → Type 0
ComesTo w cpu notes (outcome.Goes held) = Holds w cpu notes held
ComesTo w cpu notes outcome.Idles = RunsNothing w cpu notes
ComesTo w cpu notes (outcome.Ends ended) = Ends w cpu notes ended
