-- What a list of notes shows: all that follows from its lines. docs/TURNS.md, "The desk".
use Rattle.std.specs.Prelude.{◌≡◌, Bool, ◌||◌, ◌&&◌, not, List, Some, None}
use Rattle.std.specs.List.{list_any}
use Rattle.hk_model.specs.declared.objects.Process.{Process}
use Rattle.hk_model.specs.declared.names.Proc.{Proc}
use Rattle.hk_model.specs.declared.names.Cpu.{Cpu}
use Rattle.hk_model.specs.declared.frames.Todo.{Todo}
use Rattle.hk_model.specs.WorldValue.{WorldValue}
use Rattle.hk_model.specs.State.{State, process}
use Rattle.hk_model.specs.Control.{Context, next}
use Rattle.hk_model.specs.Processors.{runner, may_step, is_over, is_ready, is_running}
use Rattle.hk_model.specs.Running.{Machine, opened, after_lines, context_of}
use Rattle.hk_program.specs.Contexts.{AreFrames}
use Rattle.hk_procs.specs.declared.notes.Noted.{Noted}
use Rattle.hk_procs.specs.Notes.{lines_of}

-- the machine after the lines
abbrev pub machine_shown : WorldValue → List Noted → Machine
machine_shown w notes = after_lines w (opened w) (lines_of notes)

abbrev pub state_shown : WorldValue → List Noted → State
state_shown w notes = (machine_shown w notes).state

-- the processor runs nothing
abbrev pub RunsNothing : WorldValue → Cpu → List Noted → Type 0
RunsNothing w cpu notes = runner (state_shown w notes) cpu ≡ None

-- the processor runs the process, whose control is the context
abbrev pub Runs : WorldValue → Cpu → List Noted → Proc → Context → Type 0
Runs w cpu notes proc context =
    (runner (state_shown w notes) cpu ≡ Some proc) × (context ≡ context_of (machine_shown w notes) proc)

-- the same, and the context has frames of the world
abbrev pub HandsOut : WorldValue → Cpu → List Noted → Proc → Context → Type 0
HandsOut w cpu notes proc context = Runs w cpu notes proc context × AreFrames w context

-- the process waits, is ready or has ended
abbrev pub has_left_shown : WorldValue → List Noted → Proc → Bool
has_left_shown w notes proc = not (is_running (process (state_shown w notes) proc).run)

-- the processor runs the process; this is next for it, and its local instructions up to there leave the context
abbrev pub MakesNext : WorldValue → Cpu → List Noted → Proc → Todo → Context → Type 0
MakesNext w cpu notes proc todo context =
    (runner (state_shown w notes) cpu ≡ Some proc) × ((todo, context) ≡ next w (context_of (machine_shown w notes) proc))

-- the limit on events is reached
abbrev pub is_limit_shown : WorldValue → List Noted → Bool
is_limit_shown w notes = not (may_step (state_shown w notes))

-- the limit is reached, or no process is ready and none runs
abbrev pub is_end_shown : WorldValue → List Noted → Bool
is_end_shown w notes = is_limit_shown w notes || is_over (state_shown w notes)

-- below the limit no process is ready, and some process runs
abbrev pub is_idle_of : State → Bool
is_idle_of s =
    may_step s && not (list_any (λ (p : Process). is_ready p.run) s.processes) && list_any (λ (p : Process). is_running p.run) s.processes

abbrev pub is_idle_shown : WorldValue → List Noted → Bool
is_idle_shown w notes = is_idle_of (state_shown w notes)
