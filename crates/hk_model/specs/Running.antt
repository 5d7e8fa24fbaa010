-- Steps of processors, and the state after a history. docs/RULES.md, "Steps of processors".
use Rattle.std.specs.Prelude.{◌≡◌, ℕ, List, [], ◌∷◌, Option, Some, None, if◌then◌else◌, slice_get, slice_set, map, option_map, nat_lt, take}
use Rattle.std.specs.Option.{unwrap_or}
use Rattle.hk_model.specs.declared.names.Proc.{Proc}
use Rattle.hk_model.specs.declared.names.Cpu.{Cpu}
use Rattle.hk_model.specs.declared.calls.Reply.{Reply}
use Rattle.hk_model.specs.declared.calls.Reply.TheVariants.{Done}
use Rattle.hk_model.specs.declared.lines.What.{What}
use Rattle.hk_model.specs.declared.lines.What.TheVariants as what
use Rattle.hk_model.specs.declared.lines.Line.{Line}
use Rattle.hk_model.specs.declared.frames.Todo.{Todo}
use Rattle.hk_model.specs.declared.frames.Todo.TheVariants.{Do, Halt}
use Rattle.hk_model.specs.declared.world.Task.{Task}
use Rattle.hk_model.specs.Limits.{cpu_limit}
use Rattle.hk_model.specs.WorldValue.{WorldValue}
use Rattle.hk_model.specs.State.{State, process}
use Rattle.hk_model.specs.Opening.{opening}
use Rattle.hk_model.specs.Rule.{rule}
use Rattle.hk_model.specs.Processors.{runner, may_step, dispatched, halted, entered_code}
use Rattle.hk_model.specs.Control.{Context, new_frame, next, after}

-- a kernel's state, with the control of each process
pub record Machine : Type 0 where
  pub state : State
  pub contexts : List Context

-- the machine in which a world opens: each process stands at the beginning of its code
unfoldable pub opened : WorldValue → Machine
opened w = record { state = opening w; contexts = map (λ (t : Task). new_frame t.code ∷ []) w.tasks }

-- the control of a process
abbrev pub context_of : Machine → Proc → Context
context_of m proc = unwrap_or (slice_get m.contexts proc.0) []

-- what a process does by what is next of it: the event, its reply, and the state and the frames after it
abbrev pub turn : WorldValue → State → Proc → Todo × Context → What × Reply × State × Context
turn w s proc (Do c, context) =
    let found = rule s proc c in
    (what.Call c, found.0, found.1, after w context c found.0 (entered_code s (process s proc).current c found.0))
turn w s proc (Halt, context) = (what.Halt, Done, halted s proc, [])

-- the event of a process, whose local instructions have led to this
abbrev pub event : WorldValue → Machine → Cpu → Proc → Todo × Context → Line × Machine
event w m cpu proc todo =
    let made = turn w m.state proc todo in (
      record { cpu = cpu; proc = proc; inc = (process m.state proc).current; what = made.0; reply = made.1 },
      record { state = made.2; contexts = slice_set m.contexts proc.0 made.3 },
    )

-- the dispatch of the first ready process
abbrev pub dispatch_event : Machine → Cpu → Option (Proc × State) → Option (Line × Machine)
dispatch_event m cpu None = None
dispatch_event m cpu (Some (proc, s)) =
    Some (
      record { cpu = cpu; proc = proc; inc = (process m.state proc).current; what = what.Dispatch; reply = Done },
      record m { state = s },
    )

-- the event of a processor: of the process that it runs, or else a dispatch
abbrev pub event_of : WorldValue → Machine → Cpu → Option Proc → Option (Line × Machine)
event_of w m cpu (Some proc) = Some (event w m cpu proc (next w (context_of m proc)))
event_of w m cpu None = dispatch_event m cpu (dispatched m.state cpu)

-- the step of a processor, if it has one: a processor has no choice
unfoldable pub step : WorldValue → Machine → Cpu → Option (Line × Machine)
step w m cpu =
    if may_step m.state then (if nat_lt cpu.0 cpu_limit then event_of w m cpu (runner m.state cpu) else None) else None

-- the line of that step
abbrev pub line_of : WorldValue → Machine → Cpu → Option Line
line_of w m cpu = option_map (λ found. found.0) (step w m cpu)

-- the machine after the step of a processor, if it has one
abbrev pub moved : WorldValue → Machine → Cpu → Machine
moved w m cpu = unwrap_or (option_map (λ found. found.1) (step w m cpu)) m

-- the machine after these lines
abbrev pub after_lines : WorldValue → Machine → List Line → Machine
after_lines w m [] = m
after_lines w m (line ∷ lines) = after_lines w (moved w m line.cpu) lines

-- each line is the step of its processor after the lines before it
abbrev pub AreSteps : WorldValue → Machine → List Line → Type 0
AreSteps w m [] = Unit {0}
AreSteps w m (line ∷ lines) = (line_of w m line.cpu ≡ Some line) × AreSteps w (moved w m line.cpu) lines

-- the lines are steps of the world, from its opening on
abbrev pub AreStepsOf : WorldValue → List Line → Type 0
AreStepsOf w lines = AreSteps w (opened w) lines

-- the machine and the state at a moment, which is after so many of the lines
abbrev pub machine_at : WorldValue → List Line → ℕ → Machine
machine_at w lines moment = after_lines w (opened w) (take moment lines)

abbrev pub state_at : WorldValue → List Line → ℕ → State
state_at w lines moment = (machine_at w lines moment).state

-- the state after all of the lines
abbrev pub state_after : WorldValue → List Line → State
state_after w lines = (after_lines w (opened w) lines).state
