-- Machines that a world comes to. docs/RULES.md, "Steps of processors".
use Rattle.std.specs.Prelude.{◌≡◌, ℕ, List, length, Option, Some, None}
use Rattle.std.specs.Option.{option_and_then}
use Rattle.hk_model.specs.declared.calls.Call.{Call}
use Rattle.hk_model.specs.declared.frames.Todo.{Todo}
use Rattle.hk_model.specs.declared.frames.Todo.TheVariants.{Do, Halt}
use Rattle.hk_model.specs.declared.lines.Line.{Line}
use Rattle.hk_model.specs.declared.names.Cpu.{Cpu}
use Rattle.hk_model.specs.declared.names.Proc.{Proc}
use Rattle.hk_model.specs.WorldValue.{WorldValue, IsWorld}
use Rattle.hk_model.specs.Control.{next}
use Rattle.hk_model.specs.Processors.{runner}
use Rattle.hk_model.specs.Rule.{depth}
use Rattle.hk_model.specs.Running.{Machine, AreStepsOf, after_lines, context_of, machine_at, opened, state_at}

-- the machine after a history of the world
pub record IsSound (w : WorldValue) (m : Machine) : Type 0 where
  pub world : IsWorld w
  pub lines : List Line
  pub steps : AreStepsOf w lines
  pub is : m ≡ after_lines w (opened w) lines

-- at every moment a process has one frame for each of its live incarnations
abbrev pub OneFrameEach : WorldValue → List Line → Type 0
OneFrameEach w lines = (moment : ℕ) (proc : Proc) → length (context_of (machine_at w lines moment) proc) ≡ depth (state_at w lines moment) proc

-- the call that is next of a process: none where it ends
abbrev pub called : Todo → Option Call
called (Do c) = Some c
called Halt = None

-- the call that the process of a processor makes next: none where the processor runs nothing, or its process ends
abbrev pub next_call : WorldValue → Machine → Cpu → Option Call
next_call w m cpu = option_and_then (λ (proc : Proc). called (next w (context_of m proc)).0) (runner m.state cpu)
