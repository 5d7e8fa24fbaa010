-- The contexts that a desk keeps. docs/TURNS.md, "The shared kernel".
use Rattle.std.specs.Prelude.{◌≡◌, ◌||◌, ℕ, Bool, true, List, length, Option, Some, slice_get}
use Rattle.hk_model.specs.declared.lines.Line.{Line}
use Rattle.hk_model.specs.declared.objects.ProcessState.{ProcessState}
use Rattle.hk_model.specs.WorldValue.{WorldValue}
use Rattle.hk_model.specs.State.{process}
use Rattle.hk_model.specs.Control.{Context}
use Rattle.hk_model.specs.Processors.{is_ready, is_waiting}
use Rattle.hk_model.specs.Running.{Machine, opened, after_lines, context_of}

-- the machine after these lines of the world
abbrev pub machine_after : WorldValue → List Line → Machine
machine_after w lines = after_lines w (opened w) lines

-- the process is ready or waits
abbrev pub is_resting : ProcessState → Bool
is_resting r = is_ready r || is_waiting r

-- there is a place for each process, and at that of a process that is ready or waits its context
pub record KeepsContexts (m : Machine) (held : List (Option Context)) : Type 0 where
  pub count : length held ≡ length m.contexts
  pub each : (n : ℕ) → is_resting (process m.state (record { 0 = n })).run ≡ true → slice_get held n ≡ Some (Some (context_of m (record { 0 = n })))
