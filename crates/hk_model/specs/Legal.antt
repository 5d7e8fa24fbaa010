-- Legal histories. docs/RULES.md, "Steps of processors"; docs/FORMATS.md, "Legal records".
use Rattle.std.specs.Prelude.{◌≡◌, ◌&&◌, not, List, Option, Some, None, if◌then◌else◌}
use Rattle.std.specs.List.{list_all, list_any}
use Rattle.hk_model.specs.declared.lines.Line.{Line}
use Rattle.hk_model.specs.declared.lines.End.{End}
use Rattle.hk_model.specs.declared.lines.End.TheVariants as end
use Rattle.hk_model.specs.declared.objects.Process.{Process}
use Rattle.hk_model.specs.WorldValue.{WorldValue}
use Rattle.hk_model.specs.State.{State}
use Rattle.hk_model.specs.Processors.{is_over, has_ended, is_waiting, may_step}
use Rattle.hk_model.specs.Running.{AreStepsOf, state_after}

-- the end word of a state: done where every process has ended, stuck where none is ready or runs and some waits, limit
-- where the events number the limit and neither of these holds, and else none
abbrev pub end_word : State → Option End
end_word s =
    if list_all (λ (p : Process). has_ended p.run) s.processes then Some end.Done
    else if is_over s && list_any (λ (p : Process). is_waiting p.run) s.processes then Some end.Stuck
    else if not (may_step s) then Some end.Limit
    else None

-- each line is the step of its processor after the lines before it, and the end word is that of the last state
pub record IsLegal (w : WorldValue) (lines : List Line) (end : End) : Type 0 where
  pub steps : AreStepsOf w lines
  pub ends : end_word (state_after w lines) ≡ Some end
