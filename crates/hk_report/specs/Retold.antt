-- What was told of the lines that have come. docs/RULES.md, "Changes and their reasons".
use Rattle.std.specs.Prelude.{◌≡◌, ◌+◌, List, [], ◌++◌, length, replicate, slice_index_or}
use Rattle.hk_model.specs.declared.lines.Line.{Line}
use Rattle.hk_model.specs.WorldValue.{WorldValue}
use Rattle.hk_model.specs.Running.{AreStepsOf, after_lines, opened}
use Rattle.hk_report.specs.declared.replay.Retelling.{Retelling}
use Rattle.hk_report.specs.Doings.{before_line, doing, doings, given_params, kept_params, params_given}
use Rattle.hk_report.specs.Families.{changes_by, changes_from, families_after, families_by}
use Rattle.hk_report.specs.Histories.{histories_at_end, noted}

-- these lines have come, steps of the world from its opening on
pub record IsRetold (w : WorldValue) (lines : List Line) (r : Retelling) : Type 0 where
  pub steps : AreStepsOf w lines
  pub machine : r.machine ≡ after_lines w (opened w) lines
  pub count : r.count ≡ length lines
  pub changes : r.telling.families.changes.items ≡ changes_from 0 (replicate (opened w).state.next_inc.0 []) (doings w (opened w) lines)
  pub calls : r.telling.families.calls ≡ families_after 0 (doings w (opened w) lines) (replicate (opened w).state.next_inc.0 [])
  pub params : r.telling.params ≡ params_given w (opened w) lines
  pub histories : r.telling.histories.items ≡ histories_at_end w lines

-- a line more was told, which led from the one machine to the other
pub record IsToldMore (old new : Retelling) (line : Line) : Type 0 where
  pub count : new.count ≡ old.count + 1
  pub changes : new.telling.families.changes.items ≡ old.telling.families.changes.items
      ++ changes_by old.count (before_line old.machine.state line).changed (slice_index_or old.telling.families.calls line.inc.0 [])
  pub calls : new.telling.families.calls ≡ families_by old.count (doing old.machine.state line new.machine.state) old.telling.families.calls
  pub params : new.telling.params ≡ old.telling.params
      ++ kept_params (doing old.machine.state line new.machine.state).entered (given_params line (before_line old.machine.state line) new.machine.state)
  pub histories : new.telling.histories.items
      ≡ noted (old.count + 1) (doing old.machine.state line new.machine.state) new.machine.state old.telling.histories.items
