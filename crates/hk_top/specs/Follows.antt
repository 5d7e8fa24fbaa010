-- A record that is followed step by step to its end. docs/FORMATS.md, "Legal records".
use Rattle.std.specs.Prelude.{◌≡◌, ℕ, List, [], Ok}
use Rattle.hk_model.specs.declared.lines.Line.{Line}
use Rattle.hk_model.specs.declared.lines.End.{End}
use Rattle.hk_model.specs.WorldValue.{WorldValue}
use Rattle.hk_model.specs.Legal.{IsLegal}
use Rattle.hk_format.specs.Audits.{audit, audited, events}
use Rattle.hk_audit.specs.Followed.{IsReadTo}
use Rattle.hk_report.specs.declared.replay.Retelling.{Retelling}
use Rattle.hk_report.specs.Retold.{IsRetold}
use Rattle.hk_top.specs.declared.served.DueText.{DueText}
use Rattle.hk_top.specs.Runs.{IsLawful}
use Rattle.hk_top.specs.Outputs.{TellsChanges}

-- the bytes of which these are left behind the line `record` tell these lines and this end word, which are legal, and the laws
-- hold of the lines
pub record IsFollowed (w : WorldValue) (left : List ℕ) (lines : List Line) (end : End) : Type 0 where
  pub told : (bytes : List ℕ) → IsReadTo bytes w [] left → audit bytes ≡ Ok (audited w (events lines end))
  pub legal : IsLegal w lines end
  pub laws : IsLawful w lines

-- the same of lines that were told as they came
pub record IsFollowedTold (w : WorldValue) (left : List ℕ) (r : Retelling) : Type 0 where
  pub lines : List Line
  pub end : End
  pub followed : IsFollowed w left lines end
  pub told : IsRetold w lines r

-- the changes of such lines are due
pub record AreDue (w : WorldValue) (left : List ℕ) (due : DueText) : Type 0 where
  pub lines : List Line
  pub end : End
  pub followed : IsFollowed w left lines end
  pub status_is : due.status ≡ 0
  pub tells : TellsChanges w lines due.text
