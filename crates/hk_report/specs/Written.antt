-- The changes with their reasons, written one behind the other. docs/FORMATS.md, "Statuses and outputs".
use Rattle.std.specs.Prelude.{◌≡◌, ℕ, List, ◌++◌, Option}
use Rattle.std.specs.List.{flat_map}
use Rattle.hk_model.specs.declared.entries.Cap.{Cap}
use Rattle.hk_model.specs.declared.lines.Line.{Line}
use Rattle.hk_model.specs.declared.reaches.Change.{Change}
use Rattle.hk_model.specs.WorldValue.{WorldValue}
use Rattle.hk_model.specs.Changes.{AreChanges}
use Rattle.hk_report.specs.declared.families.Begun.{Begun}
use Rattle.hk_report.specs.declared.families.BareChange.{BareChange}
use Rattle.hk_report.specs.declared.histories.History.{History}
use Rattle.hk_report.specs.ChangeTexts.{change_text, changes_text}
use Rattle.hk_report.specs.Reasons.{AreTold}

-- behind what was written stand these changes, each with its reason
pub record AreWritten (families : List (List Begun)) (histories : List History) (params : List (List (Option Cap))) (bares : List BareChange) (before after : List ℕ) : Type 0 where
  pub changes : List Change
  pub told : AreTold families histories params bares changes
  pub text_is : after ≡ before ++ flat_map change_text changes

-- the text is that of the changes of a history under confined calls, each with its reason
abbrev pub IsReport : WorldValue → List Line → List ℕ → Type 0
IsReport w lines text = (changes : List Change) × AreChanges w lines changes × (text ≡ changes_text changes)
