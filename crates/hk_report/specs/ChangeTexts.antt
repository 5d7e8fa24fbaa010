-- The list of changes as text. docs/FORMATS.md, "Statuses and outputs".
use Rattle.std.specs.Prelude.{ℕ, List, ◌++◌, length, codes}
use Rattle.std.specs.List.{flat_map}
use Rattle.std.specs.Fmt.{decimal}
use Rattle.hk_model.specs.declared.reaches.Hop.{Hop}
use Rattle.hk_model.specs.declared.reaches.Hop.TheVariants.{Entry, Handed}
use Rattle.hk_model.specs.declared.reaches.Reach.{Reach}
use Rattle.hk_model.specs.declared.reaches.Reach.TheVariants.{Made, Param}
use Rattle.hk_model.specs.declared.reaches.Change.{Change}
use Rattle.hk_format.specs.Texts.{ended_line}

-- ` entry INDEX MOMENT` or ` handed INDEX MOMENT`
abbrev pub hop_text : Hop → List ℕ
hop_text (Entry index moment) = codes " entry " ++ decimal index ++ codes " " ++ decimal moment
hop_text (Handed index moment) = codes " handed " ++ decimal index ++ codes " " ++ decimal moment

-- `made`, or `param I` and the hops
abbrev pub reach_text : Reach → List ℕ
reach_text Made = codes "made"
reach_text (Param arg hops) = (codes "param " ++ decimal arg) ++ flat_map hop_text hops

-- `LINE C OBJECT` and the reach
abbrev pub change_text : Change → List ℕ
change_text change =
    ended_line (decimal change.line ++ codes " " ++ decimal change.under.0 ++ codes " " ++ decimal change.object.0 ++ codes " " ++ reach_text change.reach)

-- all changes, and how many there are
abbrev pub changes_text : List Change → List ℕ
changes_text changes = flat_map change_text changes ++ ended_line (codes "changes " ++ decimal (length changes))
