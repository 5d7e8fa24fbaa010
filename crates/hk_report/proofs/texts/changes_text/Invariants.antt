use Rattle.std.proofs.Common.{◌≡◌, take, string_bytes}
use Rattle.std.specs.List.{flat_map}
use Rattle.hk_report.specs.ChangeTexts.{change_text}
use Rattle.hk_report.proofs.texts.changes_text.Given as goal

-- the changes so far are written
abbrev pub invariant-loop-change : goal.invariant-loop-change
invariant-loop-change l = string_bytes l.out ≡ flat_map change_text (take l.change-index l.changes)
