-- The changes so far are there.
use Rattle.std.proofs.Common.{◌≡◌, take}
use Rattle.hk_report.proofs.families.whole_changes.Given as goal

abbrev pub invariant-loop-change : goal.invariant-loop-change
invariant-loop-change l = l.changes.items ≡ take l.change-index l.kept
