use Rattle.std.proofs.Common.{◌≡◌}
use Rattle.hk_report.specs.Histories.{finished_below}
use Rattle.hk_report.proofs.histories.finish.Given as goal

-- the lists of the objects so far have ended
abbrev pub invariant-loop-index : goal.invariant-loop-index
invariant-loop-index l = l.histories.items ≡ finished_below l.moment l.index l.initial.histories.items
