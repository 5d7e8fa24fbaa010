use Rattle.std.proofs.Common.{◌≡◌}
use Rattle.hk_report.specs.Histories.{opened_below}
use Rattle.hk_report.proofs.histories.opened_histories.Given as goal

-- the histories of the objects so far
abbrev pub invariant-loop-number : goal.invariant-loop-number
invariant-loop-number l = l.all.items ≡ opened_below l.kernel l.number
