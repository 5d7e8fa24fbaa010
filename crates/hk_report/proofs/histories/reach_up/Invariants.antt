use Rattle.std.proofs.Common.{◌≡◌, ◌++◌}
use Rattle.std.specs.Prelude.{replicate}
use Rattle.hk_report.specs.Histories.{no_history}
use Rattle.hk_report.proofs.histories.reach_up.Given as goal

-- so many are added
abbrev pub invariant-loop : goal.invariant-loop
invariant-loop l = l.histories.items ≡ l.initial.histories.items ++ replicate l.counter no_history
