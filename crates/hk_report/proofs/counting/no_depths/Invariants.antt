use Rattle.std.proofs.Common.{◌≡◌}
use Rattle.std.specs.Prelude.{replicate}
use Rattle.hk_report.proofs.counting.no_depths.Given as goal

abbrev pub invariant-loop : goal.invariant-loop
invariant-loop l = l.depths.items ≡ replicate l.counter 0
