use Rattle.std.proofs.Common.{◌≡◌, []}
use Rattle.std.specs.Prelude.{replicate}
use Rattle.hk_report.proofs.lists.Lists.empty.Given as goal

abbrev pub invariant-loop : goal.invariant-loop
invariant-loop g l = l.lists ≡ replicate l.counter []
