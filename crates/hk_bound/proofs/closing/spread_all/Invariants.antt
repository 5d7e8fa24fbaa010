use Rattle.std.proofs.Common.{◌≤◌}
use Rattle.hk_bound.specs.Filled.{AreFilling, AreWays}
use Rattle.hk_bound.specs.Weights.{rows_weight}
use Rattle.hk_bound.proofs.closing.spread_all.Given as goal

abbrev pub invariant-loop : goal.invariant-loop
invariant-loop l = record {
  filling : AreFilling l.world l.forms l.rows l.grown.items;
  no_less : rows_weight l.fn.rows ≤ rows_weight l.rows;
  ways : AreWays l.world l.forms l.ways.known;
}
