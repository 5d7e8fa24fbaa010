use Rattle.std.proofs.Common.{◌-◌}
use Rattle.hk_bound.specs.Filled.{AreFilling, AreWays}
use Rattle.hk_bound.specs.Weights.{rows_weight, most_weight}
use Rattle.hk_bound.proofs.closing.closed_rows.Given as goal

abbrev pub invariant-looks : goal.invariant-looks
invariant-looks l = record {
  filling : AreFilling l.world l.forms l.rows l.grown.items;
  ways : AreWays l.world l.forms l.ways.known;
}

abbrev pub decreases-looks : goal.decreases-looks
decreases-looks l = most_weight l.world l.forms - rows_weight l.rows
