use Rattle.hk_bound.specs.Filled.{FillsAll, AreWays}
use Rattle.hk_bound.proofs.closing.take_up_cells.Given as goal

abbrev pub invariant-loop-cell : goal.invariant-loop-cell
invariant-loop-cell l = record {
  filled : FillsAll l.world l.forms l.fn.rows l.rows l.fn.grown.items l.grown.items;
  ways : AreWays l.world l.forms l.ways.known;
}
