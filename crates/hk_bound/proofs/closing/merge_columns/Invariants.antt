use Rattle.hk_bound.specs.Filled.{FillsAll}
use Rattle.hk_bound.proofs.closing.merge_columns.Given as goal

abbrev pub invariant-loop-column : goal.invariant-loop-column
invariant-loop-column l = FillsAll l.world l.forms l.fn.rows l.rows l.fn.grown.items l.grown.items
