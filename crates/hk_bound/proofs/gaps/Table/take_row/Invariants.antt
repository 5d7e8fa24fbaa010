use Rattle.std.proofs.Common.{◌<◌, ℕ}
use Rattle.hk_bound.specs.Columns.{Finds}
use Rattle.hk_bound.specs.Rules.{CellRule}
use Rattle.hk_bound.proofs.gaps.Table.take_row.Given as goal

abbrev pub invariant-loop-column : goal.invariant-loop-column
invariant-loop-column l =
    Finds l.self.world.now l.self.forms.now l.self.rows.now
    ((k : ℕ) → k < l.column → CellRule l.self.rows.now l.process l.other l.by k) l.fn.gaps.items l.gaps.items
