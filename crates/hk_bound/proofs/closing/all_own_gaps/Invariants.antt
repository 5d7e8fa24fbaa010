use Rattle.std.proofs.Common.{◌<◌, ℕ}
use Rattle.hk_bound.specs.Columns.{Finds}
use Rattle.hk_bound.specs.Rules.{OwnRule}
use Rattle.hk_bound.proofs.closing.all_own_gaps.Given as goal

abbrev pub invariant-loop-process : goal.invariant-loop-process
invariant-loop-process l =
    Finds l.table.world.now l.table.forms.now l.table.rows.now ((k : ℕ) → k < l.process → OwnRule l.table.world.now l.table.forms.now l.table.rows.now k)
    l.fn.gaps.items l.gaps.items
