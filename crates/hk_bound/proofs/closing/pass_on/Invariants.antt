use Rattle.hk_bound.specs.Filled.{FillsAll}
use Rattle.hk_bound.proofs.closing.pass_on.Given as goal

abbrev pub invariant-loop-other : goal.invariant-loop-other
invariant-loop-other l = FillsAll l.world l.forms l.fn.rows l.rows l.fn.grown.items l.grown.items
