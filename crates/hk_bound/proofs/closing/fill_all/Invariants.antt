use Rattle.hk_bound.proofs.Filling.{Filled}
use Rattle.hk_bound.proofs.closing.fill_all.Given as goal

abbrev pub invariant-loop-gap : goal.invariant-loop-gap
invariant-loop-gap l = Filled l.world l.forms l.fn.rows l.rows l.fn.grown.items l.grown.items l.gap-index
