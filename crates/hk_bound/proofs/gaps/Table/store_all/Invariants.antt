use Rattle.hk_bound.specs.Filled.{Gains}
use Rattle.hk_bound.proofs.gaps.Table.store_all.Given as goal

abbrev pub invariant-loop-at : goal.invariant-loop-at
invariant-loop-at l = Gains l.self.world.now l.self.forms.now l.self.rows.now l.fn.gaps.items l.gaps.items
