use Rattle.hk_bound.specs.Filled.{Gains}
use Rattle.hk_bound.proofs.gaps.Table.store_list.Given as goal

abbrev pub invariant-loop-entry : goal.invariant-loop-entry
invariant-loop-entry l = Gains l.self.world.now l.self.forms.now l.self.rows.now l.fn.gaps.items l.gaps.items
