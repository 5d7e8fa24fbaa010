use Rattle.hk_bound.specs.Filled.{Gains}
use Rattle.hk_bound.proofs.gaps.Table.all_copy_again.Given as goal

abbrev pub invariant-loop-process : goal.invariant-loop-process
invariant-loop-process l = Gains l.self.world.now l.self.forms.now l.self.rows.now l.fn.gaps.items l.gaps.items
