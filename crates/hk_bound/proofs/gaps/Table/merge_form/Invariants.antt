use Rattle.hk_bound.specs.Filled.{Gains}
use Rattle.hk_bound.proofs.gaps.Table.merge_form.Given as goal

abbrev pub invariant-loop-name : goal.invariant-loop-name
invariant-loop-name l = Gains l.self.world.now l.self.forms.now l.self.rows.now l.fn.gaps.items l.gaps.items
