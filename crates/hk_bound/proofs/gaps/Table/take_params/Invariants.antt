use Rattle.hk_bound.specs.Columns.{Finds}
use Rattle.hk_bound.specs.Each.{EachBelow}
use Rattle.hk_bound.specs.Rules.{ParamRule}
use Rattle.hk_bound.proofs.gaps.Table.take_params.Given as goal

abbrev pub invariant-loop-param : goal.invariant-loop-param
invariant-loop-param l =
    Finds l.self.world.now l.self.forms.now l.self.rows.now
    (EachBelow l.param-index (ParamRule l.self.world.now l.self.forms.now l.self.rows.now l.process) l.param-items) l.fn.gaps.items l.gaps.items
