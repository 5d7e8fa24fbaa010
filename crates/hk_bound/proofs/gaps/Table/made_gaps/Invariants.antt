use Rattle.std.proofs.Common.{◌<◌, ℕ}
use Rattle.hk_bound.specs.Columns.{Finds}
use Rattle.hk_bound.specs.Rules.{MadeRule}
use Rattle.hk_bound.proofs.gaps.Table.made_gaps.Given as goal

abbrev pub invariant-loop-maker : goal.invariant-loop-maker
invariant-loop-maker l =
    Finds l.self.world.now l.self.forms.now l.self.rows.now
    ((k : ℕ) → k < l.maker → MadeRule l.self.world.now l.self.rows.now l.process k) l.fn.gaps.items l.gaps.items
