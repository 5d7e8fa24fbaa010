use Rattle.std.proofs.Common.{subst, sym}
use Rattle.hk_bound.specs.Filled.{AreWays}
use Rattle.hk_bound.proofs.Ways.{ways_joined}
use Rattle.hk_bound.proofs.gaps.Table.widen.Goals as goal

pub returns-then-handed-clause-ways : goal.returns-then-handed-clause-ways
returns-then-handed-clause-ways c =
    ways_joined c.args.self.now.world.now c.args.self.now.forms.now c.args.ways.now.known c.join.new.self c.args.process c.args.other c.args.by c.requires.ways c.requires.passes
    c.join.ensures.value

pub returns-clause-ways : goal.returns-clause-ways
returns-clause-ways c =
    subst (AreWays c.args.self.now.world.now c.args.self.now.forms.now) (sym (c.in_ok-add_taker.ensures {u = tt}))
    (ways_joined c.args.self.now.world.now c.args.self.now.forms.now c.args.ways.now.known c.join.new.self c.args.process c.args.other c.args.by c.requires.ways c.requires.passes
    c.join.ensures.value)
