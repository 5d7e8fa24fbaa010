use Rattle.hk_model.proofs.ReachRules.{reaches_are_least}
use Rattle.hk_confine.proofs.reach_law.Goals as goal

pub returns : goal.returns
returns c = reaches_are_least c.args.world.now c.args.lines.now
