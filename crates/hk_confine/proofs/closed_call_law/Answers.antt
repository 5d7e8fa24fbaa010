use Rattle.hk_confine.proofs.closed_call_law.Goals as goal
use Rattle.hk_confine.proofs.Confined.{closed_call}

-- the law of the world that `limit` tells of
pub returns : goal.returns
returns c = closed_call c.args.world.now c.args.lines.now c.requires c.limit.ensures.valid
