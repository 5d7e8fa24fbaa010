use Rattle.hk_program.proofs.AlwaysKept.{kept_law}
use Rattle.hk_program.proofs.vanishing.kept_law.Goals as goal

-- the law of the world that `limit` tells of
pub returns : goal.returns
returns c = kept_law c.args.world.now c.limit.ensures.valid c.args.lines.now c.requires
