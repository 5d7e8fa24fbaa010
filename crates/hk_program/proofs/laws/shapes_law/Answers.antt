use Rattle.hk_model.proofs.Procedures.{shapes_are}
use Rattle.hk_program.proofs.FullFrames.{frames_are}
use Rattle.hk_program.proofs.laws.shapes_law.Goals as goal

-- the laws of the world that `limit` tells of
pub returns-clause-shapes : goal.returns-clause-shapes
returns-clause-shapes c = shapes_are c.args.world.now c.args.lines.now c.limit.ensures.valid c.requires

pub returns-clause-frames : goal.returns-clause-frames
returns-clause-frames c = frames_are c.args.world.now c.args.lines.now c.limit.ensures.valid c.requires
