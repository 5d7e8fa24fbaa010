use Rattle.hk_table.proofs.FrameSums.{frames_cleared}
use Rattle.hk_table.proofs.laws.cleared_frames_name.Goals as goal

pub returns : goal.returns
returns c = λ name stacks q. frames_cleared name stacks q
