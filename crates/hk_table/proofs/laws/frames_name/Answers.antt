use Rattle.hk_table.proofs.FrameNames.{frames_named}
use Rattle.hk_table.proofs.laws.frames_name.Goals as goal

pub returns : goal.returns
returns c = λ name stacks next numbered. frames_named name stacks next numbered
