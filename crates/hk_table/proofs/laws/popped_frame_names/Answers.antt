use Rattle.hk_table.proofs.FrameSums.{frame_popped}
use Rattle.hk_table.proofs.laws.popped_frame_names.Goals as goal

pub returns : goal.returns
returns c = λ name old new q into popped. frame_popped name old new q into popped
