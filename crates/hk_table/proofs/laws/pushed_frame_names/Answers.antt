use Rattle.hk_table.proofs.FrameSums.{frame_pushed}
use Rattle.hk_table.proofs.laws.pushed_frame_names.Goals as goal

pub returns : goal.returns
returns c = λ name st q f low. frame_pushed name st.stacks q f low
