use Rattle.hk_table.proofs.FrameSums.{slot_written}
use Rattle.hk_table.proofs.laws.written_slot_names.Goals as goal

pub returns : goal.returns
returns c = λ name stacks q slot entry low. slot_written name stacks q slot entry low
