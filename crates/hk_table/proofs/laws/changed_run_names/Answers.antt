use Rattle.hk_table.proofs.FrameSums.{run_changed}
use Rattle.hk_table.proofs.laws.changed_run_names.Goals as goal

pub returns : goal.returns
returns c = λ name ps proc run low. run_changed name ps proc run low
