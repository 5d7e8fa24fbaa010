use Rattle.hk_table.proofs.FrameSums.{outside_named}
use Rattle.hk_table.proofs.laws.outside_names.Goals as goal

pub returns : goal.returns
returns c = λ name s stacks next numbered live. outside_named name s stacks next numbered live
