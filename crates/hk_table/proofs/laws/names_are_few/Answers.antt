use Rattle.hk_table.proofs.NameBounds.{names_are_few}
use Rattle.hk_table.proofs.laws.names_are_few.Goals as goal

pub returns : goal.returns
returns c = λ name slots stacks ps small. names_are_few name slots stacks ps small
