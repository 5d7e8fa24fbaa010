use Rattle.hk_rights.proofs.Table.{right_low}
use Rattle.hk_rights.proofs.right.Right.number.Goals as goal

pub returns-clause-small : goal.returns-clause-small
returns-clause-small c = right_low c.self.inside.bit c.self.invariant
