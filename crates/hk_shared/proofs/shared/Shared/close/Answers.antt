use Rattle.std.proofs.Common.{}
use Rattle.hk_shared.proofs.shared.Shared.close.Goals as goal

pub returns : goal.returns
returns g c = rw c.into_inner.ensures c.close.ensures
