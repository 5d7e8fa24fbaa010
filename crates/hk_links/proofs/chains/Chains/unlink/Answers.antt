use Rattle.std.proofs.Common.{refl}
use Rattle.hk_links.proofs.Lists.{none_without}
use Rattle.hk_links.proofs.chains.Chains.unlink.Goals as goal

pub returns-in-None-clause-lists : goal.returns-in-None-clause-lists
returns-in-None-clause-lists c = rw (none_without c.args.self.now.lists c.args.cell c.in-None.ensures.none) refl
