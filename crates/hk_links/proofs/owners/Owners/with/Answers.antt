use Rattle.std.proofs.Common.{None}
use Rattle.hk_links.proofs.Spreads.{length-spread, get_or-spread_same}
use Rattle.hk_links.proofs.owners.Owners.with.Goals as goal

pub returns : goal.returns
returns c = (length-spread _ _ _ _, λ k. rw c.in_ok-front.ensures.items (get_or-spread_same c.args.cells 0 k None))
