use Rattle.std.proofs.Common.{inr, refl}
use Rattle.hk_reclaim.proofs.made.take_off.Goals as goal

pub lower-requires-clause-in_range : goal.lower-requires-clause-in_range
lower-requires-clause-in_range c = (c.requires c.in-Some.slot.0 c.in-Some.ensures.found).0

pub lower-requires-clause-some : goal.lower-requires-clause-some
lower-requires-clause-some c = (c.requires c.in-Some.slot.0 c.in-Some.ensures.found).1

pub returns-in_default : goal.returns-in_default
returns-in_default c = inr (c.in_default.ensures.none refl, refl)
