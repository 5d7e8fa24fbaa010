use Rattle.std.proofs.Common.{inr, refl}
use Rattle.hk_reclaim.proofs.reach.mark_name.Goals as goal

pub returns-in_default : goal.returns-in_default
returns-in_default c = inr (c.in_default.ensures.none refl, refl)
