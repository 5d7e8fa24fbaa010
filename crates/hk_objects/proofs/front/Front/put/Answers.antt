use Rattle.std.proofs.Common.{refl}
use Rattle.hk_objects.proofs.Padding.{set-padded}
use Rattle.hk_objects.proofs.front.Front.put.Goals as goal

pub returns : goal.returns
returns g c = rw (← c.self.view_is, ← c.keep_up_to.ensures.same, set-padded _ c.args.slot _ c.keep_up_to.ensures.kept) refl
