use Rattle.hk_objects.proofs.Tables.{full_or_not}
use Rattle.hk_objects.proofs.objects.Objects.is_full.Goals as goal

pub returns : goal.returns
returns c = rw (← c.self.view_is) (full_or_not _ _ _ _ c.self.invariant.0 c.is_empty.result c.is_empty.ensures.yes c.is_empty.ensures.no)
