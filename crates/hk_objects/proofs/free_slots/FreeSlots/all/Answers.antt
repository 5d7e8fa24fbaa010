use Rattle.std.proofs.Common.{refl}
use Rattle.hk_objects.proofs.Frees.{all_slots}
use Rattle.hk_objects.proofs.free_slots.FreeSlots.all.Goals as goal

pub invariant_of-result : goal.invariant_of-result
invariant_of-result c = all_slots c.in_ok-given.given 0 c.in_ok-given.ensures.items refl c.in_ok-given.ensures.capacity
