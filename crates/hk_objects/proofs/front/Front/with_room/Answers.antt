use Rattle.hk_objects.proofs.Padding.{size_first, nothing_first}
use Rattle.hk_objects.proofs.front.Front.with_room.Goals as goal

pub returns-clause-size : goal.returns-clause-size
returns-clause-size g c = size_first c.in_ok-items.items.items c.in_ok-items.ensures.items

pub returns-clause-empty : goal.returns-clause-empty
returns-clause-empty g c = nothing_first c.in_ok-items.items.items c.in_ok-items.ensures.items
