use Rattle.std.proofs.Common.{refl}
use Rattle.hk_objects.proofs.Indexing.{index_empty}
use Rattle.hk_objects.proofs.name_index.NameIndex.with_room.Goals as goal

pub invariant_of-result : goal.invariant_of-result
invariant_of-result c = index_empty _ _ _ 65536 refl c.in-Ok.ensures c.in_ok-names.ensures.size c.in_ok-places.ensures.size c.in_ok-names.ensures.empty
