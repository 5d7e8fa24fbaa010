use Rattle.hk_objects.proofs.Indexing.{index_clear}
use Rattle.hk_objects.proofs.name_index.NameIndex.clear.Goals as goal

pub invariant_of-self : goal.invariant_of-self
invariant_of-self c = rw c.clear.ensures (index_clear _ _ _ _ _ c.self.invariant c.requires c.unlink.ensures.lists)
