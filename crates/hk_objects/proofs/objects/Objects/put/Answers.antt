use Rattle.hk_objects.proofs.Tables.{table_change}
use Rattle.hk_objects.proofs.InPlace.{change_in_place}
use Rattle.hk_objects.proofs.objects.Objects.put.Goals as goal

pub invariant_of-self : goal.invariant_of-self
invariant_of-self c = rw c.put_word.ensures (table_change _ _ _ _ c.self.invariant.0 _ _, change_in_place _ _ _ _ c.self.invariant.1)
