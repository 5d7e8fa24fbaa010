use Rattle.hk_objects.proofs.Tables.{table_change}
use Rattle.hk_objects.proofs.InPlace.{change_in_place}
use Rattle.hk_objects.proofs.objects.Objects.add.Goals as goal

pub invariant_of-self-2 : goal.invariant_of-self-2
invariant_of-self-2 c = rw c.in_ok-add_word.ensures.ok (table_change _ _ _ _ c.self.invariant.0 _ _, change_in_place _ _ _ _ c.self.invariant.1)
