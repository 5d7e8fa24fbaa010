use Rattle.std.proofs.Common.{arith}
use Rattle.hk_objects.proofs.InPlace.{few_in_place}
use Rattle.hk_objects.proofs.objects.Objects.in_place.Goals as goal

pub returns-clause-few : goal.returns-clause-few
returns-clause-few c = omega (arith, few_in_place _ _ c.self.invariant.1, c.self.invariant.0.shelf.room)
