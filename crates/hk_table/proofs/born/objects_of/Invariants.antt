use Rattle.std.proofs.Common.{◌++◌, take, map, replicate}
use Rattle.hk_model.specs.declared.world.Born.{Born}
use Rattle.hk_model.specs.State.{no_object}
use Rattle.hk_model.specs.Opening.{object_of}
use Rattle.hk_table.proofs.ObjectsOpened.{IsOpened}
use Rattle.hk_table.proofs.born.objects_of.Given as goal

abbrev pub invariant-loop-object : goal.invariant-loop-object
invariant-loop-object l = IsOpened l.objects (replicate 7 no_object ++ map (λ (b : Born). object_of b.kind) (take l.object-index l.born))
