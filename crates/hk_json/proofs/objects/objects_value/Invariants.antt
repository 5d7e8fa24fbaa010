use Rattle.std.proofs.Common.{◌≡◌, map, take}
use Rattle.serde_json.specs.View.{view}
use Rattle.hk_format.specs.Names.{spoken}
use Rattle.hk_json.specs.Values.{object_value}
use Rattle.hk_json.proofs.objects.objects_value.Given as goal

abbrev pub invariant-loop-object : goal.invariant-loop-object
invariant-loop-object l = map view l.values.items ≡ map (object_value (spoken l.world)) (take l.object-index l.object-items)
