use Rattle.std.proofs.Common.{◌≡◌, ◌++◌, map, take, string_bytes}
use Rattle.std.specs.List.{flat_map}
use Rattle.serde_json.specs.Data.{Data}
use Rattle.serde_json.specs.View.{view}
use Rattle.hk_print.specs.ItemTexts.{item_text}
use Rattle.hk_json.specs.Scripts.{object_said}
use Rattle.hk_json.proofs.script.write_objects.Given as goal

abbrev pub invariant-loop-object : goal.invariant-loop-object
invariant-loop-object l = string_bytes l.out ≡ string_bytes l.initial.out ++ flat_map (λ (d : Data). item_text (object_said d)) (map view (take l.object-index l.objects))
