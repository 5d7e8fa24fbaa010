use Rattle.std.proofs.Common.{◌≡◌, ◌++◌, take, string_bytes}
use Rattle.std.specs.List.{flat_map}
use Rattle.hk_model.specs.declared.world.Born.{Born}
use Rattle.hk_format.specs.Names.{spoken}
use Rattle.hk_format.specs.Canonical.{object_item}
use Rattle.hk_print.specs.ItemTexts.{item_text}
use Rattle.hk_print.proofs.objects.write_objects.Given as goal

abbrev pub invariant-loop-object : goal.invariant-loop-object
invariant-loop-object l =
    string_bytes l.out ≡ string_bytes l.initial.out ++ flat_map (λ (x : Born). item_text (object_item (spoken l.world) x)) (take l.object-index l.object-items)
