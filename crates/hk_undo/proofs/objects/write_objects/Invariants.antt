use Rattle.std.proofs.Common.{◌≡◌, ◌++◌, take, string_bytes}
use Rattle.std.specs.List.{flat_map}
use Rattle.hk_undo.specs.StateTexts.{shown_object}
use Rattle.hk_undo.proofs.objects.write_objects.Given as goal

-- the objects so far are written
abbrev pub invariant-loop-object : goal.invariant-loop-object
invariant-loop-object l = string_bytes l.out ≡ string_bytes l.initial.out ++ flat_map shown_object (take l.object-index l.objects)
