use Rattle.std.proofs.Common.{◌≡◌, ◌++◌, ◌∷◌, take, string_bytes}
use Rattle.std.specs.List.{flat_map}
use Rattle.std.specs.Fmt.{decimal}
use Rattle.hk_print.proofs.shapes.write_slots.Given as goal

abbrev pub invariant-loop-slot : goal.invariant-loop-slot
invariant-loop-slot l = string_bytes l.out ≡ string_bytes l.initial.out ++ flat_map (λ slot. 32 ∷ decimal slot) (take l.slot-index l.slot-items)
