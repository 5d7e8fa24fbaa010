use Rattle.std.proofs.Common.{◌≡◌, ◌++◌, ◌∷◌, take}
use Rattle.std.specs.List.{flat_map}
use Rattle.std.specs.Fmt.{decimal}
use Rattle.hk_audit.proofs.fronts.behind_slots.Given as goal

abbrev pub invariant-loop-slot : goal.invariant-loop-slot
invariant-loop-slot l = flat_map (λ slot. 32 ∷ decimal slot) (take l.slot-index l.slot-items) ++ l.left ≡ l.bytes
