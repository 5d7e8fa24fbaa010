-- The arguments of a call, written one by one.
use Rattle.std.proofs.Common.{◌≡◌, ℕ, List, [], ◌∷◌, ◌++◌, map, ap, ◌∙◌}
use Rattle.std.specs.List.{join_with_byte, flat_map}
use Rattle.std.specs.Fmt.{decimal}
use mathlib.Core.List.{append_assoc, append-nil}
use Rattle.hk_model.specs.declared.names.Slot.{Slot}
use Rattle.hk_format.specs.Pieces.{spell}
use Rattle.hk_format.specs.Operands.{argument_pieces}

-- the slots of the arguments, and the last one behind them
pub slots_spelled : (front : List ℕ) (args : List ℕ) (into : Slot)
    → (front ++ flat_map (λ n. 32 ∷ decimal n) args) ++ 32 ∷ decimal into.0 ≡ join_with_byte 32 (front ∷ map spell (argument_pieces args into))
slots_spelled front [] into = ap (λ (t : List ℕ). t ++ 32 ∷ decimal into.0) (append-nil front)
slots_spelled front (n ∷ ns) into =
    append_assoc front (32 ∷ (decimal n ++ flat_map (λ m. 32 ∷ decimal m) ns)) (32 ∷ decimal into.0) ∙ ap (λ (t : List ℕ). front ++ 32 ∷ t) (slots_spelled (decimal n) ns into)
