-- Texts that are joined by a byte.
use Rattle.std.proofs.Common.{◌≡◌, ℕ, List, [], ◌∷◌, ◌++◌, sym, ap}
use Rattle.std.specs.List.{join_with_byte, flat_map}
use mathlib.Core.List.{append-nil}

-- the first, and then the byte before each of the others
pub joined : (c : ℕ) (x : List ℕ) (xs : List (List ℕ)) → join_with_byte c (x ∷ xs) ≡ x ++ flat_map (λ t. c ∷ t) xs
joined c x [] = sym (append-nil x)
joined c x (y ∷ ys) = ap (λ rest. x ++ (c ∷ rest)) (joined c y ys)
