-- A row of which only the front is written. Behind it a place has the value that its number gives.
use Rattle.std.specs.Prelude.{ℕ, zero, suc, List, [], ◌∷◌}

-- so many values: the front's, and behind it those of the numbers, of which the row begins with `first`
abbrev pub spread : {X : Type 0} → (ℕ → X) → ℕ → ℕ → List X → List X
spread value zero first front = []
spread value (suc n) first [] = value first ∷ spread value n (suc first) []
spread value (suc n) first (x ∷ xs) = x ∷ spread value n (suc first) xs
