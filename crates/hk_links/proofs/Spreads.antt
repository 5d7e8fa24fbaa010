-- What stands in a row of which only the front is written.
use Rattle.std.proofs.Common.{◌≡◌, ℕ, zero, suc, ◌+◌, ◌<◌, ◌≤◌, List, [], ◌∷◌, ◌++◌, length, get_or, set, refl, ap, ◌∙◌, arith}
use Rattle.hk_links.specs.Spread.{spread}

pub length-spread : {X : Type 0} → (value : ℕ → X) (n first : ℕ) (xs : List X) → length (spread value n first xs) ≡ n
length-spread value zero first xs = refl
length-spread value (suc n) first [] = ap (λ m. suc m) (length-spread value n (suc first) [])
length-spread value (suc n) first (x ∷ xs) = ap (λ m. suc m) (length-spread value n (suc first) xs)

-- behind the front
pub get_or-spread_behind : {X : Type 0} → (value : ℕ → X) (n first : ℕ) (xs : List X) (k : ℕ) (d : X) → k < n → length xs ≤ k
    → get_or (spread value n first xs) k d ≡ value (first + k)
get_or-spread_behind value zero first xs k d low far = absurd (omega arith)
get_or-spread_behind value (suc n) first [] zero d low far = ap value (omega arith)
get_or-spread_behind value (suc n) first [] (suc k) d low far = get_or-spread_behind value n (suc first) [] k d (omega arith) (omega arith) ∙ ap value (omega arith)
get_or-spread_behind value (suc n) first (x ∷ xs) zero d low far = absurd (omega arith)
get_or-spread_behind value (suc n) first (x ∷ xs) (suc k) d low far = get_or-spread_behind value n (suc first) xs k d (omega arith) (omega arith) ∙ ap value (omega arith)

-- in the front
pub get_or-spread_front : {X : Type 0} → (value : ℕ → X) (n first : ℕ) (xs : List X) (k : ℕ) (d : X) → k < n → k < length xs
    → get_or (spread value n first xs) k d ≡ get_or xs k d
get_or-spread_front value zero first xs k d low near = absurd (omega arith)
get_or-spread_front value (suc n) first [] k d low near = absurd (omega arith)
get_or-spread_front value (suc n) first (x ∷ xs) zero d low near = refl
get_or-spread_front value (suc n) first (x ∷ xs) (suc k) d low near = get_or-spread_front value n (suc first) xs k d (omega arith) (omega arith)

pub spread-set : {X : Type 0} → (value : ℕ → X) (n first : ℕ) (xs : List X) (k : ℕ) (y : X) → k < length xs
    → spread value n first (set xs k y) ≡ set (spread value n first xs) k y
spread-set value zero first xs k y near = refl
spread-set value (suc n) first [] k y near = absurd (omega arith)
spread-set value (suc n) first (x ∷ xs) zero y near = refl
spread-set value (suc n) first (x ∷ xs) (suc k) y near = ap (λ l. x ∷ l) (spread-set value n (suc first) xs k y (omega arith))

-- a front that grows by what stands behind it
pub spread-push : {X : Type 0} → (value : ℕ → X) (n first : ℕ) (xs : List X) (y : X) → y ≡ value (first + length xs)
    → spread value n first (xs ++ y ∷ []) ≡ spread value n first xs
spread-push value zero first xs y e = refl
spread-push value (suc n) first [] y e = ap (λ z. z ∷ spread value n (suc first) []) (e ∙ ap value (omega arith))
spread-push value (suc n) first (x ∷ xs) y e = ap (λ l. x ∷ l) (spread-push value n (suc first) xs y (e ∙ ap value (omega arith)))

-- a row of nothing but what stands behind a front
pub get_or-spread_same : {X : Type 0} → (n first k : ℕ) (y : X) → get_or (spread (λ _. y) n first []) k y ≡ y
get_or-spread_same zero first k y = refl
get_or-spread_same (suc n) first zero y = refl
get_or-spread_same (suc n) first (suc k) y = get_or-spread_same n (suc first) k y
