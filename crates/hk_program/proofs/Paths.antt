-- Indices that are written one after the other.
use Rattle.std.specs.Prelude.{◌≡◌, ℕ, zero, suc, ◌+◌, ◌<◌, List, [], ◌∷◌, length, map, take, slice_get, slice_set, Some}
use Rattle.std.proofs.Common.{arith, add-one}
use Rattle.hk_model.specs.declared.instructions.Index.{Index}

-- one index more
pub take_set_more : (f : Index → ℕ) (xs : List ℕ) (ys : List Index) (i x : ℕ) (y : Index) → i < length xs → slice_get ys i ≡ Some y
    → x ≡ f y → take i xs ≡ map f (take i ys) → take (i + 1) (slice_set xs i x) ≡ map f (take (i + 1) ys)
take_set_more f xs ys i x y below is e h = rw add-one (more xs ys i below is h)
  where
    more : (xs : List ℕ) (ys : List Index) (i : ℕ) → i < length xs → slice_get ys i ≡ Some y
        → take i xs ≡ map f (take i ys) → take (suc i) (slice_set xs i x) ≡ map f (take (suc i) ys)
    more [] ys i below is h = absurd (omega arith)
    more (a ∷ xs) [] i below is h = cc
    more (a ∷ xs) (b ∷ ys) zero below is h = let same : b ≡ y = cc in rw (e, same)
    more (a ∷ xs) (b ∷ ys) (suc i) below is h =
        let here : a ≡ f b = cc in
        let rest : take i xs ≡ map f (take i ys) = cc in
        let one : take (suc i) (slice_set xs i x) ≡ map f (take (suc i) ys) = more xs ys i (omega arith) is rest in
        cc
