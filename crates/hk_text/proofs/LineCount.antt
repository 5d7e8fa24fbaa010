-- A source has few lines where it has few bytes.
use Rattle.std.proofs.Common.{ℕ, ◌+◌, ◌≤◌, Bool, true, false, cond, eqb, List, [], ◌∷◌, length, arith}
use Rattle.std.specs.List.{slice_split, onto_first}
use Rattle.hk_format.specs.Texts.{lines_of, without_last_empty, is_none}

parts_few : (p : ℕ → Bool) (bytes : List ℕ) → length (slice_split p bytes) ≤ length bytes + 1
parts_few p [] = omega arith
parts_few p (b ∷ bytes) = go (p b) (slice_split p bytes) (parts_few p bytes)
  where
    go : (cut : Bool) (parts : List (List ℕ)) → length parts ≤ length bytes + 1 → length (cond cut ([] ∷ parts) (onto_first b parts)) ≤ length (b ∷ bytes) + 1
    go true parts h = omega arith
    go false [] h = omega arith
    go false (x ∷ parts) h = omega arith

without_last_few : (parts : List (List ℕ)) → length (without_last_empty parts) ≤ length parts
without_last_few [] = omega arith
without_last_few (x ∷ []) = go (is_none x)
  where
    go : (none : Bool) → length (cond none [] (x ∷ [])) ≤ length (x ∷ [])
    go true = omega arith
    go false = omega arith
without_last_few (x ∷ y ∷ more) = omega (arith, without_last_few (y ∷ more))

-- at most one line more than bytes
pub lines_few : (bytes : List ℕ) → length (lines_of bytes) ≤ length bytes + 1
lines_few bytes = omega (arith, without_last_few (slice_split (λ b. eqb b 10) bytes), parts_few (λ b. eqb b 10) bytes)
