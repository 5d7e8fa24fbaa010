-- A list whose last values are one value, of which the first ones stand.
use Rattle.std.proofs.Common.{◌≡◌, ℕ, ◌+◌, ◌-◌, ◌<◌, ◌≤◌, List, ◌++◌, length, set, replicate, ap, ◌∙◌, sym, arith, append_assoc, length-append, length-set}
use Rattle.std.proofs.lemmas.List.{length-replicate, replicate-append-replicate, set-append_left}

-- more of the list stands
longer : {X : Type 0} → (xs ys : List X) (to : ℕ) (rest : X) → ys ≡ xs ++ replicate (to - length xs) rest → length ys ≡ length xs + (to - length xs)
longer xs ys to rest is = ap length is ∙ length-append xs (replicate (to - length xs) rest) ∙ ap (λ k. length xs + k) (length-replicate (to - length xs) rest)

-- the same list with more of it standing
unrolled : {X : Type 0} → (xs ys : List X) (size to : ℕ) (rest : X) → to ≤ size → length xs ≤ size → ys ≡ xs ++ replicate (to - length xs) rest
    → ys ++ replicate (size - length ys) rest ≡ xs ++ replicate (size - length xs) rest
unrolled xs ys size to rest high within is =
    let n : length ys ≡ length xs + (to - length xs) = longer xs ys to rest is in
    let k : (to - length xs) + (size - length ys) ≡ size - length xs = omega arith in
    ap (λ zs. zs ++ replicate (size - length ys) rest) is
    ∙ append_assoc xs (replicate (to - length xs) rest) (replicate (size - length ys) rest)
    ∙ ap (λ zs. xs ++ zs) (replicate-append-replicate (to - length xs) (size - length ys) rest)
    ∙ ap (λ m. xs ++ replicate m rest) k

-- a value is written where it stands
written : {X : Type 0} → (xs : List X) (size s : ℕ) (rest value : X) → s < length xs
    → set xs s value ++ replicate (size - length (set xs s value)) rest ≡ set (xs ++ replicate (size - length xs) rest) s value
written xs size s rest value low = rw (length-set xs s value) (sym (set-append_left xs (replicate (size - length xs) rest) s value low))

-- a value is written once the list stands as far
pub unrolled_written : {X : Type 0} → (xs ys : List X) (size s : ℕ) (rest value : X) → s < size → length xs ≤ size → ys ≡ xs ++ replicate (s + 1 - length xs) rest
    → set ys s value ++ replicate (size - length (set ys s value)) rest ≡ set (xs ++ replicate (size - length xs) rest) s value
unrolled_written xs ys size s rest value low within is =
    let n : length ys ≡ length xs + (s + 1 - length xs) = longer xs ys (s + 1) rest is in
    written ys size s rest value (omega arith) ∙ ap (λ zs. set zs s value) (unrolled xs ys size (s + 1) rest (omega arith) within is)

-- as long as it was
pub unrolled_length : {X : Type 0} → (xs : List X) (size : ℕ) (rest : X) → length xs ≤ size → length (xs ++ replicate (size - length xs) rest) ≡ size
unrolled_length xs size rest within =
    length-append xs (replicate (size - length xs) rest) ∙ ap (λ k. length xs + k) (length-replicate (size - length xs) rest) ∙ omega arith
