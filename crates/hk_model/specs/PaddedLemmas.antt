-- What is kept in eight places can be told from the items.
use Rattle.std.specs.Prelude.{◌≡◌, ℕ, ◌-◌, List, ◌++◌, length, take, replicate}
use Rattle.std.proofs.Common.{ap, sym, ◌∙◌, arith}
use Rattle.std.proofs.lemmas.List.{take-append-drop, length-take-le}
use Rattle.hk_model.specs.Padded.{IsPadded, padded}

-- as many items are taken as places are used
pub length-used : {A : Type 0} (blank : A) (n : ℕ) (xs : List A) → IsPadded blank n xs → length (take n xs) ≡ n
length-used blank n xs h = length-take-le n xs (omega (arith, h.eight, h.fits))

-- the items padded again are the places
pub padded-used : {A : Type 0} (blank : A) (n : ℕ) (xs : List A) → IsPadded blank n xs → padded blank (take n xs) ≡ xs
padded-used blank n xs h =
    ap (λ k. take n xs ++ replicate (8 - k) blank) (length-used blank n xs h)
    ∙ ap (λ rest. take n xs ++ rest) (sym h.rest)
    ∙ take-append-drop n xs
