-- The pieces that are left of a line.
use Rattle.std.proofs.Common.{◌≡◌, ℕ, zero, suc, ◌<◌, Bool, true, leb, List, [], ◌∷◌, length, map, drop, refl, arith, ◌∙◌}
use Rattle.std.specs.Prelude.{slice_index_or}
use Rattle.std.specs.List.{list_all}
use Rattle.std.proofs.lemmas.Bool.{and_parts, le-leb}
use Rattle.std.proofs.lemmas.Bool.Decides.{nat_tests}
use Rattle.hk_format.specs.Texts.{is_none}

-- none is left where all were read
pub left_none : {X Y : Type 0} (f : X → Y) (xs : List X) (n : ℕ) → leb (length xs) n ≡ is_none (map f (drop n xs))
left_none f [] zero = refl
left_none f [] (suc n) = le-leb 0 (suc n) (omega arith)
left_none f (x ∷ xs) zero = grind (arith, nat_tests)
left_none f (x ∷ xs) (suc n) =
    let less : leb (length (x ∷ xs)) (suc n) ≡ leb (length xs) n = grind (arith, nat_tests) in
    less ∙ left_none f xs n

-- a test that all pass, at one of them
pub passes_at : {X Y : Type 0} (p : Y → Bool) (f : X → Y) (xs : List X) (n : ℕ) (d : X) → n < length xs → list_all p (map f xs) ≡ true → p (f (slice_index_or xs n d)) ≡ true
passes_at p f [] n d h k = absurd (omega arith)
passes_at p f (x ∷ xs) zero d h k = (and_parts (p (f x)) (list_all p (map f xs)) k).0
passes_at p f (x ∷ xs) (suc n) d h k = passes_at p f xs n d (omega arith) (and_parts (p (f x)) (list_all p (map f xs)) k).1
