-- What is in the lists after a call, for those who keep facts of their own on each cell.
use Rattle.std.proofs.Common.{◌≡◌, ◌≢◌, Bool, ℕ, suc, ◌<◌, true, false, cond, List, [], ◌∷◌, ◌++◌, length, map, set, refl, ap, ◌∙◌, arith, ⊎_elim, ◌||◌}
use Rattle.std.proofs.lemmas.Bool.Decides.{nat_tests}
use Rattle.std.proofs.lemmas.Bool.{cases_eq}
use Rattle.std.proofs.lemmas.List.Folds.{list_any-append}
use Rattle.std.specs.Bool.{◌==◌}
use Rattle.std.specs.List.{list_any}
use Rattle.hk_links.specs.Chained.{without, listed, in_list}
use Rattle.hk_links.proofs.Nodes.{get_or_set}
use Rattle.hk_links.proofs.Paths.{any-without, listed-map}

pub in_list-unlink : (ls : List (List ℕ)) (c l d : ℕ) → in_list (map (without c) ls) l d ≡ cond (d == c) false (in_list ls l d)
in_list-unlink ls c l d = ap (list_any (λ x. d == x)) (listed-map (without c) refl ls l) ∙ any-without c d (listed ls l)

pub in_list-push : (ls : List (List ℕ)) (l c m d : ℕ) → l < length ls → in_list (set ls l (listed ls l ++ c ∷ [])) m d ≡ cond (m == l) (in_list ls l d || (d == c)) (in_list ls m d)
in_list-push ls l c m d inside =
    ap (list_any (λ x. d == x)) (get_or_set ls l m (listed ls l ++ c ∷ []) [] inside) ∙
    ⊎_elim
    (λ (same : m ≡ l).
    let t : (m == l) ≡ true = grind (arith, nat_tests) in
    rw t (list_any-append (λ x. d == x) (listed ls l) (c ∷ []) ∙ grind (arith, nat_tests)))
    (λ (other : m ≢ l).
    let t : (m == l) ≡ false = grind (arith, nat_tests) in
    rw t refl)
    (cases_eq m l)

-- a cell of no list taken out
without_absent : (c : ℕ) (xs : List ℕ) → list_any (λ x. c == x) xs ≡ false → without c xs ≡ xs
without_absent c [] h = refl
without_absent c (x ∷ xs) h = by (c == x) refl h (without_absent c xs)
  where
    by : (b : Bool) → (c == x) ≡ b → b || list_any (λ y. c == y) xs ≡ false → (list_any (λ y. c == y) xs ≡ false → without c xs ≡ xs)
        → without c (x ∷ xs) ≡ x ∷ xs
    by true e g rest = absurd (cc)
    by false e g rest = rw e (ap (λ (more : List ℕ). x ∷ more) (rest g))

pub none_without : (ls : List (List ℕ)) (c : ℕ) → ((l : ℕ) → l < length ls → in_list ls l c ≡ false) → map (without c) ls ≡ ls
none_without [] c h = refl
none_without (xs ∷ ls) c h =
    ap (λ (front : List ℕ). front ∷ map (without c) ls) (without_absent c xs (h 0 (omega arith)))
    ∙ ap (λ (rest : List (List ℕ)). xs ∷ rest) (none_without ls c (λ l inside. h (suc l) (omega (arith, inside))))
