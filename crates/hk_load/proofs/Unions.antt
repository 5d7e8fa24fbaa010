-- The rights of names, one after another.
use Rattle.std.proofs.Common.{◌≡◌, ℕ, ◌+◌, ◌<◌, ◌||◌, ◌^◌, List, [], length, drop, get_or, refl, sym, ap, ◌∙◌, Option, Some, None}
use Rattle.std.specs.Prelude.{bit_or, option_map}
use Rattle.std.proofs.Math.Bool.{or_assoc, or-false}
use Rattle.std.proofs.lemmas.List.{at_drop_more}
use Rattle.hk_rights.specs.Rights.{has, number_named}
use Rattle.hk_rights.proofs.Sets.{has-bit_or, has-zero, same_rights}
use Rattle.hk_format.specs.RightsTexts.{right_of, both, union_of}
use Rattle.hk_load.specs.Texts.{united}

union_assoc : (a b c : ℕ) → bit_or (bit_or a b) c ≡ bit_or a (bit_or b c)
union_assoc a b c =
    same_rights (bit_or (bit_or a b) c) (bit_or a (bit_or b c)) (λ n.
    has-bit_or (bit_or a b) c n
    ∙ ap (λ x. x || has c n) (has-bit_or a b n)
    ∙ or_assoc (has a n) (has b n) (has c n)
    ∙ ap (λ x. has a n || x) (sym (has-bit_or b c n))
    ∙ sym (has-bit_or a (bit_or b c) n))

united_both : (rights word : ℕ) (rest : Option ℕ) → united rights (both (Some word) rest) ≡ united (bit_or rights word) rest
united_both rights word (Some more) = ap (λ x. Some x) (sym (union_assoc rights word more))
united_both rights word None = refl

at_turn : (names : List (List ℕ)) (n : ℕ) (t : List ℕ) (rights : ℕ) (o : Option ℕ) → (n < length names) × (t ≡ get_or names n t) → number_named t ≡ o
    → united rights (union_of (drop n names)) ≡ united rights (both (option_map (λ number. 2 ^ number) o) (union_of (drop (n + 1) names)))
at_turn names n t rights o h e =
    at_drop_more (λ xs. united rights (union_of xs)) names n t h.0
    ∙ ap (λ x. united rights (both (right_of x) (union_of (drop (n + 1) names)))) (sym h.1)
    ∙ ap (λ x. united rights (both (option_map (λ number. 2 ^ number) x) (union_of (drop (n + 1) names)))) e

-- a name of a right
pub united_turn : (names : List (List ℕ)) (n : ℕ) (t : List ℕ) (rights number : ℕ) → (n < length names) × (t ≡ get_or names n t) → number_named t ≡ Some number
    → united rights (union_of (drop n names)) ≡ united (bit_or rights (2 ^ number)) (union_of (drop (n + 1) names))
united_turn names n t rights number h e = at_turn names n t rights (Some number) h e ∙ united_both rights (2 ^ number) (union_of (drop (n + 1) names))

-- a name of no right
pub united_bad : (names : List (List ℕ)) (n : ℕ) (t : List ℕ) (rights : ℕ) → (n < length names) × (t ≡ get_or names n t) → number_named t ≡ None
    → united rights (union_of (drop n names)) ≡ None
united_bad names n t rights h e = at_turn names n t rights None h e

-- no name is left
pub union_nothing : (rights : ℕ) → united rights (union_of []) ≡ Some rights
union_nothing rights = ap (λ x. Some x) (same_rights (bit_or rights 0) rights (λ n. has-bit_or rights 0 n ∙ ap (λ x. has rights n || x) (has-zero n) ∙ or-false (has rights n)))
