-- A text of digits, as `parse` reads it.
use Rattle.std.proofs.Common.{◌≡◌, ℕ, Bool, true, false, ltb, List, [], ◌∷◌, length, refl, arith, Option, Some, None, cond, not}
use Rattle.std.specs.List.{list_all, position_or_len}
use Rattle.std.specs.Prelude.{MatchOption}
use Rattle.std.specs.Str.{IsUtf8}
use Rattle.std.proofs.lemmas.Str.Parse.{IsNumeralModel, numerals_by_value}
use Rattle.std.proofs.lemmas.Fmt.{IsAscii-from_digits}
use Rattle.std.proofs.lemmas.List.Sums.{prefix_len-le-length}
use Rattle.std.proofs.lemmas.Str.{IsUtf8-from_ascii}
use Rattle.std.proofs.lemmas.Bool.{and_parts, and_from, false≢true, ltb-false}
use Rattle.std.proofs.lemmas.Bool.Decides.{nat_tests}
use Rattle.hk_model.specs.Labels.{is_digit}
use Rattle.hk_format.specs.Pieces.{is_number, value}

-- digits, by their value
pub digits_model : IsNumeralModel (λ ds. list_all is_digit ds ≡ true) value
digits_model = numerals_by_value (λ ds. list_all is_digit ds ≡ true) (record {
  empty = refl;
  parts = λ c cs h. let k = and_parts (is_digit c) (list_all is_digit cs) h in (grind (arith, nat_tests), k.1);
  more = λ c cs r h. and_from (is_digit c) (list_all is_digit cs) (grind (arith, nat_tests)) h;
})

pub number_utf8 : (t : List ℕ) → is_number t ≡ true → IsUtf8 t
number_utf8 [] h = absurd (false≢true h)
number_utf8 (d ∷ ds) h = IsUtf8-from_ascii (d ∷ ds) (IsAscii-from_digits (d ∷ ds) (digits_model.to (d ∷ ds) (and_parts (is_digit d) (list_all is_digit (d ∷ ds)) h).1))

pub found_place : {X : Type 0} (p : X → Bool) (xs : List X) (r : Option ℕ) → r ≡ cond (ltb (position_or_len p xs) (length xs)) (Some (position_or_len p xs)) None
    → MatchOption r (length xs ≡ position_or_len p xs) (λ i. i ≡ position_or_len p xs)
found_place p xs r e = go (ltb (position_or_len p xs) (length xs)) refl r e
  where
    go : (b : Bool) → ltb (position_or_len p xs) (length xs) ≡ b → (o : Option ℕ) → o ≡ cond b (Some (position_or_len p xs)) None
        → MatchOption o (length xs ≡ position_or_len p xs) (λ i. i ≡ position_or_len p xs)
    go true k o f = rw f refl
    go false k o f = rw f (let high = ltb-false _ _ k in let low = prefix_len-le-length (λ x. not (p x)) xs in omega arith)
