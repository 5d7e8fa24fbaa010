-- Numbers without leading zeros: as `parse` reads them and as `{}` writes them.
use Rattle.std.proofs.Common.{◌≡◌, ℕ, zero, suc, ◌<◌, ◌^◌, Bool, true, false, cond, eqb, ltb, List, [], ◌∷◌, refl, subst, arith, ◌&&◌, get_or, Some, None, Err}
use Rattle.std.specs.List.{list_all}
use Rattle.std.specs.Str.Parse.{ParsesUnsigned, without_leading_plus}
use Rattle.std.specs.Fmt.{decimal}
use Rattle.std.proofs.lemmas.Fmt.{decimal-digits_value, first_decimal}
use Rattle.std.proofs.lemmas.Str.Parse.{without_leading_plus_none}
use Rattle.std.proofs.lemmas.Bool.{and_parts, false≢true, lt-ltb, le-ltb, ltb-true}
use Rattle.std.proofs.lemmas.Bool.Decides.{nat_tests}
use Rattle.hk_model.specs.Labels.{is_digit}
use Rattle.hk_format.specs.Pieces.{is_number, value}
use Rattle.hk_model.specs.Limits.{inc_bound}
use Rattle.hk_format.proofs.PieceAgain.{digits_number, value_decimal}
use Rattle.hk_text.specs.Numerals.{is_numeral, numeral_of}
use Rattle.hk_text.proofs.Numbers.{digits_model}

-- digits that are no number of 64 bits
pub too_large : {E : Type 0} (t : List ℕ) (e : E) → is_number t ≡ true → ParsesUnsigned {E = E} 64 10 t (Err e) → ltb (value t) (2 ^ 64) ≡ false
too_large [] e h k = absurd (false≢true h)
too_large (d ∷ ds) e h k =
    let parts = and_parts (is_digit d) (list_all is_digit (d ∷ ds)) h in
    let plus : without_leading_plus (d ∷ ds) ≡ d ∷ ds = without_leading_plus_none (d ∷ ds) (λ same. grind (arith, nat_tests)) in
    let large : (value (d ∷ ds) < 2 ^ 64) → ⊥ = λ small. k (rw plus ((omega arith, digits_model.to (d ∷ ds) parts.1), small)) in
    le-ltb _ _ (omega arith)

-- a number without a leading zero is what is written of its value
pub numeral_text : (t : List ℕ) → is_numeral t ≡ true → value t < 2 ^ 64 → decimal (value t) ≡ t
numeral_text [] h k = absurd (false≢true h)
numeral_text (d ∷ ds) h k =
    let parts : (is_number (d ∷ ds) ≡ true) × _ = and_parts (is_number (d ∷ ds)) _ h in
    let digits = and_parts (is_digit d) (list_all is_digit (d ∷ ds)) parts.0 in
    let one = parts.1 in
    decimal-digits_value digits_model (d ∷ ds) digits.1 (omega arith) (λ zero. grind (arith, nat_tests)) k

-- what is written of a number is read again

zero_text : decimal 0 ≡ 48 ∷ []
zero_text = numeral_text (48 ∷ []) refl (omega arith)

pub numeral_decimal : (n : ℕ) → n < 2 ^ 64 → is_numeral (decimal n) ≡ true
numeral_decimal zero h = rw zero_text refl
numeral_decimal (suc n) h = go (decimal (suc n)) (digits_number (suc n) h) (first_decimal (suc n) (omega arith) h)
  where
    go : (ds : List ℕ) → is_number ds ≡ true → 48 < get_or ds 0 0 → is_numeral ds ≡ true
    go [] k e = absurd (false≢true k)
    go (d ∷ ds) k e = let other : eqb d 48 ≡ false = grind (arith, nat_tests) in rw (k, other) refl

pub numeral_again : (n : ℕ) → n < 2 ^ 64 → numeral_of (decimal n) ≡ Some n
numeral_again n h = rw (numeral_decimal n h, value_decimal n h, lt-ltb n inc_bound h) refl

-- a number is of one text
pub numeral_is : (t : List ℕ) (n : ℕ) → numeral_of t ≡ Some n → decimal n ≡ t
numeral_is t n e = go (is_numeral t) (ltb (value t) inc_bound) refl refl e
  where
    go : (a b : Bool) → is_numeral t ≡ a → ltb (value t) inc_bound ≡ b → cond (a && b) (Some (value t)) None ≡ Some n → decimal n ≡ t
    go true true j k h = let same : value t ≡ n = cc in subst (λ (m : ℕ). decimal m ≡ t) same (numeral_text t j (ltb-true (value t) inc_bound k))
    go true false j k h = absurd (let none : None ≡ Some n = h in cc)
    go false b j k h = absurd (let none : None ≡ Some n = h in cc)
