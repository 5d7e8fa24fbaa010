-- The value of digits, one behind another.
use Rattle.std.proofs.Common.{◌≡◌, ℕ, ◌+◌, ◌-◌, ◌*◌, ◌≤◌, Bool, true, false, cond, List, [], ◌∷◌, min, refl, ap, arith, ◌&&◌, Option, Some, None}
use Rattle.std.specs.List.{list_all}
use Rattle.std.specs.Char.{digit_value}
use Rattle.std.specs.Str.Parse.{digits_value_after}
use Rattle.std.proofs.lemmas.Str.{digit_value_digit}
use Rattle.std.proofs.lemmas.Bool.Decides.{nat_tests}
use Rattle.hk_model.specs.Labels.{is_digit}
use Rattle.hk_model.specs.Limits.{word_bound}
use Rattle.hk_format.specs.Pieces.{value}

-- the value of digits behind a number that is at most 2 ^ 32, or 2 ^ 32 where it is more
abbrev pub digits_on : ℕ → List ℕ → Option ℕ
digits_on n [] = Some n
digits_on n (b ∷ bs) = cond (is_digit b) (digits_on (min (n * 10 + (b - 48)) word_bound) bs) None

-- a number that is cut off stays so behind one digit more
cut_off : (n m d e : ℕ) → m ≡ min n word_bound → d ≡ e → min (m * 10 + d) word_bound ≡ min (n * 10 + e) word_bound
cut_off n m d e h same = omega (arith, h, same)

behind : (n m : ℕ) (t : List ℕ) → m ≡ min n word_bound → digits_on m t ≡ cond (list_all is_digit t) (Some (min (digits_value_after 10 n t) word_bound)) None
behind n m [] h = ap Some h
behind n m (b ∷ bs) h = by (is_digit b) refl (λ same. behind (n * 10 + digit_value b) (min (m * 10 + (b - 48)) word_bound) bs (cut_off n m (b - 48) (digit_value b) h same))
  where
    by : (digit : Bool) → is_digit b ≡ digit
        → (b - 48 ≡ digit_value b → digits_on (min (m * 10 + (b - 48)) word_bound) bs
        ≡ cond (list_all is_digit bs) (Some (min (digits_value_after 10 (n * 10 + digit_value b) bs) word_bound)) None)
        → cond digit (digits_on (min (m * 10 + (b - 48)) word_bound) bs) None
        ≡ cond (digit && list_all is_digit bs) (Some (min (digits_value_after 10 (n * 10 + digit_value b) bs) word_bound)) None
    by true is later =
        let low : 48 ≤ b = grind (arith, nat_tests) in
        let high : b ≤ 57 = grind (arith, nat_tests) in
        let same : digit_value b + 48 ≡ b = digit_value_digit b (low, high) in
        later (omega (arith, same, low))
    by false is later = refl

-- the value of digits
pub digits_are : (t : List ℕ) → digits_on 0 t ≡ cond (list_all is_digit t) (Some (min (value t) word_bound)) None
digits_are t = behind 0 0 t (omega arith)
