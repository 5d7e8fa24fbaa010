-- Numbers by their last digits.
use Rattle.std.proofs.Common.{◌≡◌, ◌∙◌, ℕ, ◌+◌, ◌<◌, ◌≤◌, ◌/◌, ◌%◌, ◌^◌, List, [], ◌∷◌, ◌++◌, ap, append_assoc, arith}
use Rattle.std.specs.Fmt.{decimal}
use Rattle.std.proofs.lemmas.Fmt.{decimal_digit, decimal_step}
use Rattle.hk_audit.specs.ThreeDigits.{three_digits}

-- three digits behind a text, one by one
digit_by_digit : (front : List ℕ) (a b c : ℕ) → ((front ++ a ∷ []) ++ b ∷ []) ++ c ∷ [] ≡ front ++ a ∷ b ∷ c ∷ []
digit_by_digit front a b c = simp append_assoc

-- a number is that of its thousands, and three digits
pub by_thousands : (n : ℕ) → 1000 ≤ n → n < 2 ^ 64 → decimal n ≡ decimal (n / 1000) ++ three_digits (n % 1000)
by_thousands n more few =
    let front : n / 10 / 10 / 10 ≡ n / 1000 = omega arith in
    let first : n / 10 / 10 % 10 ≡ n % 1000 / 100 = omega arith in
    let second : n / 10 % 10 ≡ n % 1000 / 10 % 10 = omega arith in
    let third : n % 10 ≡ n % 1000 % 10 = omega arith in
    decimal_step n (omega arith) few
    ∙ ap (λ (t : List ℕ). t ++ (48 + n % 10) ∷ []) (decimal_step (n / 10) (omega arith) (omega arith))
    ∙ ap (λ (t : List ℕ). (t ++ (48 + n / 10 % 10) ∷ []) ++ (48 + n % 10) ∷ []) (decimal_step (n / 10 / 10) (omega arith) (omega arith))
    ∙ digit_by_digit (decimal (n / 10 / 10 / 10)) (48 + n / 10 / 10 % 10) (48 + n / 10 % 10) (48 + n % 10)
    ∙ ap (λ (m : ℕ). decimal m ++ (48 + n / 10 / 10 % 10) ∷ (48 + n / 10 % 10) ∷ (48 + n % 10) ∷ []) front
    ∙ ap (λ (d : ℕ). decimal (n / 1000) ++ (48 + d) ∷ (48 + n / 10 % 10) ∷ (48 + n % 10) ∷ []) first
    ∙ ap (λ (d : ℕ). decimal (n / 1000) ++ (48 + n % 1000 / 100) ∷ (48 + d) ∷ (48 + n % 10) ∷ []) second
    ∙ ap (λ (d : ℕ). decimal (n / 1000) ++ (48 + n % 1000 / 100) ∷ (48 + n % 1000 / 10 % 10) ∷ (48 + d) ∷ []) third

-- a number of up to three digits is that of its tens, and a digit
pub last_digit : (n : ℕ) → 10 ≤ n → n < 1000 → decimal n ≡ decimal (n / 10) ++ (48 + n % 10) ∷ []
last_digit n more few = decimal_step n more (omega (arith, few))

-- the digits of a number that has two
pub two_digits : (n : ℕ) → 10 ≤ n → n < 100 → decimal n ≡ (48 + n / 10) ∷ (48 + n % 10) ∷ []
two_digits n more few =
    last_digit n more (omega (arith, few)) ∙ ap (λ (front : List ℕ). front ++ (48 + n % 10) ∷ []) (decimal_digit (n / 10) (omega (arith, few)))
