-- The last digit of a number, and those before it; and bytes that are ASCII.
use Rattle.std.proofs.Common.{◌≡◌, ◌∙◌, ℕ, ◌+◌, ◌<◌, ◌≤◌, ◌/◌, ◌%◌, List, [], ◌∷◌, ◌++◌, ap, arith}
use Rattle.std.specs.Fmt.{decimal}
use Rattle.std.specs.Str.{IsAscii, IsUtf8}
use Rattle.std.proofs.lemmas.Fmt.{decimal_digit, decimal_step}
use Rattle.std.proofs.lemmas.Str.{IsUtf8-from_ascii}

last_digit : (n : ℕ) → 10 ≤ n → n < 1000 → decimal n ≡ decimal (n / 10) ++ (48 + n % 10) ∷ []
last_digit n more few = decimal_step n more (omega (arith, few))

pub two_digits : (n : ℕ) → 10 ≤ n → n < 100 → decimal n ≡ (48 + n / 10) ∷ (48 + n % 10) ∷ []
two_digits n more few =
    last_digit n more (omega (arith, few)) ∙ ap (λ (front : List ℕ). front ++ (48 + n % 10) ∷ []) (decimal_digit (n / 10) (omega (arith, few)))

by_hundred : (n : ℕ) → n / 10 / 10 ≡ n / 100
by_hundred n = omega arith

pub three_digits : (n : ℕ) → 100 ≤ n → n < 1000 → decimal n ≡ (48 + n / 100) ∷ (48 + n / 10 % 10) ∷ (48 + n % 10) ∷ []
three_digits n more few =
    last_digit n (omega (arith, more)) few ∙ ap (λ (front : List ℕ). front ++ (48 + n % 10) ∷ []) front_is
  where
    front_is : decimal (n / 10) ≡ (48 + n / 100) ∷ (48 + n / 10 % 10) ∷ []
    front_is = two_digits (n / 10) (omega (arith, more)) (omega (arith, few)) ∙ ap (λ (d : ℕ). (48 + d) ∷ (48 + n / 10 % 10) ∷ []) (by_hundred n)

pub ascii_is_text : (bytes : List ℕ) → IsAscii bytes → IsUtf8 bytes
ascii_is_text bytes ascii = IsUtf8-from_ascii bytes ascii
