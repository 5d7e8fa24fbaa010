-- Sets of rights: what each word of a set has.
use Rattle.std.proofs.Common.{◌≡◌, ◌==◌, ◌&&◌, ◌||◌, not, ◌+◌, ◌-◌, ◌*◌, ◌%◌, ◌^◌, ◌<◌, ◌≤◌, min, max, ℕ, Bool, true, false, refl, sym, ap, ◌∙◌, arith, inl, inr, ◌⊎◌, IsTrue}
use Rattle.std.proofs.Common.{bit_and, bit_or, bit_xor}
use Rattle.std.proofs.lemmas.Bool.Decides.{nat_tests}
use Rattle.std.proofs.lemmas.Bool.{cases_lt, cases_eq, or_cases}
use Rattle.std.proofs.lemmas.Nat.{pow_pos}
use Rattle.std.proofs.lemmas.Nat.Bits.{bit_at_and, bit_at_or, bit_at_xor, bit_at_not, bit_at_above, bit_at-lt, bit_at-zero, bit_at-pow_same, bit_at-pow_other, same_from_bits}
use Rattle.std.proofs.lemmas.Nat.Bits.{and_pow}
use Rattle.std.specs.Int.{bit_at, w32}
use Rattle.bitflags.specs.Sets.{without}
use Rattle.hk_rights.specs.Rights.{has, HasAll}

-- ---- on one bit of each word

or_of : (x y : ℕ) → x < 2 → y < 2 → (max x y == 1) ≡ ((x == 1) || (y == 1))
or_of x y p q = grind (arith, nat_tests)

and_of : (x y : ℕ) → x < 2 → y < 2 → (min x y == 1) ≡ ((x == 1) && (y == 1))
and_of x y p q = grind (arith, nat_tests)

not_of : (x y : ℕ) → x < 2 → y < 2 → (min x (1 - y) == 1) ≡ ((x == 1) && not (y == 1))
not_of x y p q = grind (arith, nat_tests)

minus_of : (x y : ℕ) → x < 2 → y < 2 → ((x + min x y) % 2 == 1) ≡ ((x == 1) && not (y == 1))
minus_of x y p q = grind (arith, nat_tests)

same_of : (x y : ℕ) → x < 2 → y < 2 → (x == 1) ≡ (y == 1) → x ≡ y
same_of x y p q e = grind (arith, nat_tests)

-- ---- what the set of each call has

pub has-zero : (n : ℕ) → has 0 n ≡ false
has-zero n = rw (bit_at-zero n) refl

pub has-bit_or : (a b n : ℕ) → has (bit_or a b) n ≡ (has a n || has b n)
has-bit_or a b n = rw (bit_at_or a b n) (or_of (bit_at a n) (bit_at b n) (bit_at-lt a n) (bit_at-lt b n))

pub has-bit_and : (a b n : ℕ) → has (bit_and a b) n ≡ (has a n && has b n)
has-bit_and a b n = rw (bit_at_and a b n) (and_of (bit_at a n) (bit_at b n) (bit_at-lt a n) (bit_at-lt b n))

-- what one word has and another lacks
abbrev pub lacking : ℕ → ℕ → ℕ
lacking a b = bit_xor a (bit_and a b)

pub has-lacking : (a b n : ℕ) → has (lacking a b) n ≡ (has a n && not (has b n))
has-lacking a b n = rw (bit_at_xor a (bit_and a b) n, bit_at_and a b n) (minus_of (bit_at a n) (bit_at b n) (bit_at-lt a n) (bit_at-lt b n))

-- the set of one right
pub has-pow : (one n : ℕ) → has (2 ^ one) n ≡ (n == one)
has-pow one n =
    elim (cases_eq n one) [
      | inl e ↦ let there : bit_at (2 ^ one) n ≡ 1 = rw e (bit_at-pow_same one) in let same : (n == one) ≡ true = grind (arith, nat_tests) in rw (there, same) refl
      | inr e ↦ let other : (n == one) ≡ false = grind (arith, nat_tests) in rw (bit_at-pow_other one n e, other) refl
    ]

-- a word of k bits has nothing from k on
pub has-above : (k a n : ℕ) → a < 2 ^ k → k ≤ n → has a n ≡ false
has-above k a n fits above = rw (bit_at_above a k n fits above) refl

-- two words of the same set are one word
pub same_rights : (a b : ℕ) → ((n : ℕ) → has a n ≡ has b n) → a ≡ b
same_rights a b h = same_from_bits a b (λ n. same_of (bit_at a n) (bit_at b n) (bit_at-lt a n) (bit_at-lt b n) (h n))

-- `without` of 32 bits is that
has-without : (a b n : ℕ) → a < 2 ^ 32 → b < 2 ^ 32 → has (without 32 a b) n ≡ (has a n && not (has b n))
has-without a b n fits fits_b =
    elim (cases_lt n 32) [
      | inl low ↦ rw (bit_at_and a (2 ^ 32 - 1 - b) n, bit_at_not w32 b n fits_b low) (not_of (bit_at a n) (bit_at b n) (bit_at-lt a n) (bit_at-lt b n))
      | inr high ↦ rw (has-bit_and a (2 ^ 32 - 1 - b) n, has-above 32 a n fits high) refl
    ]

pub without-lacking : (a b : ℕ) → a < 2 ^ 32 → b < 2 ^ 32 → without 32 a b ≡ lacking a b
without-lacking a b fits fits_b = same_rights (without 32 a b) (lacking a b) (λ n. has-without a b n fits fits_b ∙ sym (has-lacking a b n))

-- ---- one set within another

pub left_of : (x y : Bool) → (x && y) ≡ true → x ≡ true
left_of true y h = refl
left_of false y h = h

pub right_of : (x y : Bool) → (x && y) ≡ true → y ≡ true
right_of true y h = h
right_of false true h = refl
right_of false false h = h

pub or_right : (x y : Bool) → y ≡ true → (x || y) ≡ true
or_right true y h = refl
or_right false y h = h

both_of : (x y : Bool) → (y ≡ true → x ≡ true) → (x && y) ≡ y
both_of true y h = refl
both_of false true h = h refl
both_of false false h = refl

pub has-bit_and_left : (a b n : ℕ) → IsTrue (has (bit_and a b) n) → IsTrue (has a n)
has-bit_and_left a b n h = left_of (has a n) (has b n) (sym (has-bit_and a b n) ∙ h)

pub has-bit_and_right : (a b n : ℕ) → IsTrue (has (bit_and a b) n) → IsTrue (has b n)
has-bit_and_right a b n h = right_of (has a n) (has b n) (sym (has-bit_and a b n) ∙ h)

pub has-bit_or_cases : (a b n : ℕ) → IsTrue (has (bit_or a b) n) → IsTrue (has a n) ⊎ IsTrue (has b n)
has-bit_or_cases a b n h = or_cases (has a n) (has b n) (sym (has-bit_or a b n) ∙ h)

pub has-lacking_left : (a b n : ℕ) → IsTrue (has (lacking a b) n) → IsTrue (has a n)
has-lacking_left a b n h = left_of (has a n) (not (has b n)) (sym (has-lacking a b n) ∙ h)

pub HasAll-self : (a : ℕ) → HasAll a a
HasAll-self a = λ n h. h

pub HasAll-trans : (a b c : ℕ) → HasAll a b → HasAll b c → HasAll a c
HasAll-trans a b c h g = λ n there. h n (g n there)

pub HasAll-bit_and_left : (a b : ℕ) → HasAll a (bit_and a b)
HasAll-bit_and_left a b = λ n there. has-bit_and_left a b n there

pub HasAll-bit_and_right : (a b : ℕ) → HasAll b (bit_and a b)
HasAll-bit_and_right a b = λ n there. has-bit_and_right a b n there

pub HasAll-lacking : (a b : ℕ) → HasAll a (lacking a b)
HasAll-lacking a b = λ n there. has-lacking_left a b n there

pub HasAll-bit_or : (a b c : ℕ) → HasAll c a → HasAll c b → HasAll c (bit_or a b)
HasAll-bit_or a b c h g = λ n there.
    elim (has-bit_or_cases a b n there) [
      | inl one ↦ h n one
      | inr other ↦ g n other
    ]

-- a set has all of another exactly where what both have is that other
pub bit_and-from_HasAll : (a b : ℕ) → HasAll a b → bit_and a b ≡ b
bit_and-from_HasAll a b h = same_rights (bit_and a b) b (λ n. has-bit_and a b n ∙ both_of (has a n) (has b n) (h n))

pub HasAll-from_bit_and : (a b : ℕ) → bit_and a b ≡ b → HasAll a b
HasAll-from_bit_and a b e = λ n there. has-bit_and_left a b n (ap (λ w. has w n) e ∙ there)

one_of : (x p : ℕ) → x < 2 → 0 < p → (x * p == p) ≡ (x == 1)
one_of x p low some = elim (cases_eq x 1) [
  | inl e ↦ let same : (x * p == p) ≡ true =
      let here : x * p ≡ p = rw e (omega arith) in grind (arith, nat_tests) in let one : (x == 1) ≡ true = grind (arith, nat_tests) in same ∙ sym one
  | inr e ↦ let other : (x * p == p) ≡ false =
      let zero : x ≡ 0 = omega arith in let here : x * p ≡ 0 = rw zero (omega arith) in grind (arith, nat_tests) in let one : (x == 1) ≡ false = grind
      (arith, nat_tests) in other ∙ sym one
]

-- to have all of the set of one right is to have that right
pub contains-pow : (a n : ℕ) → (bit_and a (2 ^ n) == 2 ^ n) ≡ has a n
contains-pow a n = rw (and_pow a n) (one_of (bit_at a n) (2 ^ n) (bit_at-lt a n) (pow_pos n))
