-- The table of rights: its numbers, its names and its words.
use Rattle.std.proofs.Common.{◌≡◌, ◌==◌, ◌&&◌, not, ◌^◌, ◌<◌, ◌≤◌, ℕ, zero, suc, Bool, true, false, List, [], ◌∷◌, map, length, Option, Some, None, refl, sym, ap, ◌∙◌, arith, inl}
use Rattle.std.proofs.Common.{inr, cond, option_map, IsTrue, lit<, find}
use Rattle.std.specs.Prelude.{nat_eq}
use Rattle.std.proofs.lemmas.Bool.Decides.{nat_tests, Decides-below_and}
use Rattle.std.proofs.lemmas.Option.{none-some, same_Some}
use Rattle.std.proofs.lemmas.Bool.{cases_lt, cases_Bool}
use Rattle.std.specs.Bool.{Decides}
use Rattle.std.specs.List.{list_any}
use Rattle.std.specs.Cmp.Lexicographic.{pointwise}
use Rattle.bitflags.specs.Sets.{known_from, known_bits, find_row, find_name}
use Rattle.hk_rights.specs.Rights.{Row, right_table, right_numbers, word_table, is_right, number_named, has, all_rights}
use Rattle.hk_rights.proofs.Sets.{has-above, or_right}

-- ---- the numbers

same : Bool → Bool → Bool
same true b = b
same false b = not b

same_decides : (x y : Bool) → Decides (same x y) (x ≡ y)
unfolding same
same_decides true y = (λ h. sym h, λ h. sym h)
same_decides false true = (λ h. h, λ h. h)
same_decides false false = (λ h. refl, λ h. refl)

agrees : ℕ → Bool
agrees n = same (has all_rights n) (is_right n)

agree_below : ℕ → Bool
agree_below zero = true
agree_below (suc n) = agrees n && agree_below n

right_below : (n : ℕ) → n < 32 → has all_rights n ≡ is_right n
unfolding agrees agree_below same
right_below = (Decides-below_and agrees (λ n. has all_rights n ≡ is_right n) agree_below (λ n. same_decides (has all_rights n) (is_right n)) refl (λ _. refl) 32).0 refl

-- the numbers of the rights are those of the set of all rights
pub has-all_rights : (n : ℕ) → has all_rights n ≡ is_right n
has-all_rights n =
    elim (cases_lt n 32) [
      | inl low ↦ right_below n low
      | inr high ↦
          let above : 24 ≤ n = omega arith in
          let none : is_right n ≡ false = grind (arith, nat_tests) in
          has-above 24 all_rights n (lit< tt) above ∙ sym none
    ]

-- the numbers of the rights are those of the table
pub right_numbers-is_right : (n : ℕ) → list_any (λ k. k == n) right_numbers ≡ is_right n
unfolding right_numbers right_table
right_numbers-is_right n = grind (arith, nat_tests)

-- the highest right is 23
pub right_low : (n : ℕ) → IsTrue (is_right n) → n < 24
right_low n h = grind (arith, nat_tests)

-- the words of the table are together the word of all rights
pub known-all_rights : known_bits word_table ≡ all_rights
unfolding known_from right_table
known-all_rights = refl

-- ---- the names

find_row-pow : (rows : List Row) (name : List ℕ)
    → find_row (map (λ row. (row.0, 2 ^ row.1)) rows) name ≡ option_map (λ n. 2 ^ n) (option_map (λ row. row.1) (find (λ row. pointwise nat_eq row.0 name) rows))
unfolding find_row
find_row-pow [] name = refl
find_row-pow (row ∷ rows) name =
    elim (cases_Bool (pointwise nat_eq row.0 name)) [
      | inl e ↦ rw e refl
      | inr e ↦ rw e (find_row-pow rows name)
    ]

-- the word that a name stands for is that of the right of this name
pub named-word : (name : List ℕ) → find_name word_table name ≡ option_map (λ n. 2 ^ n) (number_named name)
unfolding number_named right_table
named-word [] = refl
named-word (x ∷ name) =
    let some : (length (x ∷ name) == 0) ≡ false = grind (arith, nat_tests) in
    rw some (find_row-pow right_table (x ∷ name))

number-in_rows : (rows : List Row) (name : List ℕ) (n : ℕ)
    → option_map (λ row. row.1) (find (λ row. pointwise nat_eq row.0 name) rows) ≡ Some n → list_any (λ k. k == n) (map (λ row. row.1) rows) ≡ true
number-in_rows [] name n e = absurd (none-some n e)
number-in_rows (row ∷ rows) name n e = at (pointwise nat_eq row.0 name) e (number-in_rows rows name n)
  where
    at : (b : Bool) → option_map (λ row. row.1) (cond b (Some row) (find (λ row. pointwise nat_eq row.0 name) rows)) ≡ Some n
        → (option_map (λ row. row.1) (find (λ row. pointwise nat_eq row.0 name) rows) ≡ Some n → list_any (λ k. k == n) (map (λ row. row.1) rows) ≡ true)
        → list_any (λ k. k == n) (map (λ row. row.1) (row ∷ rows)) ≡ true
    at true e later =
        let found : row.1 ≡ n = same_Some row.1 n e in
        let test : (row.1 == n) ≡ true = grind (arith, nat_tests) in
        rw test refl
    at false e later = or_right (row.1 == n) _ (later e)

named-in_table : (name : List ℕ) (n : ℕ) → number_named name ≡ Some n → list_any (λ k. k == n) right_numbers ≡ true
unfolding number_named right_numbers
named-in_table name n e = number-in_rows right_table name n e

-- what a name stands for is a right
pub named-is_right : (name : List ℕ) (n : ℕ) → number_named name ≡ Some n → IsTrue (is_right n)
named-is_right name n e = sym (right_numbers-is_right n) ∙ named-in_table name n e

-- the right of a name whose word was found, or not found
pub named_some : (name : List ℕ) (word : ℕ) → Some word ≡ find_name word_table name → (n : ℕ) × (number_named name ≡ Some n) × (word ≡ 2 ^ n)
named_some name word e = at (number_named name) refl (e ∙ named-word name)
  where
    at : (o : Option ℕ) → number_named name ≡ o → Some word ≡ option_map (λ n. 2 ^ n) (number_named name) → (n : ℕ) × (number_named name ≡ Some n) × (word ≡ 2 ^ n)
    at None is f = absurd (none-some word (sym (f ∙ ap (option_map (λ n. 2 ^ n)) is)))
    at (Some n) is f = (n, is, same_Some word (2 ^ n) (f ∙ ap (option_map (λ n. 2 ^ n)) is))

pub named_none : (name : List ℕ) → None ≡ find_name word_table name → number_named name ≡ None
named_none name e = at (number_named name) refl (e ∙ named-word name)
  where
    at : (o : Option ℕ) → number_named name ≡ o → None ≡ option_map (λ n. 2 ^ n) (number_named name) → number_named name ≡ None
    at None is f = is
    at (Some n) is f = absurd (none-some (2 ^ n) (f ∙ ap (option_map (λ n. 2 ^ n)) is))
