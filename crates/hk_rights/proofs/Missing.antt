-- The first right that is missing.
use Rattle.std.proofs.Common.{◌≡◌, ◌==◌, ◌&&◌, ◌||◌, not, ◌^◌, ◌<◌, ℕ, suc, Bool, true, false, List, [], ◌∷◌, Some, None, refl, sym, ap, ◌∙◌, arith, inl, inr, cond, IsTrue, nat_le}
use Rattle.std.proofs.Common.{find}
use Rattle.std.proofs.lemmas.Bool.Decides.{nat_tests}
use Rattle.std.proofs.lemmas.Option.{none-some}
use Rattle.std.proofs.lemmas.Bool.{cases_order, true≢false, false≢true}
use Rattle.std.specs.List.{list_any}
use Rattle.hk_rights.specs.Rights.{has, right_numbers, right_table, all_rights, IsRightsWord, HasAll, first_missing}
use Rattle.hk_rights.proofs.Sets.{left_of, right_of, lacking, has-lacking, has-zero, has-pow}
use Rattle.hk_rights.proofs.Words.{HasAll-all_rights}
use Rattle.hk_rights.proofs.Table.{has-all_rights, right_numbers-is_right}

-- ---- the first of a rising list of numbers that passes a test

find-none : (test : ℕ → Bool) (ns : List ℕ) → ((n : ℕ) → test n ≡ false) → find test ns ≡ None
find-none test [] h = refl
find-none test (n ∷ ns) h = rw (h n) (find-none test ns h)

-- where none is found none passes
none-passes : (test : ℕ → Bool) (ns : List ℕ) (n : ℕ) → find test ns ≡ None → list_any (λ k. k == n) ns ≡ true → test n ≡ false
none-passes test [] n none there = absurd (false≢true there)
none-passes test (k ∷ ns) n none there = at (test k) refl (k == n) refl none there (none-passes test ns n)
  where
    at : (b : Bool) → test k ≡ b → (e : Bool) → (k == n) ≡ e → cond b (Some k) (find test ns) ≡ None → (e || list_any (λ k. k == n) ns) ≡ true
        → (find test ns ≡ None → list_any (λ k. k == n) ns ≡ true → test n ≡ false) → test n ≡ false
    at true passes e same none there later = absurd (none-some k (sym none))
    at false passes true same none there later = let n_is_k : n ≡ k = grind (arith, nat_tests) in rw n_is_k passes
    at false passes false same none there later = later none there

rising : ℕ → List ℕ → Bool
rising low [] = true
rising low (n ∷ ns) = nat_le low n && rising (suc n) ns

rising-past : (n low : ℕ) (ns : List ℕ) → rising low ns ≡ true → n < low → list_any (λ k. k == n) ns ≡ false
unfolding rising
rising-past n low [] up past = refl
rising-past n low (k ∷ ns) up past =
    let here : nat_le low k ≡ true = left_of (nat_le low k) _ up in
    let other : (k == n) ≡ false = grind (arith, nat_tests) in
    let above : n < suc k = grind (arith, nat_tests) in
    rw other (rising-past n (suc k) ns (right_of (nat_le low k) _ up) above)

-- in a rising list the least number that passes is found
find-least : (test : ℕ → Bool) (n low : ℕ) (ns : List ℕ) → rising low ns ≡ true → list_any (λ k. k == n) ns ≡ true → test n ≡ true → ((k : ℕ) → k < n → test k ≡ false)
    → find test ns ≡ Some n
unfolding rising
find-least test n low [] up there passes below = absurd (true≢false (sym there))
find-least test n low (k ∷ ns) up there passes below =
    let rest = right_of (nat_le low k) _ up in
    elim (cases_order k n) [
      | inl e ↦ let here : test k ≡ true = rw e passes in rw (here, e) refl
      | inr o ↦ elim o [
        | inl less ↦
            let other : (k == n) ≡ false = grind (arith, nat_tests) in
            let there_rest : list_any (λ j. j == n) ns ≡ true = ap (λ b. b || list_any (λ j. j == n) ns) (sym other) ∙ there in
            rw (below k less) (find-least test n (suc k) ns rest there_rest passes below)
        | inr more ↦
            let other : (k == n) ≡ false = grind (arith, nat_tests) in
            let past : n < suc k = omega arith in
            absurd (true≢false (sym there ∙ (ap (λ b. b || list_any (λ j. j == n) ns) other ∙ rising-past n (suc k) ns rest past)))
      ]
    ]

-- ---- of two sets

implied : (x y : Bool) → (x ≡ true → y ≡ true) → (x && not y) ≡ false
implied true y h = rw (h refl) refl
implied false y h = refl

implies : (x y : Bool) → (x && not y) ≡ false → x ≡ true → y ≡ true
implies true true h e = refl
implies true false h e = absurd (true≢false h)
implies false y h e = absurd (false≢true e)

numbers_rise : rising 0 right_numbers ≡ true
unfolding rising right_numbers right_table
numbers_rise = refl

listed : (n : ℕ) → IsTrue (has all_rights n) → list_any (λ k. k == n) right_numbers ≡ true
listed n right = right_numbers-is_right n ∙ (sym (has-all_rights n) ∙ right)

-- none is missing where all that is needed is there
pub first_missing-none : (have need : ℕ) → HasAll have need → first_missing have need ≡ None
unfolding first_missing
first_missing-none have need h = find-none (λ n. has need n && not (has have n)) right_numbers (λ n. implied (has need n) (has have n) (h n))

-- where nothing is left without what is there, all that is needed is there
pub HasAll-from_lacking : (have need : ℕ) → lacking need have ≡ 0 → HasAll have need
HasAll-from_lacking have need e = λ n. implies (has need n) (has have n) (sym (has-lacking need have n) ∙ (ap (λ w. has w n) e ∙ has-zero n))

-- where none is missing each right that is needed is there
pub has-from_first_missing : (have need n : ℕ) → first_missing have need ≡ None → IsTrue (has all_rights n) → IsTrue (has need n) → IsTrue (has have n)
unfolding first_missing
has-from_first_missing have need n none right needed =
    implies (has need n) (has have n) (none-passes (λ n. has need n && not (has have n)) right_numbers n none (listed n right)) needed

pub HasAll-from_first_missing : (have need : ℕ) → IsRightsWord need → first_missing have need ≡ None → HasAll have need
HasAll-from_first_missing have need word none = λ n needed. has-from_first_missing have need n none (HasAll-all_rights need word n needed) needed

-- the least right that is needed and not there is missing first
pub first_missing-some : (have need n : ℕ) → IsTrue (has all_rights n) → IsTrue (has (lacking need have) n) → ((k : ℕ) → k < n → has (lacking need have) k ≡ false)
    → first_missing have need ≡ Some n
unfolding first_missing rising
first_missing-some have need n right missing least =
    find-least (λ n. has need n && not (has have n)) n 0 right_numbers numbers_rise (listed n right) (sym (has-lacking need have n) ∙ missing)
    (λ k less. sym (has-lacking need have k) ∙ least k less)

-- of one right
pub first_missing-pow : (have n : ℕ) → IsTrue (has all_rights n) → has have n ≡ false → first_missing have (2 ^ n) ≡ Some n
first_missing-pow have n right lacks = first_missing-some have (2 ^ n) n right
    (has-lacking (2 ^ n) have n ∙ here)
    (λ k less. has-lacking (2 ^ n) have k ∙ before k less)
  where
    here : (has (2 ^ n) n && not (has have n)) ≡ true
    here = let same : (n == n) ≡ true = grind (arith, nat_tests) in rw (has-pow n n, same, lacks) refl

    before : (k : ℕ) → k < n → (has (2 ^ n) k && not (has have k)) ≡ false
    before k less = let other : (k == n) ≡ false = grind (arith, nat_tests) in rw (has-pow n k, other) refl
