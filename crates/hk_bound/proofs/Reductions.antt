-- What rights are left of a reduction and of a merge.
use Rattle.std.proofs.Common.{◌≡◌, ℕ, Bool, true, false, refl, sym, ◌∙◌, ap, cond, bit_and, bit_or}
use Rattle.std.specs.Prelude.{◌||◌, ◌⊎◌}
use mathlib.Core.Logic.{inl, inr}
use Rattle.std.proofs.lemmas.Bool.{false≢true}
use Rattle.hk_model.specs.declared.names.Name.{Name}
use Rattle.std.specs.Prelude.{Some}
use Rattle.hk_rights.specs.Rights.{has, all_rights, all_but, special_rights, HasAll, ENV, env_right, unconf_right}
use Rattle.hk_model.specs.Walking.{reduced_rights, confined_rights, local_rights}
use Rattle.hk_model.specs.Merging.{merged_rights}
use Rattle.hk_rights.proofs.Sets.{has-bit_and, has-bit_or, has-bit_or_cases}
use Rattle.hk_model.proofs.RightsWithin.{HasAll-reduced}
use Rattle.hk_bound.specs.Taking.{confined_away}
use Rattle.hk_bound.proofs.Bounded.{lacks, reduced_unconf, reduced_env}

-- a right is in the one part or in the other
pub rest_right : (a b n : ℕ) → bit_or a b ≡ all_rights → has all_rights n ≡ true → has a n ≡ false → has b n ≡ true
rest_right a b n e h g = by (has b n) (has-bit_or a b n)
  where
    by : (x : Bool) → has (bit_or a b) n ≡ (has a n || x) → x ≡ true
    by true f = refl
    by false f = let k : (has a n || false) ≡ false = rw g refl in absurd (false≢true (sym k ∙ sym f ∙ ap (λ m. has m n) e ∙ h))

pub masked : (a mask n : ℕ) → has a n ≡ true → has mask n ≡ true → has (bit_and a mask) n ≡ true
masked a mask n h g = rw (has-bit_and a mask n, h) g

-- what is not taken away stays
pub confined_keeps : (a n : ℕ) → has all_rights n ≡ true → has a n ≡ true → has confined_away n ≡ false → has (confined_rights a) n ≡ true
confined_keeps a n is h off = masked a (all_but confined_away) n h (rest_right confined_away (all_but confined_away) n refl is off)

local_keeps : (a n : ℕ) → has all_rights n ≡ true → has a n ≡ true → has ENV n ≡ false → has (local_rights a) n ≡ true
local_keeps a n is h off = masked a (all_but ENV) n h (rest_right ENV (all_but ENV) n refl is off)

-- by a test that holds wherever it is needed
pub kept_if : (u x : Bool) (a b n : ℕ) → (x ≡ true → u ≡ true) → has a n ≡ true → (x ≡ false → has b n ≡ true) → has (cond u a b) n ≡ true
kept_if true x a b n f h g = h
kept_if false true a b n f h g = absurd (false≢true (f refl))
kept_if false false a b n f h g = g refl

pub reduced_keeps : (by a n : ℕ) → has all_rights n ≡ true → has a n ≡ true → (has confined_away n ≡ true → has by unconf_right ≡ true)
    → (has ENV n ≡ true → has by env_right ≡ true) → has (reduced_rights by a) n ≡ true
reduced_keeps by a n is h u e =
    let kept : ℕ = cond (has by unconf_right) a (confined_rights a) in
    let first : has (cond (has by unconf_right) a (confined_rights a)) n ≡ true = kept_if (has by unconf_right) (has confined_away n) a (confined_rights a) n u h
    (confined_keeps a n is h) in
    kept_if (has by env_right) (has ENV n) (cond (has by unconf_right) a (confined_rights a)) (local_rights (cond (has by unconf_right) a (confined_rights a))) n e first
    (local_keeps (cond (has by unconf_right) a (confined_rights a)) n is first)

pub merged_keeps : (rights give n : ℕ) (wanted : Name) → has all_rights n ≡ true → has give n ≡ true → (has special_rights n ≡ true → has rights n ≡ true)
    → has (merged_rights rights (Some wanted) give) n ≡ true
merged_keeps rights give n wanted is g s = rw (has-bit_or (bit_and give (all_but special_rights)) (bit_and (bit_and give special_rights) rights) n) (by (has special_rights n) refl)
  where
    or_left : (x y : Bool) → x ≡ true → (x || y) ≡ true
    or_left true y h = refl
    or_left false y h = absurd (false≢true h)

    or_right : (x y : Bool) → y ≡ true → (x || y) ≡ true
    or_right true y h = refl
    or_right false y h = h

    by : (x : Bool) → has special_rights n ≡ x → (has (bit_and give (all_but special_rights)) n || has (bit_and (bit_and give special_rights) rights) n) ≡ true
    by true e =
        or_right (has (bit_and give (all_but special_rights)) n) (has (bit_and (bit_and give special_rights) rights) n)
        (masked (bit_and give special_rights) rights n (masked give special_rights n g e) (s e))
    by false e =
        or_left (has (bit_and give (all_but special_rights)) n) (has (bit_and (bit_and give special_rights) rights) n)
        (masked give (all_but special_rights) n g (rest_right special_rights (all_but special_rights) n refl is e))

-- through the rights of two what is left is left through one of them
pub reduced_or_cases : (a b r n : ℕ) → has all_rights n ≡ true → has (reduced_rights (bit_or a b) r) n ≡ true
    → (has (reduced_rights a r) n ≡ true) ⊎ (has (reduced_rights b r) n ≡ true)
reduced_or_cases a b r n is h = by (has confined_away n) (has ENV n) refl refl
  where
    there : has r n ≡ true
    there = HasAll-reduced (bit_or a b) r n h

    by : (x y : Bool) → has confined_away n ≡ x → has ENV n ≡ y → (has (reduced_rights a r) n ≡ true) ⊎ (has (reduced_rights b r) n ≡ true)
    by true y f g = elim (has-bit_or_cases a b unconf_right (reduced_unconf (bit_or a b) r n h f)) [
      | inl u ↦ inl (reduced_keeps a r n is there (λ k. u) (λ k. absurd (false≢true (sym (lacks confined_away ENV n refl f) ∙ k))))
      | inr u ↦ inr (reduced_keeps b r n is there (λ k. u) (λ k. absurd (false≢true (sym (lacks confined_away ENV n refl f) ∙ k))))
    ]
    by false true f g = elim (has-bit_or_cases a b env_right (reduced_env (bit_or a b) r n h g)) [
      | inl e ↦ inl (reduced_keeps a r n is there (λ k. absurd (false≢true (sym f ∙ k))) (λ k. e))
      | inr e ↦ inr (reduced_keeps b r n is there (λ k. absurd (false≢true (sym f ∙ k))) (λ k. e))
    ]
    by false false f g = inl (reduced_keeps a r n is there (λ k. absurd (false≢true (sym f ∙ k))) (λ k. absurd (false≢true (sym g ∙ k))))

-- through more rights no less is left
pub reduced_more : (all by r n : ℕ) → HasAll all by → has all_rights n ≡ true → has (reduced_rights by r) n ≡ true → has (reduced_rights all r) n ≡ true
reduced_more all by r n more is h =
    reduced_keeps all r n is (HasAll-reduced by r n h) (λ k. more unconf_right (reduced_unconf by r n h k)) (λ k. more env_right (reduced_env by r n h k))
