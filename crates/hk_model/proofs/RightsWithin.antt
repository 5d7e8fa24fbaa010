-- One set of rights within another.
use Rattle.std.proofs.Common.{◌≡◌, ◌+◌, ℕ, Bool, true, false, Option, Some, None, refl, sym, ◌∙◌, arith, cond, bit_and, bit_or, min}
use Rattle.std.specs.Prelude.{IsTrue, ◌&&◌, ◌⊎◌}
use mathlib.Core.Logic.{inl, inr}
use Rattle.std.proofs.lemmas.Bool.{true≢false, false≢true}
use Rattle.hk_model.specs.declared.names.Name.{Name}
use Rattle.hk_rights.specs.Rights.{MODIFY, ENV, UNCONF, has, all_but, all_rights, first_missing, IsRightsWord, HasAll, special_rights, env_right, unconf_right}
use Rattle.hk_model.specs.Walking.{reduced_rights, confined_rights, local_rights}
use Rattle.hk_model.specs.Merging.{merged_rights}
use Rattle.std.specs.Int.{bit_at}
use Rattle.std.proofs.lemmas.Nat.Bits.{same_from_bits, bit_at_and, bit_at_or, bit_at-zero}
use Rattle.hk_rights.proofs.Sets.{HasAll-self, HasAll-trans, HasAll-bit_and_left, HasAll-bit_and_right, HasAll-from_bit_and, has-bit_and_left, has-bit_and_right, has-bit_or_cases}
use Rattle.hk_rights.proofs.Sets.{has-bit_and, has-zero}
use Rattle.hk_rights.proofs.Missing.{first_missing-none, first_missing-pow, has-from_first_missing, HasAll-from_first_missing}
use Rattle.hk_model.specs.Ways.{Within}

-- all of the first are in the second
pub Within-all : (a b : ℕ) → HasAll b a → Within a b
Within-all a b h = first_missing-none b a h

pub Within-self : (a : ℕ) → Within a a
Within-self a = Within-all a a (HasAll-self a)

pub Within-and : (a mask : ℕ) → Within (bit_and a mask) a
Within-and a mask = Within-all (bit_and a mask) a (HasAll-bit_and_left a mask)

-- a right of the set within is one of the other
pub Within-has : (a b right : ℕ) → Within a b → IsTrue (has all_rights right) → has a right ≡ true → has b right ≡ true
Within-has a b right h is there = has-from_first_missing b a right h is there

-- a part of what is within is within
pub Within-part : (whole part b : ℕ) → IsRightsWord whole → bit_and whole part ≡ part → Within whole b → Within part b
Within-part whole part b word e h = Within-all part b (HasAll-trans b whole part (HasAll-from_first_missing b whole word h) (HasAll-from_bit_and whole part e))

-- what is obtained has no right more
HasAll-confined : (a : ℕ) → HasAll a (confined_rights a)
HasAll-confined a = HasAll-bit_and_left a (all_but (MODIFY + UNCONF))

HasAll-local : (a : ℕ) → HasAll a (local_rights a)
HasAll-local a = HasAll-bit_and_left a (all_but ENV)

-- whatever it is obtained through
pub HasAll-reduced : (by a : ℕ) → HasAll a (reduced_rights by a)
HasAll-reduced by a = outer (has by env_right) (cond (has by unconf_right) a (confined_rights a)) (inner (has by unconf_right))
  where
    inner : (b : Bool) → HasAll a (cond b a (confined_rights a))
    inner true = HasAll-self a
    inner false = HasAll-confined a

    outer : (b : Bool) (kept : ℕ) → HasAll a kept → HasAll a (cond b kept (local_rights kept))
    outer true kept h = h
    outer false kept h = HasAll-trans a kept (local_rights kept) h (HasAll-local kept)

pub Within-reduced : (by a : ℕ) → Within (reduced_rights by a) a
Within-reduced by a = Within-all (reduced_rights by a) a (HasAll-reduced by a)

-- what a mask takes away is not there
pub masked_off : (a mask right : ℕ) → has mask right ≡ false → has (bit_and a mask) right ≡ false
masked_off a mask right h = by (has (bit_and a mask) right) (λ e. has-bit_and_right a mask right e)
  where
    by : (b : Bool) → (b ≡ true → has mask right ≡ true) → b ≡ false
    by true g = absurd (true≢false (sym (g refl) ∙ h))
    by false g = refl

-- without ENV in the capability passed there is none behind it
pub local_lacks_env : (kept : ℕ) → has (local_rights kept) env_right ≡ false
local_lacks_env kept = masked_off kept (all_but ENV) env_right refl

pub reduced_lacks_env : (by a : ℕ) → has by env_right ≡ false → has (reduced_rights by a) env_right ≡ false
reduced_lacks_env by a h = rw h (local_lacks_env (cond (has by unconf_right) a (confined_rights a)))

-- MODIFY and UNCONF behind a capability are behind UNCONF in it
pub reduced_needs_unconf : (by a right : ℕ) → has (all_but (MODIFY + UNCONF)) right ≡ false → has (reduced_rights by a) right ≡ true → has by unconf_right ≡ true
reduced_needs_unconf by a right off h = outer (has by unconf_right) (has by env_right) h
  where
    inner : (e : Bool) → has (cond e (confined_rights a) (local_rights (confined_rights a))) right ≡ true → has (confined_rights a) right ≡ true
    inner true g = g
    inner false g = has-bit_and_left (confined_rights a) (all_but ENV) right g

    outer : (u e : Bool) → has (let kept = cond u a (confined_rights a) in cond e kept (local_rights kept)) right ≡ true → u ≡ true
    outer true e g = refl
    outer false e g = absurd (false≢true (sym (masked_off a (all_but (MODIFY + UNCONF)) right off) ∙ inner e g))

-- who lacks ENV does not have it
pub lacks_env : (rights : ℕ) → has rights env_right ≡ false → Within ENV rights → ⊥
lacks_env rights h g = by (first_missing-pow rights env_right refl h)
  where
    by : first_missing rights ENV ≡ Some env_right → ⊥
    by e = absurd (cc)

-- a merge gives no special right, and the others as its template says
pub merged_special : (of : Option Name) (rights give : ℕ) → Within (bit_and (merged_rights rights of give) special_rights) rights
merged_special None rights give =
    Within-all (bit_and (bit_and give rights) special_rights) rights
    (HasAll-trans rights (bit_and give rights) (bit_and (bit_and give rights) special_rights) (HasAll-bit_and_right give rights)
    (HasAll-bit_and_left (bit_and give rights) special_rights))
merged_special (Some wanted) rights give =
    Within-all (bit_and (bit_or (bit_and give (all_but special_rights)) (bit_and (bit_and give special_rights) rights)) special_rights) rights (λ n h.
    by n (has-bit_and_right (bit_or (bit_and give (all_but special_rights)) (bit_and (bit_and give special_rights) rights)) special_rights n h)
    (has-bit_or_cases (bit_and give (all_but special_rights)) (bit_and (bit_and give special_rights) rights) n
    (has-bit_and_left (bit_or (bit_and give (all_but special_rights)) (bit_and (bit_and give special_rights) rights)) special_rights n h)))
  where
    both : (n : ℕ) → (x : Bool) → has (all_but special_rights) n ≡ x → has special_rights n ≡ true → (has (all_but special_rights) n && has special_rights n) ≡ false → x ≡ false
    both n true e g none = absurd (true≢false (let k : (has (all_but special_rights) n && has special_rights n) ≡ true = rw (e, g) refl in sym k ∙ none))
    both n false e g none = refl

    apart : (n : ℕ) → has special_rights n ≡ true → has (all_but special_rights) n ≡ true → ⊥
    apart n g h = true≢false (sym h ∙ both n (has (all_but special_rights) n) refl g (sym (has-bit_and (all_but special_rights) special_rights n) ∙ has-zero n))

    by : (n : ℕ) → has special_rights n ≡ true → (has (bit_and give (all_but special_rights)) n ≡ true) ⊎ (has (bit_and (bit_and give special_rights) rights) n ≡ true)
        → has rights n ≡ true
    by n special (inl h) = absurd (apart n special (has-bit_and_right give (all_but special_rights) n h))
    by n special (inr h) = has-bit_and_right (bit_and give special_rights) rights n h

pub merged_others : (wanted : Name) (rights give : ℕ) → bit_and (merged_rights rights (Some wanted) give) (all_but special_rights) ≡ bit_and give (all_but special_rights)
merged_others wanted rights give =
    same_from_bits (bit_and (bit_or (bit_and give (all_but special_rights)) (bit_and (bit_and give special_rights) rights)) (all_but special_rights))
    (bit_and give (all_but special_rights)) (λ i.
    let apart : min (bit_at (all_but special_rights) i) (bit_at special_rights i) ≡ 0 = sym (bit_at_and (all_but special_rights) special_rights i) ∙ bit_at-zero i in
    omega (
      arith,
      apart,
      bit_at_and (bit_or (bit_and give (all_but special_rights)) (bit_and (bit_and give special_rights) rights)) (all_but special_rights) i,
      bit_at_or
          (bit_and give (all_but special_rights)) (bit_and (bit_and give special_rights) rights) i,
      bit_at_and give (all_but special_rights) i,
      bit_at_and (bit_and give special_rights)
          rights i,
      bit_at_and give special_rights i,
    ))
