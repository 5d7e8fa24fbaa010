-- Rights words: words in which no bit is set that is no right's.
use Rattle.std.proofs.Common.{◌≡◌, ◌<◌, ◌^◌, ◌&&◌, not, ℕ, Bool, true, false, refl, sym, ap, ◌∙◌, arith, bit_and, bit_or}
use Rattle.std.proofs.lemmas.Nat.{and_comm, and_le_l}
use Rattle.hk_rights.specs.Rights.{all_rights, IsRightsWord, minus, HasAll, has}
use Rattle.hk_rights.proofs.Sets.{HasAll-from_bit_and, bit_and-from_HasAll, HasAll-trans, HasAll-bit_and_left, HasAll-bit_and_right, HasAll-bit_or, HasAll-lacking, lacking}
use Rattle.hk_rights.proofs.Sets.{has-lacking, has-bit_and, same_rights, has-pow}

-- the rights words are the words of sets of rights
pub HasAll-all_rights : (a : ℕ) → IsRightsWord a → HasAll all_rights a
HasAll-all_rights a h = HasAll-from_bit_and all_rights a (and_comm all_rights a ∙ h)

pub IsRightsWord-from_HasAll : (a : ℕ) → HasAll all_rights a → IsRightsWord a
IsRightsWord-from_HasAll a h = and_comm a all_rights ∙ bit_and-from_HasAll all_rights a h

-- a subset of a set of rights is one
pub IsRightsWord-subset : (a b : ℕ) → HasAll a b → IsRightsWord a → IsRightsWord b
IsRightsWord-subset a b h word = IsRightsWord-from_HasAll b (HasAll-trans all_rights a b (HasAll-all_rights a word) h)

pub IsRightsWord-bit_and : (a b : ℕ) → IsRightsWord a → IsRightsWord (bit_and a b)
IsRightsWord-bit_and a b h = IsRightsWord-subset a (bit_and a b) (HasAll-bit_and_left a b) h

pub IsRightsWord-bit_and_right : (a b : ℕ) → IsRightsWord b → IsRightsWord (bit_and a b)
IsRightsWord-bit_and_right a b h = IsRightsWord-subset b (bit_and a b) (HasAll-bit_and_right a b) h

pub IsRightsWord-bit_or : (a b : ℕ) → IsRightsWord a → IsRightsWord b → IsRightsWord (bit_or a b)
IsRightsWord-bit_or a b h g = IsRightsWord-from_HasAll (bit_or a b) (HasAll-bit_or a b all_rights (HasAll-all_rights a h) (HasAll-all_rights b g))

pub IsRightsWord-lacking : (a b : ℕ) → IsRightsWord a → IsRightsWord (lacking a b)
IsRightsWord-lacking a b h = IsRightsWord-subset a (lacking a b) (HasAll-lacking a b) h

-- a rights word has 24 bits
pub IsRightsWord-lt : (a : ℕ) → IsRightsWord a → a < 2 ^ 24
IsRightsWord-lt a h =
    let e : bit_and all_rights a ≡ a = and_comm all_rights a ∙ h in
    omega (arith, e, and_le_l all_rights a)

pub IsRightsWord-fits : (a : ℕ) → IsRightsWord a → a < 2 ^ 32
IsRightsWord-fits a h = omega (arith, IsRightsWord-lt a h)

-- of rights, what the other set lacks is all but what it has
pub lacking-minus : (a b : ℕ) → IsRightsWord a → lacking a b ≡ minus a b
lacking-minus a b h = same_rights (lacking a b) (minus a b) (λ n.
    has-lacking a b n
    ∙ (both (has a n) (has all_rights n) (has b n) (HasAll-all_rights a h n)
    ∙ (ap (λ x. has a n && x) (sym (has-lacking all_rights b n)) ∙ sym (has-bit_and a (lacking all_rights b) n))))
  where
    both : (x y z : Bool) → (x ≡ true → y ≡ true) → (x && not z) ≡ (x && (y && not z))
    both true y z g = rw (g refl) refl
    both false y z g = refl
