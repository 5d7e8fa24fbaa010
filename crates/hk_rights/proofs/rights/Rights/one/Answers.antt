use Rattle.std.proofs.Common.{◌≡◌, ◌*◌, ◌%◌, ◌^◌, ◌<◌, ℕ, refl, ap, ◌∙◌, sym, IsTrue, arith}
use Rattle.std.proofs.lemmas.Bool.Decides.{Decides-eqb}
use Rattle.std.proofs.lemmas.Nat.{pow_below}
use Rattle.std.proofs.Math.Nat.{mod-eq_of_lt}
use Rattle.hk_rights.specs.Rights.{has, is_right, IsRightsWord}
use Rattle.hk_rights.proofs.Sets.{has-pow}
use Rattle.hk_rights.proofs.Words.{IsRightsWord-from_HasAll}
use Rattle.hk_rights.proofs.Table.{has-all_rights}
use Rattle.hk_rights.proofs.rights.Rights.one.Goals as goal

-- a right's word of one bit, as it is shifted there
shifted : (made number right : ℕ) → made ≡ 1 * 2 ^ number % 2 ^ 32 → number < 24 → number ≡ right → made ≡ 2 ^ right
shifted made number right e low same =
    let below : number < 32 = omega (arith, low) in
    let fits : 2 ^ number < 2 ^ 32 = pow_below number 32 below in
    let bit : 1 * 2 ^ number ≡ 2 ^ number = omega arith in
    e ∙ (rw bit (mod-eq_of_lt fits)) ∙ ap (λ k. 2 ^ k) same

known : (right : ℕ) → IsTrue (is_right right) → IsRightsWord (2 ^ right)
known right h = IsRightsWord-from_HasAll (2 ^ right) (λ n there.
    let same : n ≡ right = (Decides-eqb n right).0 (sym (has-pow right n) ∙ there) in
    has-all_rights n ∙ (ap (λ k. is_right k) same ∙ h))

pub invariant_of-result : goal.invariant_of-result
invariant_of-result c =
    rw (shifted c.from_bits_retain.result.0 c.number.result c.number.result (c.from_bits_retain.ensures tt) c.number.ensures.small refl)
    (known c.number.result c.number.ensures.known)

pub returns-clause-members : goal.returns-clause-members
returns-clause-members c = λ n.
    ap (λ w. has w n) (shifted c.from_bits_retain.result.0 c.number.result c.args.right (c.from_bits_retain.ensures tt) c.number.ensures.small c.number.ensures.same)
    ∙ has-pow c.args.right n
