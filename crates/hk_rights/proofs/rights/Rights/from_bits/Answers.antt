use Rattle.std.proofs.Common.{◌≡◌, ℕ, ap, ◌∙◌, sym, refl, bit_and}
use Rattle.std.proofs.lemmas.Bool.{false≢true}
use Rattle.hk_rights.specs.Rights.{word_table, IsRightsWord}
use Rattle.bitflags.specs.Sets.{known_bits}
use Rattle.hk_rights.proofs.Table.{known-all_rights}
use Rattle.hk_rights.proofs.rights.Rights.from_bits.Goals as goal

known : (a : ℕ) → bit_and a (known_bits word_table) ≡ a → IsRightsWord a
known a h = ap (bit_and a) (sym known-all_rights) ∙ h

knows : (a : ℕ) → IsRightsWord a → bit_and a (known_bits word_table) ≡ a
knows a h = ap (bit_and a) known-all_rights ∙ h

pub invariant_of-result : goal.invariant_of-result
invariant_of-result c = rw (c.in-Some.ensures.value tt) (known c.args.bits ((c.in-Some.ensures.known tt).0 refl))

pub returns-in-None-clause-known : goal.returns-in-None-clause-known
returns-in-None-clause-known c = ((λ e. absurd (false≢true e)), (λ h. (c.in-None.ensures.known tt).1 (knows c.args.bits h)))

pub returns-in-Some-clause-known : goal.returns-in-Some-clause-known
returns-in-Some-clause-known c = ((λ _. known c.args.bits ((c.in-Some.ensures.known tt).0 refl)), (λ _. refl))
