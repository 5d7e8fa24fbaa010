use Rattle.std.proofs.Common.{ap, ◌∙◌}
use Rattle.hk_rights.specs.Rights.{has}
use Rattle.hk_rights.proofs.Sets.{has-bit_or}
use Rattle.hk_rights.proofs.Words.{IsRightsWord-bit_or}
use Rattle.hk_rights.proofs.rights.Rights.union.Goals as goal

pub invariant_of-result : goal.invariant_of-result
invariant_of-result c = rw (c.union.ensures tt) (IsRightsWord-bit_or c.self.inside.word.0 c.other.inside.word.0 c.self.invariant c.other.invariant)

pub returns-clause-members : goal.returns-clause-members
returns-clause-members c = rw (← c.self.view_is, ← c.other.view_is) (λ n. ap (λ w. has w n) (c.union.ensures tt) ∙ has-bit_or c.self.inside.word.0 c.other.inside.word.0 n)
