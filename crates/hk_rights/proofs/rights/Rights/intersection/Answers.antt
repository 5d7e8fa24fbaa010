use Rattle.std.proofs.Common.{ap, ◌∙◌}
use Rattle.hk_rights.specs.Rights.{has}
use Rattle.hk_rights.proofs.Sets.{has-bit_and}
use Rattle.hk_rights.proofs.Words.{IsRightsWord-bit_and}
use Rattle.hk_rights.proofs.rights.Rights.intersection.Goals as goal

pub invariant_of-result : goal.invariant_of-result
invariant_of-result c = rw (c.intersection.ensures tt) (IsRightsWord-bit_and c.self.inside.word.0 c.other.inside.word.0 c.self.invariant)

pub returns-clause-members : goal.returns-clause-members
returns-clause-members c = rw (← c.self.view_is, ← c.other.view_is) (λ n. ap (λ w. has w n) (c.intersection.ensures tt) ∙ has-bit_and c.self.inside.word.0 c.other.inside.word.0 n)
