use Rattle.std.proofs.Common.{ap, ◌∙◌, refl}
use Rattle.hk_rights.specs.Rights.{has}
use Rattle.hk_rights.proofs.Table.{has-all_rights, known-all_rights}
use Rattle.hk_rights.proofs.rights.Rights.all.Goals as goal

pub invariant_of-result : goal.invariant_of-result
invariant_of-result c = rw (c.all.ensures tt ∙ known-all_rights) refl

pub returns-clause-word : goal.returns-clause-word
returns-clause-word c = c.all.ensures tt ∙ known-all_rights

pub returns-clause-members : goal.returns-clause-members
returns-clause-members c = λ n. ap (λ w. has w n) (c.all.ensures tt ∙ known-all_rights) ∙ has-all_rights n
