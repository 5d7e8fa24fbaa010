use Rattle.std.proofs.Common.{◌≡◌, ℕ, ap, ◌∙◌}
use Rattle.bitflags.specs.Sets.{without}
use Rattle.hk_rights.specs.Rights.{has, minus, IsRightsWord}
use Rattle.hk_rights.proofs.Sets.{lacking, has-lacking, without-lacking}
use Rattle.hk_rights.proofs.Words.{IsRightsWord-lacking, IsRightsWord-fits, lacking-minus}
use Rattle.hk_rights.proofs.rights.Rights.without.Goals as goal

left : (a b result : ℕ) → IsRightsWord a → IsRightsWord b → result ≡ without 32 a b → result ≡ lacking a b
left a b result h g e = e ∙ without-lacking a b (IsRightsWord-fits a h) (IsRightsWord-fits b g)

kept : (a b result : ℕ) → IsRightsWord a → IsRightsWord b → result ≡ without 32 a b → result ≡ minus a b
kept a b result h g e = left a b result h g e ∙ lacking-minus a b h

pub invariant_of-result : goal.invariant_of-result
invariant_of-result c =
    rw (left c.self.inside.word.0 c.other.inside.word.0 c.difference.result.0 c.self.invariant c.other.invariant (c.difference.ensures tt))
    (IsRightsWord-lacking c.self.inside.word.0 c.other.inside.word.0 c.self.invariant)

pub returns-clause-word : goal.returns-clause-word
returns-clause-word c =
    rw (← c.self.view_is, ← c.other.view_is) (kept c.self.inside.word.0 c.other.inside.word.0 c.difference.result.0 c.self.invariant c.other.invariant (c.difference.ensures tt))

pub returns-clause-members : goal.returns-clause-members
returns-clause-members c =
    rw (← c.self.view_is, ← c.other.view_is) (λ n.
    ap (λ w. has w n) (left c.self.inside.word.0 c.other.inside.word.0 c.difference.result.0 c.self.invariant c.other.invariant (c.difference.ensures tt))
    ∙ has-lacking c.self.inside.word.0 c.other.inside.word.0 n)
