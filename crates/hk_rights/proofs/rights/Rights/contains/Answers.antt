use Rattle.std.proofs.Common.{◌≡◌, ◌==◌, ◌↔◌, ℕ, Bool, ◌∙◌, sym, IsTrue, bit_and}
use Rattle.std.proofs.lemmas.Bool.Decides.{Decides-eqb}
use Rattle.hk_rights.specs.Rights.{HasAll}
use Rattle.hk_rights.proofs.Sets.{bit_and-from_HasAll, HasAll-from_bit_and}
use Rattle.hk_rights.proofs.rights.Rights.contains.Goals as goal

all : (a b : ℕ) (result : Bool) → result ≡ (bit_and a b == b) → IsTrue result ↔ HasAll a b
all a b result e =
    let test = Decides-eqb (bit_and a b) b in
    ((λ yes. HasAll-from_bit_and a b (test.0 (sym e ∙ yes))), (λ h. e ∙ test.1 (bit_and-from_HasAll a b h)))

pub returns-clause-members : goal.returns-clause-members
returns-clause-members c = rw (← c.self.view_is, ← c.other.view_is) (all c.self.inside.word.0 c.other.inside.word.0 c.contains.result (c.contains.ensures tt))
