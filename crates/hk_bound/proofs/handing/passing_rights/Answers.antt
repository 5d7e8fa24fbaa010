use Rattle.std.proofs.Common.{◌≡◌, ◌∙◌, Bool, true, false, refl, ap, ◌&&◌}
use Rattle.std.proofs.lemmas.Bool.{false≢true}
use Rattle.hk_rights.specs.Rights.{has, unconf_right, env_right}
use Rattle.hk_bound.proofs.handing.passing_rights.Goals as goal

both_is : (x y : Bool) → y ≡ true → (x && y) ≡ x
both_is true true h = refl
both_is false y h = refl
both_is true false h = absurd (false≢true h)

pub returns-clause-unconf : goal.returns-clause-unconf
returns-clause-unconf c =
    c.intersection.ensures.members unconf_right
    ∙ both_is (has c.args.by unconf_right) (has c.union.result unconf_right) (ap (λ m. has m unconf_right) c.union.ensures.word)

pub returns-clause-env : goal.returns-clause-env
returns-clause-env c =
    c.intersection.ensures.members env_right ∙ both_is (has c.args.by env_right) (has c.union.result env_right) (ap (λ m. has m env_right) c.union.ensures.word)
