use Rattle.std.proofs.Common.{◌∙◌, subst, sym}
use Rattle.std.proofs.lemmas.Bool.{true≢false}
use Rattle.hk_rights.specs.Rights.{HasAll}
use Rattle.hk_bound.proofs.Merges.{idle_unasked, idle_given}
use Rattle.hk_bound.proofs.merging.is_idle.Goals as goal

pub returns-then-not-has_rights : goal.returns-then-not-has_rights
returns-then-not-has_rights c is form asks gives =
    idle_unasked c.args.by c.args.check form c.has_rights.ensures.word
    (λ every. absurd (true≢false (sym (c.has_rights.ensures.value.1 every) ∙ c.if-not-has_rights.true))) asks

pub returns : goal.returns
returns c is form asks gives =
    idle_given c.args.by c.args.give form (subst (HasAll c.args.by) c.without.ensures.word (c.has_rights-2.ensures.value.0 is)) gives
