use Rattle.std.proofs.Common.{◌∙◌, ℕ, Option, refl, ap, sym}
use Rattle.hk_bound.specs.Columns.{covers}
use Rattle.hk_bound.specs.Filled.{Had, Got}
use Rattle.hk_bound.proofs.closing.fill.Goals as goal

pub returns-then-covers : goal.returns-then-covers
returns-then-covers c = Had (ap (λ (o : Option ℕ). covers o c.args.gap.now.rights) (sym c.get.ensures) ∙ (sym c.covers.ensures.value ∙ c.if-covers.true)) refl refl

pub returns : goal.returns
returns c =
    Got (ap (λ (o : Option ℕ). covers o c.args.gap.now.rights) (sym c.get.ensures) ∙ (sym c.covers.ensures.value ∙ c.if-covers.false)) c.united-rights.result c.join.ensures.word
    c.join.ensures.value (c.in_ok-push.ensures {u = tt}).items
