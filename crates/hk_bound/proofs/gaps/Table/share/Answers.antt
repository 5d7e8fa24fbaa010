use Rattle.std.proofs.Common.{◌∙◌, ℕ, subst, sym}
use Rattle.hk_bound.specs.Rules.{Passes}
use Rattle.hk_bound.proofs.Sources.{made_passes}
use Rattle.hk_bound.proofs.gaps.Table.share.Goals as goal

pub widen-requires-clause-passes : goal.widen-requires-clause-passes
widen-requires-clause-passes c =
    let w = c.args.self.now.world.now in
    let forms = c.args.self.now.forms.now in
    let rows = c.args.self.now.rows.now in
    subst (λ (by : ℕ). Passes w forms c.args.process c.args.other by) (sym c.all.ensures.word)
    (made_passes w forms rows c.requires.known.follow c.args.process c.args.other c.requires.process c.requires.other (sym c.share_made.ensures ∙ c.if-not-share_made.false))
