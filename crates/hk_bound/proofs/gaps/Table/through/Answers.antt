use Rattle.std.proofs.Common.{ℕ, subst, sym, ◌∙◌}
use Rattle.hk_bound.specs.Rules.{Passes}
use Rattle.hk_bound.proofs.Sources.{made_passes}
use Rattle.hk_bound.proofs.gaps.Table.through.Goals as goal

pub returns-then-share_made-clause-passes : goal.returns-then-share_made-clause-passes
returns-then-share_made-clause-passes c =
    let w = c.args.self.now.world.now in
    let forms = c.args.self.now.forms.now in
    let rows = c.args.self.now.rows.now in
    subst (λ (by : ℕ). Passes w forms c.args.process c.args.other by) (sym c.all.ensures.word)
    (made_passes w forms rows c.requires.known.follow c.args.process c.args.other c.requires.process c.requires.other (sym c.share_made.ensures ∙ c.if-share_made.true))
