use Rattle.hk_bound.specs.Rules.{MadeRule}
use Rattle.hk_bound.proofs.FindsLemmas.{finds_number}
use Rattle.hk_bound.proofs.gaps.Table.made_gaps.Goals as goal

pub loop-maker-preserved : goal.loop-maker-preserved
loop-maker-preserved c =
    let w = c.args.self.now.world.now in
    let forms = c.args.self.now.forms.now in
    let rows = c.args.self.now.rows.now in
    finds_number w forms rows (MadeRule w rows c.args.process) c.loop-maker.maker c.args.gaps.now.items c.loop-maker.gaps.items c.made_gap.new.gaps.items
    c.loop-maker.invariant (c.in_ok-made_gap.ensures {u = tt})
