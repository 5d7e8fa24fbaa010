use Rattle.hk_bound.specs.Rules.{OwnRule}
use Rattle.hk_bound.proofs.FindsLemmas.{finds_number}
use Rattle.hk_bound.proofs.closing.all_own_gaps.Goals as goal

pub loop-process-preserved : goal.loop-process-preserved
loop-process-preserved c =
    let w = c.args.table.now.world.now in
    let forms = c.args.table.now.forms.now in
    let rows = c.args.table.now.rows.now in
    finds_number w forms rows (OwnRule w forms rows) c.loop-process.process c.args.gaps.now.items c.loop-process.gaps.items c.own_gaps.new.gaps.items
    c.loop-process.invariant (c.in_ok-own_gaps.ensures {u = tt})
