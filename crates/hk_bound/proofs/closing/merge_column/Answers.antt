use Rattle.std.proofs.Common.{subst, sym}
use Rattle.hk_bound.specs.Columns.{AreGaps}
use Rattle.hk_bound.proofs.Filling.{no_gaps}
use Rattle.hk_bound.proofs.closing.merge_column.Goals as goal

pub fill_all-requires-clause-gaps : goal.fill_all-requires-clause-gaps
fill_all-requires-clause-gaps c =
    let w = c.args.world.now in
    let forms = c.args.forms.now in
    let rows = c.args.rows.now in
    subst (AreGaps w forms rows) (sym c.deref.ensures.value)
    (c.in_ok-merge_column.ensures {u = tt} (no_gaps w forms rows c.new-gaps.result.items c.new-gaps.ensures.items))
