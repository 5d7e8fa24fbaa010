use Rattle.std.proofs.Common.{◌∙◌, [], refl, subst, sym}
use Rattle.hk_bound.specs.Columns.{AreGaps}
use Rattle.hk_bound.proofs.Filling.{no_gaps}
use Rattle.hk_bound.proofs.Ways.{way_runs}
use Rattle.hk_bound.proofs.closing.pass_cells.Goals as goal

pub take_grown-requires-clause-process : goal.take_grown-requires-clause-process
take_grown-requires-clause-process c =
    way_runs c.args.world.now c.args.forms.now c.args.ways.now.known c.args.other c.args.process c.in-Some.by c.requires.ways (sym c.get.ensures ∙ c.in-Some.is)

pub take_grown-requires-clause-passes : goal.take_grown-requires-clause-passes
take_grown-requires-clause-passes c = c.requires.ways.passes c.args.other c.args.process c.in-Some.by (sym c.get.ensures ∙ c.in-Some.is)

pub fill_all-requires-clause-gaps : goal.fill_all-requires-clause-gaps
fill_all-requires-clause-gaps c =
    let w = c.args.world.now in
    let forms = c.args.forms.now in
    let rows = c.args.rows.now in
    subst (AreGaps w forms rows) (sym c.deref.ensures.value) (c.loop-column.invariant (no_gaps w forms rows [] refl))

pub loop-column-preserved : goal.loop-column-preserved
loop-column-preserved c h = c.in_ok-take_grown.ensures {u = tt} (c.loop-column.invariant h)
