use Rattle.hk_bound.proofs.Filling.{fills_none, fills_then}
use Rattle.hk_bound.proofs.closing.pass_on.Goals as goal

pub loop-other-init : goal.loop-other-init
loop-other-init c = fills_none c.args.world.now c.args.forms.now c.args.rows.now c.args.grown.now.items c.requires.filling

pub loop-other-preserved : goal.loop-other-preserved
loop-other-preserved c =
    fills_then c.args.world.now c.args.forms.now c.args.rows.now c.loop-other.rows c.pass_cells.new.rows c.args.grown.now.items c.loop-other.grown.items
    c.pass_cells.new.grown.items
    c.loop-other.invariant (c.in_ok-pass_cells.ensures {u = tt})
