use Rattle.hk_bound.proofs.Filling.{fills_none, fills_then}
use Rattle.hk_bound.proofs.closing.merge_columns.Goals as goal

pub loop-column-init : goal.loop-column-init
loop-column-init c = fills_none c.args.world.now c.args.forms.now c.args.rows.now c.args.grown.now.items c.requires.filling

pub loop-column-preserved : goal.loop-column-preserved
loop-column-preserved c =
    fills_then c.args.world.now c.args.forms.now c.args.rows.now c.loop-column.rows c.merge_column.new.rows c.args.grown.now.items c.loop-column.grown.items
    c.merge_column.new.grown.items
    c.loop-column.invariant (c.in_ok-merge_column.ensures {u = tt})
