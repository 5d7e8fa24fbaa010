use Rattle.std.proofs.Common.{length, refl}
use Rattle.std.proofs.lemmas.Option.{slice_get_read}
use Rattle.hk_bound.proofs.Filling.{fills_none, fills_then}
use Rattle.hk_bound.proofs.closing.take_up_cells.Goals as goal

pub loop-cell-init : goal.loop-cell-init
loop-cell-init c = record {
  filled = fills_none c.args.world.now c.args.forms.now c.args.rows.now c.args.grown.now.items c.requires.filling;
  ways = c.requires.ways;
}

pub loop-cell-preserved : goal.loop-cell-preserved
loop-cell-preserved c = record {
  filled = fills_then c.args.world.now c.args.forms.now c.args.rows.now c.loop-cell.rows c.take_up.new.rows c.args.grown.now.items c.loop-cell.grown.items c.take_up.new.grown.items
      c.loop-cell.invariant.filled (c.in_ok-take_up.ensures {u = tt}).filled;
  ways = (c.in_ok-take_up.ensures {u = tt}).ways;
}

pub take_up-requires-clause-cell : goal.take_up-requires-clause-cell
take_up-requires-clause-cell c =
    c.requires.cells c.loop-cell.cell-index c.cell-item.result
    (slice_get_read c.args.cells.now (length c.args.cells.now) c.loop-cell.cell-index c.cell-item.result refl c.loop-cell-test.true c.cell-item.is)
