use Rattle.std.proofs.Common.{length, ap, arith}
use Rattle.hk_bound.proofs.Filling.{left_falls}
use Rattle.hk_bound.proofs.closing.take_up_all.Goals as goal

pub cells-smaller : goal.cells-smaller
cells-smaller c =
    let w = c.args.world.now in
    let forms = c.args.forms.now in
    let start = c.before_last-start.ensures in
    let same = ap length c.deref.ensures.value in
    let items = ap length c.in_ok-cells.ensures.items in
    let len = c.in_ok-cells.ensures.len in
    let before = c.cells.grown.ok in
    let after = c.split_off.new.self.ok in
    left_falls w forms c.cells.rows c.take_up_cells.new.rows c.cells.grown.items c.split_off.new.self.items c.take_up_cells.new.grown.items
    (omega (arith, start, same, items, len, before, after))
    (c.in_ok-take_up_cells.ensures {u = tt}).filled
