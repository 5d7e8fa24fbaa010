use Rattle.hk_bound.specs.Rules.{CellRule}
use Rattle.hk_bound.proofs.FindsLemmas.{finds_number}
use Rattle.hk_bound.proofs.gaps.Table.take_row.Goals as goal

pub loop-column-preserved : goal.loop-column-preserved
loop-column-preserved c =
    let rows = c.args.self.now.rows.now in
    finds_number c.args.self.now.world.now c.args.self.now.forms.now rows (CellRule rows c.args.process c.args.other c.args.by) c.loop-column.column c.args.gaps.now.items
    c.loop-column.gaps.items c.take_at.new.gaps.items
    c.loop-column.invariant (c.in_ok-take_at.ensures {u = tt})
