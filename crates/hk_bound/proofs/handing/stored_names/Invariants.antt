use Rattle.hk_bound.proofs.Ways.{Storing}
use Rattle.hk_bound.proofs.handing.stored_names.Given as goal

abbrev pub invariant-loop-name : goal.invariant-loop-name
invariant-loop-name l = Storing l.table.world.now l.table.rows.now l.process l.name l.names.items
