use Rattle.hk_bound.specs.Columns.{proc_at}
use Rattle.hk_bound.specs.Listed.{Listing}
use Rattle.hk_bound.proofs.bounding.bound_of.Given as goal

abbrev pub invariant-loop-name : goal.invariant-loop-name
invariant-loop-name l = Listing l.world (proc_at l.process) l.name l.names.items
