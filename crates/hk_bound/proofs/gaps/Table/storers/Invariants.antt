use Rattle.hk_bound.proofs.Copies.{Storers}
use Rattle.hk_bound.proofs.gaps.Table.storers.Given as goal

abbrev pub invariant-loop-process : goal.invariant-loop-process
invariant-loop-process l = Storers l.self.world.now l.self.rows.now l.name l.process l.processes.items
