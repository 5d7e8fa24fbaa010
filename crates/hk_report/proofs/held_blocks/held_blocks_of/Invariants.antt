-- The blocks so far, and those of the runs to come.
use Rattle.std.specs.Prelude.{length}
use Rattle.hk_report.specs.Reachable.{moment_at}
use Rattle.hk_report.proofs.HeldBlockLemmas.{HeldBlocking}
use Rattle.hk_report.proofs.held_blocks.held_blocks_of.Given as goal

abbrev pub invariant-loop-rest : goal.invariant-loop-rest
invariant-loop-rest l = HeldBlocking (moment_at l.lasts) l.held l.all l.rest

abbrev pub decreases-loop-rest : goal.decreases-loop-rest
decreases-loop-rest l = length l.rest
