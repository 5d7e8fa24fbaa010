-- The blocks so far, and those of the runs to come.
use Rattle.std.specs.Prelude.{length}
use Rattle.hk_report.proofs.BlockLemmas.{Blocking}
use Rattle.hk_report.proofs.blocks.blocks_of.Given as goal

abbrev pub invariant-loop-rest : goal.invariant-loop-rest
invariant-loop-rest l = Blocking l.spans l.ends l.all l.start l.rest

abbrev pub decreases-loop-rest : goal.decreases-loop-rest
decreases-loop-rest l = length l.rest
