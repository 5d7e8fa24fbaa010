-- The lists so far have their blocks.
use Rattle.hk_report.proofs.BlockLemmas.{AreBlockedBelow}
use Rattle.hk_report.proofs.blocks.all_blocks.Given as goal

abbrev pub invariant-loop-index : goal.invariant-loop-index
invariant-loop-index l = AreBlockedBelow l.histories l.runs l.all.items l.index
