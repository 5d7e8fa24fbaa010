-- What can matter of the lists so far is there in order, and the lists to come are as they were.
use Rattle.hk_report.proofs.Ordered.{AreOrderedBelow}
use Rattle.hk_report.proofs.runs.rearrange_all.Given as goal

abbrev pub invariant-loop-index : goal.invariant-loop-index
invariant-loop-index l = AreOrderedBelow l.firsts l.initial.histories.items l.histories.items l.index
