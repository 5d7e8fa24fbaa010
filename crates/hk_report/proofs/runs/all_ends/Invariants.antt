-- The lists so far are cut.
use Rattle.hk_report.proofs.Rearranged.{AreCutBelow}
use Rattle.hk_report.proofs.runs.all_ends.Given as goal

abbrev pub invariant-loop-history : goal.invariant-loop-history
invariant-loop-history l = AreCutBelow l.histories l.all.items l.history-index
