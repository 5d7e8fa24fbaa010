-- The spans so far are cut.
use Rattle.hk_report.proofs.RunLemmas.{Cutting}
use Rattle.hk_report.proofs.runs.ends_of.Given as goal

abbrev pub invariant-loop-place : goal.invariant-loop-place
invariant-loop-place l = Cutting l.spans l.ends l.place
