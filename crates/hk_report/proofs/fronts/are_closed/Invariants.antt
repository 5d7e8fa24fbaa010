-- So it is with the lists so far.
use Rattle.hk_report.specs.Hops.{is_made}
use Rattle.hk_report.proofs.WayLemmas.{AreClosedBelow}
use Rattle.hk_report.proofs.fronts.are_closed.Given as goal

abbrev pub invariant-loop-index : goal.invariant-loop-index
invariant-loop-index l = AreClosedBelow l.all (is_made l.ground.families.now l.ground.begun l.ground.histories.now) l.ground.histories.now l.index
