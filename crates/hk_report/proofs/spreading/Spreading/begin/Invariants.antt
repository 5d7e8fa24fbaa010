-- What is kept so far are ways.
use Rattle.hk_report.specs.Hops.{is_made}
use Rattle.hk_report.specs.Fronts.{AreSound}
use Rattle.hk_report.proofs.spreading.Spreading.begin.Given as goal

abbrev pub invariant-loop-arg : goal.invariant-loop-arg
invariant-loop-arg l =
    AreSound (is_made l.ground.families.now l.ground.begun l.ground.histories.now) l.ground.histories.now l.ground.begun.moment l.params l.self.ways.items
