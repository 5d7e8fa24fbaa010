-- What is kept so far are ways.
use Rattle.std.proofs.Common.{◌≡◌}
use Rattle.hk_report.specs.Histories.{history_of}
use Rattle.hk_report.specs.Hops.{is_made}
use Rattle.hk_report.specs.Fronts.{AreSound}
use Rattle.hk_report.proofs.spreading.Spreading.go_over_all.Given as goal

abbrev pub invariant-loop-hop : goal.invariant-loop-hop
invariant-loop-hop l =
    (l.spans ≡ (history_of l.ground.histories.now l.way.to.name).spans)
    × AreSound (is_made l.ground.families.now l.ground.begun l.ground.histories.now) l.ground.histories.now l.ground.begun.moment l.params l.self.ways.items
