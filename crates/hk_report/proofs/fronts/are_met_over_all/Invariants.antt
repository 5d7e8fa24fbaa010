-- What is so of the spans from this place on is so of all.
use Rattle.std.specs.Prelude.{drop}
use Rattle.hk_report.specs.Hops.{is_made}
use Rattle.hk_report.specs.Fronts.{AreMetOverAll}
use Rattle.hk_report.proofs.fronts.are_met_over_all.Given as goal

abbrev pub invariant-loop-span : goal.invariant-loop-span
invariant-loop-span l =
    AreMetOverAll l.all (is_made l.ground.families.now l.ground.begun l.ground.histories.now) l.ways (drop l.span-index l.spans)
    → AreMetOverAll l.all (is_made l.ground.families.now l.ground.begun l.ground.histories.now) l.ways l.spans
