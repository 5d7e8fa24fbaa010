-- The objects to come are left.
use Rattle.std.proofs.Common.{◌≡◌}
use Rattle.std.specs.Prelude.{None}
use Rattle.std.specs.BTreeMap.{keys}
use Rattle.hk_report.specs.Histories.{history_of}
use Rattle.hk_report.specs.Hops.{is_made, bounds_at}
use Rattle.hk_report.proofs.ByObjects.{over_objects}
use Rattle.hk_report.proofs.hops.Ground.first_behind.Given as goal

abbrev pub invariant-loop-name : goal.invariant-loop-name
invariant-loop-name l =
    let made = is_made l.self.families.now l.self.begun l.self.histories.now in
    let spans = (history_of l.self.histories.now l.from.name).spans in
    over_objects made (bounds_at l.bounds) l.from spans l.first l.name-iterator ≡ over_objects made (bounds_at l.bounds) l.from spans None (keys l.bounds.latest)
