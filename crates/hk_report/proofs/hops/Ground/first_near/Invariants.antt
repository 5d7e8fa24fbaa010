-- The objects to come are left.
use Rattle.std.proofs.Common.{◌≡◌}
use Rattle.std.specs.Prelude.{None, drop}
use Rattle.hk_report.specs.Histories.{history_of}
use Rattle.hk_report.specs.Hops.{is_made, latest_end, next_latest}
use Rattle.hk_report.proofs.ByObjects.{over_objects}
use Rattle.hk_report.proofs.NearObjects.{objects_of}
use Rattle.hk_report.proofs.hops.Ground.first_near.Given as goal

abbrev pub invariant-loop-held : goal.invariant-loop-held
invariant-loop-held l =
    let made = is_made l.self.families.now l.self.begun l.self.histories.now in
    let level = next_latest made l.self.histories.now (latest_end l.fn.end l.fn.before) in
    let spans = (history_of l.self.histories.now l.from.name).spans in
    over_objects made level l.from spans l.first (objects_of l.last (drop l.held-index l.held-items))
    ≡ over_objects made level l.from spans None (objects_of None l.held-items)
