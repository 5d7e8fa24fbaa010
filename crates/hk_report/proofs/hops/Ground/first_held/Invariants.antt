-- The runs to come are left.
use Rattle.std.proofs.Common.{◌≡◌}
use Rattle.std.specs.Prelude.{drop}
use Rattle.hk_report.specs.Hops.{is_made, alone, latest_at}
use Rattle.hk_report.proofs.HeldIn.{over_runs}
use Rattle.hk_report.proofs.hops.Ground.first_held.Given as goal

abbrev pub invariant-loop-held : goal.invariant-loop-held
invariant-loop-held l =
    let made = is_made l.self.families.now l.self.begun l.self.histories.now in
    let level = alone l.fn.object (latest_at made l.self.histories.now l.level l.fn.object) in
    over_runs made level l.from l.self.histories.now l.first (drop l.held-index l.runs) ≡ over_runs made level l.from l.self.histories.now l.initial.first l.runs
