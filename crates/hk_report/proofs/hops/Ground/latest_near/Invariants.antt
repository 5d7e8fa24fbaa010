-- The runs to come are left.
use Rattle.std.proofs.Common.{◌≡◌}
use Rattle.std.specs.Prelude.{drop}
use Rattle.hk_report.specs.Hops.{no_latest}
use Rattle.hk_report.proofs.HeldIn.{joined_all}
use Rattle.hk_report.proofs.hops.Ground.latest_near.Given as goal

abbrev pub invariant-loop-held : goal.invariant-loop-held
invariant-loop-held l =
    joined_all l.self.histories.now l.latest l.made l.all (drop l.held-index l.held-items) ≡ joined_all l.self.histories.now l.latest l.made no_latest l.held-items
