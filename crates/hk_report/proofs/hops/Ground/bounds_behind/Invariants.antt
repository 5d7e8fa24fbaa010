-- What is kept for the objects to come is left.
use Rattle.std.proofs.Common.{◌≡◌}
use Rattle.hk_report.specs.Hops.{is_made, bounds_at, no_latest}
use Rattle.hk_report.specs.Holders.{live_at}
use Rattle.hk_report.specs.Reachable.{moment_at, can_come}
use Rattle.hk_report.proofs.Raising.{raised_by}
use Rattle.hk_report.proofs.hops.Ground.bounds_behind.Given as goal

abbrev pub invariant-loop-name : goal.invariant-loop-name
invariant-loop-name l =
    raised_by (is_made l.self.families.now l.self.begun l.self.histories.now) l.self.histories.now (live_at (can_come (moment_at l.self.lasts.now) l.self.begun.moment) l.self.holders.now) (bounds_at l.next) l.name-iterator
    ≡ raised_by (is_made l.self.families.now l.self.begun l.self.histories.now) l.self.histories.now (live_at (can_come (moment_at l.self.lasts.now) l.self.begun.moment) l.self.holders.now) (λ name. no_latest) l.bounds.latest.entries
