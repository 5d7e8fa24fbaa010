-- The runs to come are left, and what waits to be raised.
use Rattle.std.proofs.Common.{◌≡◌}
use Rattle.std.specs.Prelude.{drop, filter}
use Rattle.hk_report.specs.declared.holders.Stretch.{Stretch}
use Rattle.hk_report.specs.Hops.{bounds_at}
use Rattle.hk_report.specs.Holders.{raised_at, raised_over}
use Rattle.hk_report.specs.Reachable.{moment_at, can_come}
use Rattle.hk_report.proofs.hops.Ground.raise_each.Given as goal

abbrev pub invariant-loop-held : goal.invariant-loop-held
invariant-loop-held l =
    raised_over l.self.histories.now l.latest l.made (raised_at (bounds_at l.next) l.waiting.name l.waiting.latest)
    (filter (λ (s : Stretch). can_come (moment_at l.self.lasts.now) l.self.begun.moment s.by) (drop l.held-index l.runs))
    ≡ raised_over l.self.histories.now l.latest l.made (raised_at (bounds_at l.initial.next) l.initial.waiting.name l.initial.waiting.latest)
    (filter (λ (s : Stretch). can_come (moment_at l.self.lasts.now) l.self.begun.moment s.by) l.runs)
