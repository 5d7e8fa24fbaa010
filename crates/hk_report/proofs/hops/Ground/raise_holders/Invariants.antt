-- The runs to come are left, with their blocks, and what waits to be raised.
use Rattle.std.proofs.Common.{◌≡◌}
use Rattle.std.specs.Prelude.{drop, filter}
use Rattle.hk_report.specs.declared.holders.Stretch.{Stretch}
use Rattle.hk_report.specs.Hops.{bounds_at}
use Rattle.hk_report.specs.Holders.{live_at, raised_at, raised_over}
use Rattle.hk_report.specs.HeldBlocks.{AreHeldBlocks}
use Rattle.hk_report.specs.Reachable.{moment_at, can_come}
use Rattle.hk_report.proofs.HeldBlockLemmas.{AreAlone}
use Rattle.hk_report.proofs.hops.Ground.raise_holders.Given as goal

abbrev pub invariant-loop-block : goal.invariant-loop-block
invariant-loop-block l = record {
  alone : AreAlone l.self.histories.now l.rest;
  ahead : AreHeldBlocks (moment_at l.self.lasts.now) l.rest (drop l.block-index l.block-items);
  left : raised_over l.self.histories.now l.latest l.made (raised_at (bounds_at l.next) l.waiting.name l.waiting.latest)
      (filter (λ (s : Stretch). can_come (moment_at l.self.lasts.now) l.self.begun.moment s.by) l.rest)
      ≡ raised_over l.self.histories.now l.latest l.made (bounds_at l.initial.next)
      (live_at (can_come (moment_at l.self.lasts.now) l.self.begun.moment) l.self.holders.now l.fn.name);
}
