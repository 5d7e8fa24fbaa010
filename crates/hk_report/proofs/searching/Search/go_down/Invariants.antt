-- The hops so far and those from here on are those from the first place, and the call can be here.
use Rattle.std.proofs.Common.{◌≡◌, ◌≤◌, ◌++◌, length}
use Rattle.hk_report.specs.Hops.{is_made}
use Rattle.hk_report.specs.Reachable.{moment_at, comes_at, IsBy}
use Rattle.hk_report.specs.Searches.{hops_down}
use Rattle.hk_report.proofs.SearchLemmas.{Going}
use Rattle.hk_report.proofs.searching.Search.go_down.Given as goal

abbrev pub invariant-loop-left : goal.invariant-loop-left
invariant-loop-left l = Going (l.left ≤ length l.levels) (IsBy (comes_at (moment_at l.self.ground.lasts.now) l.self.ground.begun.moment l.at.name) l.at.moment)
    (l.hops ++ hops_down (is_made l.self.ground.families.now l.self.ground.begun l.self.ground.histories.now) l.self.ground.histories.now l.self.wanted l.self.before l.left l.at
    ≡ l.initial.hops
    ++ hops_down (is_made l.self.ground.families.now l.self.ground.begun l.self.ground.histories.now) l.self.ground.histories.now l.self.wanted l.self.before (length l.levels)
    l.fn.from)

abbrev pub decreases-loop-left : goal.decreases-loop-left
decreases-loop-left l = l.left
