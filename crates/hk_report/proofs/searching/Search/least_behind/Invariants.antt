-- The levels so far, none of which has a start.
use Rattle.std.proofs.Common.{◌≡◌, ◌<◌, ℕ, map}
use Rattle.std.specs.Prelude.{None}
use Rattle.hk_report.specs.Hops.{is_made, latest_at}
use Rattle.hk_report.specs.Reachable.{moment_at, comes_at, Agree, AgreeEach}
use Rattle.hk_report.specs.Searches.{first_start, level_at, levels_below}
use Rattle.hk_report.proofs.SearchLemmas.{Seeking}
use Rattle.hk_report.proofs.searching.Search.least_behind.Given as goal

abbrev pub invariant-loop : goal.invariant-loop
invariant-loop l = Seeking
    (Agree (comes_at (moment_at l.self.ground.lasts.now) l.self.ground.begun.moment)
    (latest_at (is_made l.self.ground.families.now l.self.ground.begun l.self.ground.histories.now) l.self.ground.histories.now l.level)
    (level_at (is_made l.self.ground.families.now l.self.ground.begun l.self.ground.histories.now) l.self.ground.histories.now l.self.wanted l.self.before l.counter))
    (AgreeEach (comes_at (moment_at l.self.ground.lasts.now) l.self.ground.begun.moment)
    (map (latest_at (is_made l.self.ground.families.now l.self.ground.begun l.self.ground.histories.now) l.self.ground.histories.now) l.levels.items)
    (levels_below (is_made l.self.ground.families.now l.self.ground.begun l.self.ground.histories.now) l.self.ground.histories.now l.self.wanted l.self.before l.counter))
    ((less : ℕ) → less < l.counter
    → first_start (is_made l.self.ground.families.now l.self.ground.begun l.self.ground.histories.now) l.self.ground.histories.now l.self.ground.begun.moment
    (level_at (is_made l.self.ground.families.now l.self.ground.begun l.self.ground.histories.now) l.self.ground.histories.now l.self.wanted l.self.before less) 0 l.self.params.now
    ≡ None)
