use Rattle.std.proofs.Common.{◌≡◌}
use Rattle.std.specs.Prelude.{drop}
use Rattle.hk_report.specs.Hops.{is_made, latest_at}
use Rattle.hk_report.specs.Searches.{first_start}
use Rattle.hk_report.proofs.searching.Search.first_start.Given as goal

-- from none so far the rest can be made
abbrev pub invariant-loop-index : goal.invariant-loop-index
invariant-loop-index l =
    first_start (is_made l.self.ground.families.now l.self.ground.begun l.self.ground.histories.now) l.self.ground.histories.now l.self.ground.begun.moment
    (latest_at (is_made l.self.ground.families.now l.self.ground.begun l.self.ground.histories.now) l.self.ground.histories.now l.level) l.index (drop l.index l.self.params.now)
    ≡ first_start (is_made l.self.ground.families.now l.self.ground.begun l.self.ground.histories.now) l.self.ground.histories.now l.self.ground.begun.moment (latest_at (is_made l.self.ground.families.now l.self.ground.begun l.self.ground.histories.now) l.self.ground.histories.now l.level) 0
    l.self.params.now
