use Rattle.std.proofs.Common.{◌≡◌, ℕ, suc, ◌+◌, List, sym, ◌∙◌, ap, arith, subst}
use Rattle.hk_model.specs.declared.reaches.Hop.{Hop}
use Rattle.hk_model.specs.declared.reaches.Reach.TheVariants.{Param}
use Rattle.hk_report.specs.Hops.{is_made, next_latest, latest_at}
use Rattle.hk_report.specs.Reachable.{moment_at, comes_at, Agree}
use Rattle.hk_report.specs.Searches.{level_at}
use Rattle.hk_report.proofs.Agreeing.{comes_closed, comes_thin, held_comes, agree_next, agree_through}
use Rattle.hk_report.proofs.SearchLemmas.{as_many, found_is, levels_more, none_fewer, started, started_there}
use Rattle.hk_report.proofs.searching.Search.least_behind.Goals as goal

pub go_down-requires-clause-levels : goal.go_down-requires-clause-levels
go_down-requires-clause-levels c =
    let s = c.args.self.now in
    let ground = s.ground in
    let made = is_made ground.families.now ground.begun ground.histories.now in
    rw c.as_slice.ensures.value
    (as_many (comes_at (moment_at ground.lasts.now) ground.begun.moment) made ground.histories.now s.wanted s.before c.loop.levels.items c.loop.counter c.loop.invariant.all)

pub go_down-requires-clause-there : goal.go_down-requires-clause-there
go_down-requires-clause-there c =
    let s = c.args.self.now in
    let ground = s.ground in
    let histories = ground.histories.now in
    let made = is_made ground.families.now ground.begun histories in
    let lasts = moment_at ground.lasts.now in
    let k = ground.begun.moment in
    started_there (comes_at lasts k) made histories s.wanted s.before (comes_thin lasts k histories ground.closed) (comes_closed lasts k histories ground.closed) k s.params.now
    (latest_at made histories c.loop.level) c.in-Some.start (held_comes lasts k s.params.now c.requires.held) (sym c.first_start.ensures ∙ c.in-Some.is)

pub returns-in-Some : goal.returns-in-Some
returns-in-Some c =
    let s = c.args.self.now in
    let ground = s.ground in
    let histories = ground.histories.now in
    let made = is_made ground.families.now ground.begun histories in
    let lasts = moment_at ground.lasts.now in
    let k = ground.begun.moment in
    record {
      left = c.loop.counter;
      start = c.in-Some.start;
      starts =
          started (comes_at lasts k) made histories s.wanted s.before (comes_thin lasts k histories ground.closed) (comes_closed lasts k histories ground.closed) k s.params.now
          c.loop.counter (latest_at made histories c.loop.level) c.in-Some.start (held_comes lasts k s.params.now c.requires.held) c.loop.invariant.last
          (sym c.first_start.ensures ∙ c.in-Some.is);
      fewest = c.loop.invariant.fewer;
      is = ap (λ (hops : List Hop). Param c.in-Some.start.arg hops)
          (found_is (comes_at lasts k) made histories s.wanted s.before c.loop.levels.items c.as_slice.result.now c.loop.counter c.in-Some.start.onward.hop
          c.in-Some.start.onward.to c.new-hops.result c.push.new.self c.go_down.new.hops c.loop.invariant.all c.as_slice.ensures.value c.new-hops.ensures c.in_ok-push.ensures.ok
          c.in_ok-go_down.ensures);
    }

-- one level more
pub loop-preserved : goal.loop-preserved
loop-preserved c =
    let s = c.args.self.now in
    let ground = s.ground in
    let histories = ground.histories.now in
    let made = is_made ground.families.now ground.begun histories in
    let lasts = moment_at ground.lasts.now in
    let k = ground.begun.moment in
    let n = c.loop.counter in
    let told = comes_at lasts k in
    let number : suc n ≡ n + 1 = omega arith in
    record {
      last =
          subst (λ (m : ℕ). Agree told (latest_at made histories c.in_ok-next.next) (level_at made histories s.wanted s.before m)) number
          (agree_through lasts k histories ground.closed (latest_at made histories c.in_ok-next.next) (next_latest made histories (latest_at made histories c.loop.level))
          (next_latest made histories (level_at made histories s.wanted s.before n)) c.in_ok-next.ensures
          (agree_next lasts k histories ground.closed made (latest_at made histories c.loop.level) (level_at made histories s.wanted s.before n) c.loop.invariant.last));
      all =
          levels_more told made histories s.wanted s.before c.loop.levels.items c.push-in-loop.new.self.items n c.loop.level c.loop.invariant.all c.loop.invariant.last
          c.in_ok-push-2.ensures.items;
      fewer =
          none_fewer told made histories s.wanted s.before (comes_thin lasts k histories ground.closed) (comes_closed lasts k histories ground.closed) k s.params.now n
          (latest_at made histories c.loop.level) (held_comes lasts k s.params.now c.requires.held) c.loop.invariant.last (sym c.first_start.ensures ∙ c.in_default.is)
          c.loop.invariant.fewer;
    }
