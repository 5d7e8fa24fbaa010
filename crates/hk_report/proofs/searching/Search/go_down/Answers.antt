use Rattle.std.proofs.Common.{◌≡◌, ◌+◌, ◌-◌, length, sym, ◌∙◌, arith}
use Rattle.hk_report.specs.Hops.{is_made}
use Rattle.hk_report.specs.Reachable.{moment_at, comes_at}
use Rattle.hk_report.proofs.Agreeing.{comes_closed, comes_thin}
use Rattle.hk_report.proofs.SearchLemmas.{level_is, goes_some, goes_there, goes_none}
use Rattle.hk_report.proofs.searching.Search.go_down.Goals as goal

-- one hop more, with one level less
pub loop-left-preserved : goal.loop-left-preserved
loop-left-preserved c =
    let s = c.args.self.now in
    let ground = s.ground in
    let histories = ground.histories.now in
    let made = is_made ground.families.now ground.begun histories in
    let lasts = moment_at ground.lasts.now in
    let told = comes_at lasts ground.begun.moment in
    let thin = comes_thin lasts ground.begun.moment histories ground.closed in
    let over = comes_closed lasts ground.begun.moment histories ground.closed in
    let some = c.loop-left-test.true in
    let inside = c.loop-left.invariant.inside in
    let less : c.loop-left.left ≡ c.loop-left.left - 1 + 1 = omega (arith, some) in
    let same =
    level_is told made histories s.wanted s.before c.args.levels.now (length c.args.levels.now) (c.loop-left.left - 1) c.index-levels-left.result c.requires.levels
    (omega (arith, some, inside)) c.index-levels-left.is in
    let found = sym c.first_onward.ensures ∙ c.in-Some.is in
    record {
      inside = omega (arith, inside);
      there = goes_there told made histories s.wanted s.before thin over c.loop-left.at c.in-Some.onward c.index-levels-left.result c.loop-left.invariant.there found;
      leads = rw c.in_ok-push-in-Some.ensures.ok
          (goes_some told made histories s.wanted s.before thin over c.loop-left.left (c.loop-left.left - 1) c.loop-left.at c.in-Some.onward c.index-levels-left.result
          c.loop-left.hops _ less c.loop-left.invariant.there same found c.loop-left.invariant.leads);
    }

-- no hop is left
pub returns-in-None : goal.returns-in-None
returns-in-None c =
    let s = c.args.self.now in
    let ground = s.ground in
    let histories = ground.histories.now in
    let made = is_made ground.families.now ground.begun histories in
    let lasts = moment_at ground.lasts.now in
    let told = comes_at lasts ground.begun.moment in
    let thin = comes_thin lasts ground.begun.moment histories ground.closed in
    let over = comes_closed lasts ground.begun.moment histories ground.closed in
    let some = c.loop-left-test.true in
    let inside = c.loop-left.invariant.inside in
    let less : c.loop-left.left ≡ c.loop-left.left - 1 + 1 = omega (arith, some) in
    let same =
    level_is told made histories s.wanted s.before c.args.levels.now (length c.args.levels.now) (c.loop-left.left - 1) c.index-levels-left.result c.requires.levels
    (omega (arith, some, inside)) c.index-levels-left.is in
    goes_none told made histories s.wanted s.before thin over c.loop-left.left (c.loop-left.left - 1) c.loop-left.at c.index-levels-left.result c.loop-left.hops _ less
    c.loop-left.invariant.there same (sym c.first_onward.ensures ∙ c.in-None.is) c.loop-left.invariant.leads
