use Rattle.hk_report.specs.Hops.{is_made, next_latest, latest_end, bounds_at}
use Rattle.hk_report.specs.Reachable.{moment_at}
use Rattle.hk_report.proofs.Agreeing.{if_ok, agree_live, agree_next, agree_through}
use Rattle.hk_report.proofs.hops.Ground.bounds_of_two.Goals as goal

pub returns : goal.returns
returns c =
    let s = c.args.self.now in
    let histories = s.histories.now in
    let made = is_made s.families.now s.begun histories in
    let lasts = moment_at s.lasts.now in
    let k = s.begun.moment in
    let near = bounds_at c.in_ok-near.near in
    let one = next_latest made histories (latest_end c.args.name c.args.before) in
    let agree_near = agree_live lasts k histories s.closed near one c.in_ok-near.ensures in
    if_ok c.bounds_behind.result c.bounds_behind.ensures
    (λ next h.
    agree_through lasts k histories s.closed (bounds_at next) (next_latest made histories near) (next_latest made histories one)
    (agree_live lasts k histories s.closed (bounds_at next) (next_latest made histories near) h) (agree_next lasts k histories s.closed made near one agree_near))
