use Rattle.std.proofs.Common.{List, sym, ◌∙◌, ap}
use Rattle.hk_model.specs.declared.names.Name.{Name}
use Rattle.hk_report.specs.declared.hops.Latest.{Latest}
use Rattle.hk_report.specs.Hops.{is_made, bounds_at}
use Rattle.hk_report.specs.Holders.{live_at}
use Rattle.hk_report.specs.Reachable.{moment_at, can_come}
use Rattle.hk_report.proofs.Raising.{raised_by, level_live}
use Rattle.hk_report.proofs.hops.Ground.bounds_behind.Goals as goal

pub loop-name-init : goal.loop-name-init
loop-name-init c =
    let s = c.args.self.now in
    let made = is_made s.families.now s.begun s.histories.now in
    let living = live_at (can_come (moment_at s.lasts.now) s.begun.moment) s.holders.now in
    ap (λ (level : Name → Latest). raised_by made s.histories.now living level c.into_iter-name-iterator.result) c.none-next.ensures
    ∙ ap (λ (all : List (Name × Latest)). raised_by made s.histories.now living (λ name. record { modify = 0; unconf = 0 }) all)
    (c.into_iter-name-iterator.ensures.into_iter_gives ∙ c.iter-name-items.ensures.rest)

pub returns : goal.returns
returns c = λ x lives.
    let s = c.args.self.now in
    let made = is_made s.families.now s.begun s.histories.now in
    let live = can_come (moment_at s.lasts.now) s.begun.moment in
    ap (λ (level : Name → Latest). level x)
    (sym (ap (λ (all : List (Name × Latest)). raised_by made s.histories.now (live_at live s.holders.now) (bounds_at c.loop-name.next) all) c.in-None.ensures.steps.0)
    ∙ c.loop-name.invariant)
    ∙ level_live live made s.histories.now s.holders.now x lives s.runs.now c.args.bounds.now.latest.entries s.cut s.held c.iter-name-items.ensures.found
