use Rattle.std.proofs.Common.{◌∙◌, ap}
use Rattle.hk_model.specs.declared.names.Name.{Name}
use Rattle.hk_report.specs.declared.hops.Latest.{Latest}
use Rattle.hk_report.specs.Hops.{is_made, ends_before, bounds_at}
use Rattle.hk_report.specs.Holders.{live_at, raised_over}
use Rattle.hk_report.specs.Reachable.{moment_at, can_come}
use Rattle.hk_report.proofs.Raising.{end_live}
use Rattle.hk_report.proofs.hops.Ground.bounds_before.Goals as goal

pub returns : goal.returns
returns c = λ x lives.
    let s = c.args.self.now in
    let made = is_made s.families.now s.begun s.histories.now in
    let live = can_come (moment_at s.lasts.now) s.begun.moment in
    ap (λ (level : Name → Latest). level x)
    (c.in_ok-raise_holders.ensures
    ∙ ap (λ (l : Latest). raised_over s.histories.now l (made c.args.name) (bounds_at c.none-next.result) (live_at live s.holders.now c.args.name)) c.ends_before.ensures
    ∙ ap (λ (level : Name → Latest). raised_over s.histories.now (ends_before c.args.before) (made c.args.name) level (live_at live s.holders.now c.args.name)) c.none-next.ensures)
    ∙ end_live live made s.histories.now s.holders.now x lives s.runs.now c.args.name c.args.before s.cut s.held
