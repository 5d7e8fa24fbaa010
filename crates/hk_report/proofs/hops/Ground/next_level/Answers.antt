use Rattle.std.proofs.Common.{sym, subst}
use Rattle.hk_report.specs.declared.hops.Level.{Level}
use Rattle.hk_report.specs.Hops.{is_made, next_latest, latest_at, bounds_at}
use Rattle.hk_report.specs.Reachable.{moment_at, comes_at, Agree}
use Rattle.hk_report.proofs.hops.Ground.next_level.Goals as goal

pub returns-in_ok-bounds_of_two-in-Near : goal.returns-in_ok-bounds_of_two-in-Near
returns-in_ok-bounds_of_two-in-Near c =
    let s = c.args.self.now in
    let histories = s.histories.now in
    let made = is_made s.families.now s.begun histories in
    subst
    (λ (level : Level).
    Agree (comes_at (moment_at s.lasts.now) s.begun.moment) (bounds_at c.in_ok-bounds_of_two-in-Near.field-0) (next_latest made histories (latest_at made histories level)))
    (sym c.in-Near.is) c.in_ok-bounds_of_two-in-Near.ensures
