use Rattle.std.proofs.Common.{sym, subst}
use Rattle.std.proofs.lemmas.Bool.{leb-true}
use Rattle.hk_report.specs.declared.hops.Level.{Level}
use Rattle.hk_report.specs.Hops.{IsBy, latest_at}
use Rattle.hk_report.proofs.LateRuns.{near_is_by}
use Rattle.hk_report.proofs.first_hops.is_late.Goals as goal

pub returns-in-Near : goal.returns-in-Near
returns-in-Near c h made histories name =
    subst (λ (level : Level). IsBy c.args.moment (latest_at made histories level name)) (sym c.in-Near.is)
    (near_is_by made histories c.in-Near.name c.in-Near.before c.args.moment name (leb-true c.in-Near.before c.args.moment h))
