use Rattle.std.proofs.Common.{◌≡◌, List, Option, IfSome, ap, subst}
use mathlib.Core.Logic.{inr}
use Rattle.hk_report.specs.declared.fronts.Fronts.{Fronts}
use Rattle.hk_report.specs.Fronts.{AreFronts}
use Rattle.hk_report.specs.Hops.{is_made}
use Rattle.hk_report.specs.Keeping.{IsAdded}
use Rattle.hk_report.proofs.keeping.Keeping.seek.Goals as goal

pub returns-in_ok-keep : goal.returns-in_ok-keep
returns-in_ok-keep c =
    let ground = c.args.ground.now in
    let made = is_made ground.families.now ground.begun ground.histories.now in
    inr (
      c.in-Some.fronts,
      subst (λ (o : Option Fronts). IfSome o (λ fronts. fronts.begun ≡ ground.begun)) c.in-Some.is c.in_ok-fronts.ensures.begun,
      subst (λ (o : Option Fronts). IfSome o (λ fronts. AreFronts made ground.histories.now ground.begun.moment c.args.params.now fronts.ways.items)) c.in-Some.is
          c.in_ok-fronts.ensures.all,
      subst (λ (kept : List Fronts). IsAdded c.in-Some.fronts kept c.keep.new.self.fronts.items) (ap (λ v. v.items) c.count-sought.ensures) c.in_ok-keep.ensures,
    )
