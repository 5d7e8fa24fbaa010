use Rattle.std.proofs.Common.{◌≡◌, Option, ◌∙◌, ap, subst}
use Rattle.std.specs.Prelude.{IfSome}
use Rattle.hk_report.specs.declared.hops.Raise.{Raise}
use Rattle.hk_report.specs.Hops.{is_made, latest_at}
use Rattle.hk_report.proofs.HistoryLemmas.{name_is}
use Rattle.hk_report.proofs.hops.Ground.latest_known.Goals as goal

pub returns-then-kept-name-clause-value : goal.returns-then-kept-name-clause-value
returns-then-kept-name-clause-value c =
    let s = c.args.self.now in
    let level = latest_at (is_made s.families.now s.begun s.histories.now) s.histories.now c.args.level.now in
    let known : c.in-Some.kept.latest ≡ level c.in-Some.kept.name =
    subst (λ (o : Option Raise). IfSome o (λ (kept : Raise). kept.latest ≡ level kept.name)) c.in-Some.is c.requires in
    known ∙ ap level (name_is c.in-Some.kept.name c.args.name c.if-kept-name.true)
