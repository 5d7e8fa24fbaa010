use Rattle.std.proofs.Common.{Option, sym, ◌∙◌, ap, subst, ◌≡◌, ◌++◌, filter}
use Rattle.std.specs.Option.{option_copied}
use Rattle.hk_report.specs.declared.histories.Span.{Span}
use Rattle.hk_report.specs.Holders.{held_at, holds, stretch_at}
use Rattle.hk_report.proofs.HolderLemmas.{none_more}
use Rattle.hk_report.proofs.RunLemmas.{got_is}
use Rattle.hk_report.proofs.holders.add_run.Goals as goal

pub returns-in-None : goal.returns-in-None
returns-in-None c = λ name.
    let all = c.args.all.now.items in
    let none = ap option_copied (sym c.in-None.is) ∙ got_is c.args.spans.now c.args.first c.get.result c.get.ensures.lookup.3 in
    subst (λ (o : Option Span). held_at all name ≡ held_at all name ++ filter (holds name) (stretch_at c.args.by c.args.first c.args.end o)) none
    (none_more all name c.args.by c.args.first c.args.end)
