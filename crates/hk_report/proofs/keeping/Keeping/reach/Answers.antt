use Rattle.std.proofs.Common.{List, sym, ◌∙◌, subst, IfSome}
use Rattle.hk_report.specs.declared.fronts.Fronts.{Fronts}
use Rattle.hk_report.specs.Keeping.{IsFirstOf}
use Rattle.hk_report.proofs.KeepingLemmas.{found_of}
use Rattle.hk_report.proofs.keeping.Keeping.reach.Goals as goal

pub returns-then-same_begun : goal.returns-then-same_begun
returns-then-same_begun c =
    let got = c.in-Some-get.ensures.lookup.3 in
    let fronts = c.in-Some-get.fronts.now in
    subst (λ (kept : List Fronts). IfSome c.in_ok-found.found (λ reach. IsFirstOf kept c.args.begun c.args.wanted c.args.moment reach)) c.deref-2.ensures.value
    (found_of c.deref-2.result.now _ fronts c.args.begun c.args.wanted c.args.moment c.in_ok-found.found got.0 (got.1 fronts)
    (sym c.same_begun.ensures ∙ c.if-same_begun.true) c.in_ok-found.ensures)
