use Rattle.std.proofs.Common.{Some, List, subst}
use Rattle.hk_report.specs.declared.histories.Span.{Span}
use Rattle.hk_report.specs.Moments.{told_by}
use Rattle.hk_report.specs.Reachable.{AreGoneOver}
use Rattle.hk_report.proofs.Agreeing.{if_ok}
use Rattle.hk_report.proofs.reachable.Moments.go_on.Goals as goal

pub returns-in-Some-clause-told : goal.returns-in-Some-clause-told
returns-in-Some-clause-told c =
    if_ok c.go_over.result c.go_over.ensures.told
    (λ _ h e. subst (λ (spans : List Span). AreGoneOver c.args.side (told_by c.go_over.new.self) (Some c.args.due.moment) spans) c.spans_at.ensures h)
