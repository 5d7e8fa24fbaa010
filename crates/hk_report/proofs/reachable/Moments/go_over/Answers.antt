use Rattle.std.proofs.Common.{Some, sym, ◌∙◌, subst, take, ◌+◌}
use Rattle.hk_report.specs.declared.reachable.Moments.{Moments}
use Rattle.hk_report.specs.Moments.{told_by}
use Rattle.hk_report.specs.Reachable.{IsByThen, AreGoneOver}
use Rattle.hk_report.proofs.MomentLemmas.{IsEarlierAnd, earlier_none, over_next}
use Rattle.hk_report.proofs.reachable.Moments.go_over.Goals as goal
use Rattle.hk_report.proofs.reachable.Moments.go_over.Goals.{in-Some+in_ok-tell, in_default}

pub loop-span-preserved : goal.loop-span-preserved
loop-span-preserved c =
    let a = c.loop-span.self in
    let spans = c.args.spans.now in
    let n = c.loop-span.span-index in
    let span = c.span-item.result in
    let P = λ (m : Moments). IsEarlierAnd c.args.self.now m (AreGoneOver c.args.side (told_by m) (Some c.args.moment) (take (n + 1) spans)) in
    elim c.match-goes_on.branch [
      | in-Some+in_ok-tell w ↦
          subst P (sym w.self-is)
          (over_next c.args.side c.args.moment c.args.self.now a w.tell.new.self spans n span c.loop-span.invariant c.loop-span-test.true c.span-item.is w.in_ok-tell.ensures.earlier
          (subst (IsByThen (told_by w.tell.new.self span.cap.name)) (sym w.in-Some.is ∙ c.goes_on.ensures) w.in_ok-tell.ensures.told))
      | in_default w ↦
          subst P (sym w.self-is)
          (over_next c.args.side c.args.moment c.args.self.now a a spans n span c.loop-span.invariant c.loop-span-test.true c.span-item.is (earlier_none a)
          (subst (IsByThen (told_by a span.cap.name)) (sym w.in_default.is ∙ c.goes_on.ensures) tt))
    ]
