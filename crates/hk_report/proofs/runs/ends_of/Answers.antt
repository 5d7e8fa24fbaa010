use Rattle.std.proofs.Common.{ℕ, ◌+◌, List, sym, ◌∙◌, subst}
use Rattle.std.proofs.lemmas.Bool.{eqb-true}
use Rattle.hk_report.proofs.RunLemmas.{Cutting, cut_begun, cut_more, cut_new, cut_all, cut_none}
use Rattle.hk_report.specs.Runs.{AreCut}
use Rattle.hk_report.proofs.runs.ends_of.Goals as goal
use Rattle.hk_report.proofs.runs.ends_of.Goals.{then-not-precedes+in_ok-add_one, else-not-precedes, then-not-is_empty+in_ok-add_one-2, else-not-is_empty}

pub loop-place-init : goal.loop-place-init
loop-place-init c = cut_begun c.args.spans.now c.new-ends.result c.new-ends.ensures

pub loop-place-preserved : goal.loop-place-preserved
loop-place-preserved c =
    let spans = c.args.spans.now in
    let some = c.loop-place-test.true in
    elim c.if-not-precedes.branch [
      | then-not-precedes+in_ok-add_one w ↦
          cut_new spans c.loop-place.ends c.if-not-precedes.ends c.loop-place.place c.loop-place.invariant some (w.ends-is ∙ w.in_ok-add_one.ensures)
      | else-not-precedes w ↦
          subst (λ (ends : List ℕ). Cutting spans ends (c.loop-place.place + 1)) (sym w.ends-is)
          (cut_more spans c.loop-place.ends c.loop-place.place c.index-spans-place.result c.index-spans-place-in-loop-place.result c.loop-place.invariant some
          c.index-spans-place.is c.index-spans-place-in-loop-place.is (sym c.precedes.ensures ∙ w.if-not-precedes.false))
    ]

pub returns : goal.returns
returns c =
    let spans = c.args.spans.now in
    elim c.if-not-is_empty.branch [
      | then-not-is_empty+in_ok-add_one-2 w ↦
          cut_all spans c.loop-place.ends c.if-not-is_empty.ends c.loop-place.place c.loop-place.invariant c.loop-place-test.false (w.ends-is ∙ w.in_ok-add_one-2.ensures)
      | else-not-is_empty w ↦
          subst (λ (ends : List ℕ). AreCut 0 ends spans) (sym w.ends-is)
          (cut_none spans c.loop-place.ends c.loop-place.place c.loop-place.invariant (eqb-true _ _ (sym c.is_empty.ensures ∙ w.if-not-is_empty.false)))
    ]
