use Rattle.std.proofs.Common.{arith}
use Rattle.hk_report.specs.Hops.{is_made}
use Rattle.hk_report.proofs.WayLemmas.{met_empty, met_same, closed_next, closed_all}
use Rattle.hk_report.proofs.fronts.are_closed.Goals as goal
use Rattle.hk_report.proofs.fronts.are_closed.Goals.{else-len-gt0-via-then-len-gt0+else-not-are_met_over_all, else-len-gt0-via-else-len-gt0}

pub loop-index-preserved : goal.loop-index-preserved
loop-index-preserved c =
    let all = c.args.all.now in
    let ground = c.args.ground.now in
    let made = is_made ground.families.now ground.begun ground.histories.now in
    let ways = c.index-all-index.result in
    closed_next all made ground.histories.now c.loop-index.index ways c.loop-index.invariant c.loop-index-test.true c.index-all-index.is
    (elim c.else-len-gt0.branch [
      | else-len-gt0-via-then-len-gt0+else-not-are_met_over_all w ↦
          met_same all made w.as_slice.result.now ways c.spans_at-spans.result.now _ w.as_slice.ensures c.spans_at-spans.ensures (w.are_met_over_all.ensures w.if-not-are_met_over_all.false)
      | else-len-gt0-via-else-len-gt0 w ↦
          let none = w.if-len-gt0.false in
          let count = c.len.ensures in
          met_empty all made ways _ (omega (arith, none, count))
    ])

pub returns : goal.returns
returns c h name =
    let ground = c.args.ground.now in
    let made = is_made ground.families.now ground.begun ground.histories.now in
    closed_all c.args.all.now made ground.histories.now c.loop-index.index c.loop-index.invariant c.loop-index-test.false name
