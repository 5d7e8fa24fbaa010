use Rattle.hk_report.specs.Hops.{is_made, latest_at}
use Rattle.hk_report.proofs.BlockLemmas.{going_more}
use Rattle.hk_report.proofs.hops.Ground.first_through.Goals as goal

pub loop-end-preserved : goal.loop-end-preserved
loop-end-preserved c =
    let s = c.args.self.now in
    let made = is_made s.families.now s.begun s.histories.now in
    record {
      going = going_more made (latest_at made s.histories.now c.args.level.now) c.args.from.now c.spans_at-spans.result.now c.args.ends.now c.loop-end.end-index c.loop-end.start
          c.loop-end.first c.first_over-first.result _ c.loop-end.invariant.going c.loop-end-test.true c.first_over-first.ensures.first;
      known = c.first_over-first.ensures.known;
    }
