use Rattle.hk_report.specs.Hops.{is_made}
use Rattle.hk_report.proofs.WayLemmas.{met_next}
use Rattle.hk_report.proofs.fronts.are_met_over_all.Goals as goal

pub loop-span-preserved : goal.loop-span-preserved
loop-span-preserved c h =
    let ground = c.args.ground.now in
    let made = is_made ground.families.now ground.begun ground.histories.now in
    c.loop-span.invariant
    (met_next c.args.all.now made c.args.ways.now c.args.spans.now c.loop-span.span-index c.span-item.result c.is_made-made.result c.loop-span-test.true c.span-item.is
    c.is_made-made.ensures (c.are_met_over.ensures c.if-not-are_met_over.false) (c.are_met_over-else-not-are_met_over.ensures c.if-not-are_met_over-2.false) h)
