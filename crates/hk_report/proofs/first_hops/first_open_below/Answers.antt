use Rattle.hk_report.proofs.RunsBelow.{stays_open}
use Rattle.hk_report.proofs.first_hops.first_open_below.Goals as goal

pub returns-then-stays_first : goal.returns-then-stays_first
returns-then-stays_first c =
    stays_open (λ x. c.args.made) (λ x. c.args.latest) c.args.from.now c.args.first c.args.run.now c.in-Some.span.now c.args.latest c.args.made c.requires c.in-Some.ensures.value
    (c.stays_first.ensures c.if-stays_first.true)
