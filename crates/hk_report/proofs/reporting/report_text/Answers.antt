use Rattle.hk_report.proofs.Retold.{retold_count, retold_few}
use Rattle.hk_report.proofs.reporting.report_text.Goals as goal

pub text-requires-clause-count : goal.text-requires-clause-count
text-requires-clause-count c = retold_count c.args.world.now c.args.lines.now c.in_ok-retold.field-0 c.limit-limit.ensures.valid c.in_ok-retold.ensures

pub text-requires-clause-few : goal.text-requires-clause-few
text-requires-clause-few c = retold_few c.args.world.now c.args.lines.now c.in_ok-retold.field-0 c.limit-limit.ensures.valid c.in_ok-retold.ensures
