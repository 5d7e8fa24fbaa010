use Rattle.hk_report.proofs.Retold.{retold_count, retold_few}
use Rattle.hk_top.proofs.outputs.changes_told.Goals as goal

pub text-requires-clause-count : goal.text-requires-clause-count
text-requires-clause-count c = retold_count c.args.world.now c.requires.0 c.args.told c.limit-limit.ensures.valid c.requires.1

pub text-requires-clause-few : goal.text-requires-clause-few
text-requires-clause-few c = retold_few c.args.world.now c.requires.0 c.args.told c.limit-limit.ensures.valid c.requires.1
