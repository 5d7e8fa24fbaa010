use Rattle.hk_top.proofs.ReadWhole.{printed_fits, printed_legal}
use Rattle.hk_top.proofs.printed.printed_record_is_read_whole.Goals as goal

pub returns-clause-fits : goal.returns-clause-fits
returns-clause-fits c = printed_fits c.args.source.now c.args.world.now c.args.text.now c.limit-limit.ensures.valid c.requires

pub returns-clause-legal : goal.returns-clause-legal
returns-clause-legal c = printed_legal c.args.source.now c.args.world.now c.args.text.now c.limit-limit.ensures.valid c.requires
