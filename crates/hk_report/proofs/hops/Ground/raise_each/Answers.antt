use Rattle.hk_report.proofs.HeldBlockLemmas.{alone_one}
use Rattle.hk_report.proofs.hops.Ground.raise_each.Goals as goal

pub raise_over-requires : goal.raise_over-requires
raise_over-requires c =
    alone_one c.args.self.now.histories.now c.args.runs.now c.loop-held.held-index c.held-item.result c.requires c.loop-held-test.true c.held-item.is
