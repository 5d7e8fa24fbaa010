use Rattle.hk_report.specs.Holders.{spans_in}
use Rattle.hk_report.proofs.Raising.{over_on, over_off}
use Rattle.hk_report.proofs.hops.Ground.latest_over.Goals as goal

-- there is no bound to go below
pub returns-then-most-eq0-2 : goal.returns-then-most-eq0-2
returns-then-most-eq0-2 c = over_off (spans_in c.args.self.now.histories.now c.args.held.now) c.args.most c.if-most-eq0.true c.if-most-eq0-2.true

pub returns : goal.returns
returns c =
    over_on c.run_of-run.result.now (spans_in c.args.self.now.histories.now c.args.held.now) c.args.most c.most_on.result c.most_on-2.result c.run_of-run.ensures c.most_on.ensures
    c.most_on-2.ensures
