use Rattle.std.proofs.Common.{◌∙◌, ap}
use Rattle.hk_report.specs.Holders.{spans_in, joined}
use Rattle.hk_report.proofs.Raising.{within_all, over_run}
use Rattle.hk_report.proofs.hops.Ground.joined_over.Goals as goal

pub returns-then-most-all-2 : goal.returns-then-most-all-2
returns-then-most-all-2 c =
    let held = c.args.held.now in
    within_all c.args.all c.most_over-most.result (spans_in c.args.self.now.histories.now held) held.cap c.args.latest c.args.made c.requires.1.alike c.most_over-most.ensures
    c.if-most-all.true c.if-most-all-2.true

pub returns : goal.returns
returns c =
    let held = c.args.held.now in
    c.joined.ensures
    ∙ ap (joined c.args.all)
    (over_run (spans_in c.args.self.now.histories.now held) held.cap c.args.latest c.args.made c.most_over-most.result c.latest_over.result c.requires.1.alike
    c.most_over-most.ensures c.latest_over.ensures)
