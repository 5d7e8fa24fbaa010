use Rattle.hk_report.proofs.ListLemmas.{copied}
use Rattle.hk_report.proofs.lists.add_longer.Goals as goal

-- one item more
pub loop-at-preserved : goal.loop-at-preserved
loop-at-preserved g c =
    let place = c.args.place in
    copied c.args.items.now.items c.loop-at.items.items c.push.new.self.items place.start c.loop-at.at place.end c.index-copied.result.now c.loop-at.auto.at
    c.loop-at-test.true c.requires.1 c.loop-at.invariant c.index-copied.ensures c.in_ok-push.ensures.items
