use Rattle.hk_report.proofs.MomentLemmas.{underway_none}
use Rattle.hk_report.proofs.reachable.Moments.none.Goals as goal

pub returns : goal.returns
returns c = underway_none c.args.side c.args.histories.now _ c.in_ok-nothing_told.ensures
