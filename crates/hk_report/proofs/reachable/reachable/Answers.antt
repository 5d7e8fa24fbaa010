use Rattle.hk_report.proofs.MomentLemmas.{underway_more, begun_later}
use Rattle.hk_report.proofs.reachable.reachable.Goals as goal

pub spread-requires : goal.spread-requires
spread-requires c = underway_more c.args.side c.args.histories.now c.in_ok-moments.moments c.begin.new.self c.in_ok-begin.ensures.earlier c.in_ok-moments.ensures

pub returns : goal.returns
returns c = record {
  starts =
      begun_later c.args.side c.args.families.now c.args.params.now c.begin.new.self c.spread.new.self c.in_ok-spread.ensures.earlier c.args.changes.now c.in_ok-begin.ensures.told;
  closed = c.in_ok-spread.ensures.closed;
}
