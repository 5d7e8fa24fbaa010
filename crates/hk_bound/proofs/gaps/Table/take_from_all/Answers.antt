use Rattle.hk_bound.proofs.gaps.Table.take_from_all.Goals as goal

pub loop-other-preserved : goal.loop-other-preserved
loop-other-preserved c = record {
  ways = (c.in_ok-take_through.ensures {u = tt}).ways;
  gaps = λ h. (c.in_ok-take_through.ensures {u = tt}).gaps (c.loop-other.invariant.gaps h);
}
