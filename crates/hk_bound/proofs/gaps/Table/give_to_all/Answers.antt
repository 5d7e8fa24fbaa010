use Rattle.hk_bound.proofs.gaps.Table.give_to_all.Goals as goal

pub loop-other-preserved : goal.loop-other-preserved
loop-other-preserved c = record {
  ways = (c.in_ok-take_if_runs.ensures {u = tt}).ways;
  gaps = λ h. (c.in_ok-take_if_runs.ensures {u = tt}).gaps (c.loop-other.invariant.gaps h);
}
