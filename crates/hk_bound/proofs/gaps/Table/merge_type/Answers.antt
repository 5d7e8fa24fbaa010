use Rattle.hk_bound.proofs.gaps.Table.merge_type.Goals as goal

pub loop-name-preserved : goal.loop-name-preserved
loop-name-preserved c h = c.in_ok-merge_again.ensures {u = tt} (c.loop-name.invariant h)
