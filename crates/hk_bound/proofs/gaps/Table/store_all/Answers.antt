use Rattle.hk_bound.proofs.gaps.Table.store_all.Goals as goal

pub loop-at-preserved : goal.loop-at-preserved
loop-at-preserved c h = c.in_ok-store_into.ensures {u = tt} (c.loop-at.invariant h)
