use Rattle.hk_bound.proofs.gaps.Table.store_list.Goals as goal

pub loop-entry-preserved : goal.loop-entry-preserved
loop-entry-preserved c h = c.in_ok-store_over.ensures {u = tt} (c.loop-entry.invariant h)
