use Rattle.hk_bound.proofs.gaps.Table.all_copy_again.Goals as goal

pub loop-process-preserved : goal.loop-process-preserved
loop-process-preserved c h = c.in_ok-copy_again.ensures {u = tt} (c.loop-process.invariant h)
