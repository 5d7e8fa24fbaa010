use Rattle.hk_bound.proofs.gaps.Table.merge_form.Goals as goal

pub loop-name-preserved : goal.loop-name-preserved
loop-name-preserved c h = c.in_ok-merge_had.ensures {u = tt} (c.loop-name.invariant h)
