use Rattle.hk_bound.proofs.gaps.Table.take_up_made.Goals as goal

pub returns-clause-gaps : goal.returns-clause-gaps
returns-clause-gaps c h = (c.in_ok-share-2.ensures {u = tt}).gaps ((c.in_ok-share.ensures {u = tt}).gaps ((c.in_ok-made_gap.ensures {u = tt}).gaps h))
