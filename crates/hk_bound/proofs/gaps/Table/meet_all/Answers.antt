use Rattle.hk_bound.proofs.gaps.Table.meet_all.Goals as goal

pub returns-clause-gaps : goal.returns-clause-gaps
returns-clause-gaps c h = (c.in_ok-give_to_all.ensures {u = tt}).gaps ((c.in_ok-take_from_all.ensures {u = tt}).gaps h)
