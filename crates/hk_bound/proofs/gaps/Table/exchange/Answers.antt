use Rattle.hk_bound.proofs.gaps.Table.exchange.Goals as goal

pub returns-clause-gaps : goal.returns-clause-gaps
returns-clause-gaps c h = (c.in_ok-take_through-2.ensures {u = tt}).gaps ((c.in_ok-take_through.ensures {u = tt}).gaps h)
