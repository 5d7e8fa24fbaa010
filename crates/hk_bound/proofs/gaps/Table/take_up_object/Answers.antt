use Rattle.hk_bound.proofs.gaps.Table.take_up_object.Goals as goal

pub returns-clause-gaps : goal.returns-clause-gaps
returns-clause-gaps c h =
    c.in_ok-store_list.ensures {u = tt}
    (c.in_ok-store_all.ensures {u = tt} ((c.in_ok-meet.ensures {u = tt}).gaps (c.in_ok-take_own.ensures {u = tt} h)))
