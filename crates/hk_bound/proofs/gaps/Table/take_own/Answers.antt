use Rattle.hk_bound.proofs.gaps.Table.take_own.Goals as goal

pub returns-in_default : goal.returns-in_default
returns-in_default c h = (c.in_ok-take_entries.ensures {u = tt}).gaps h

pub returns : goal.returns
returns c h =
    (c.in_ok-make_form.ensures {u = tt}).gaps ((c.in_ok-take_params.ensures {u = tt}).gaps ((c.in_ok-take_entries.ensures {u = tt}).gaps h))
