use Rattle.hk_bound.proofs.Sorted.{start_found, start_between}
use Rattle.hk_bound.proofs.forms.start_of.Goals as goal

pub returns-in-Ok : goal.returns-in-Ok
returns-in-Ok c =
    let found = c.in-Ok.ensures {u = tt} in
    start_found c.args.forms.now (record { of = c.args.of; check = c.none.result; give = c.none-2.result }) c.in-Ok.place c.requires c.none.ensures.word c.none-2.ensures.word
    found.bound found.ok

pub returns-in-Err : goal.returns-in-Err
returns-in-Err c =
    let between = c.in-Err.ensures {u = tt} in
    start_between c.args.forms.now (record { of = c.args.of; check = c.none.result; give = c.none-2.result }) c.in-Err.place c.requires c.none.ensures.word c.none-2.ensures.word
    between.bound between.position
