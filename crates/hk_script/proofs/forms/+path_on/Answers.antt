use Rattle.std.proofs.Common.{◌+◌, ◌<◌, arith, ap, length}
use Rattle.std.proofs.lemmas.List.{length-drop}
use Rattle.std.proofs.lemmas.Result.{err_from_is_err_and}
use Rattle.hk_script.proofs.Routes.{first_cut, others_cut, others_after, route_last, route_later, route_bad}
use Rattle.hk_script.proofs.forms.+path_on.Goals as goal

pub index-requires-clause-index : goal.index-requires-clause-index
index-requires-clause-index t c = (first_cut c.args.text.now c.first_of-len.result c.first_of-len.ensures.place c.requires.indices).0

pub index-requires-clause-small : goal.index-requires-clause-small
index-requires-clause-small t c = (first_cut c.args.text.now c.first_of-len.result c.first_of-len.ensures.place c.requires.indices).1

pub returns-in_err-index : goal.returns-in_err-index
returns-in_err-index t c =
    let p = err_from_is_err_and c.from_residual.result c.from_residual.ensures.1 in
    rw (p.1, p.2) (route_bad c.args.text.now c.args.at c.args.bound c.first_of-len.result _ c.first_of-len.ensures.place c.in_err-index.ensures)

pub returns-then-len-text : goal.returns-then-len-text
returns-then-len-text t c =
    rw (c.in_ok-at.ensures, c.in_ok-push.ensures.ok) (route_last c.args.text.now c.args.at c.args.bound c.first_of-len.result c.in_ok-index.field-0 c.first_of-len.ensures.place
    c.if-len-text.true c.in_ok-index.ensures)

pub path_on-requires : goal.path_on-requires
path_on-requires t c =
    let more : c.first_of-len.result < length c.args.text.now = omega (arith, c.first_of-len.ensures.within, c.if-len-text.false) in
    let after = others_after c.args.text.now c.first_of-len.result more in
    let size = length-drop (c.first_of-len.result + 1) c.args.text.now in
    (omega (arith, c.decreases, ap length after), (rw after (others_cut c.args.text.now c.first_of-len.result c.first_of-len.ensures.place more c.requires.indices), omega arith))

pub returns : goal.returns
returns t c =
    let more : c.first_of-len.result < length c.args.text.now = omega (arith, c.first_of-len.ensures.within, c.if-len-text.false) in
    let after = others_after c.args.text.now c.first_of-len.result more in
    let later = route_later c.args.text.now c.args.at c.args.bound c.first_of-len.result c.in_ok-index.field-0 c.first_of-len.ensures.place more c.in_ok-index.ensures in
    rw later (rw (after, c.in_ok-push.ensures.ok) at c.path_on.ensures)
