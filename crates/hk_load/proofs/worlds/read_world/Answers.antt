use Rattle.std.proofs.Common.{Err, ap}
use Rattle.std.proofs.lemmas.Result.{err_from_is_err_and}
use Rattle.hk_load.proofs.Passes.{world_is, source_refused, of_load_error}
use Rattle.hk_load.proofs.worlds.read_world.Goals as goal

pub returns-in_err-syntax-clause-refused : goal.returns-in_err-syntax-clause-refused
returns-in_err-syntax-clause-refused c line cause h =
    let p = err_from_is_err_and c.from_residual.result c.from_residual.ensures.1 in
    source_refused c.args.script.now line cause (c.in_err-syntax.ensures.refused line cause (cc (p.1, p.2, h)))

pub returns-in_err-load_owned-clause-refused : goal.returns-in_err-load_owned-clause-refused
returns-in_err-load_owned-clause-refused c =
    of_load_error c.args.script.now c.in_ok-syntax.syntax c.from_residual-in_err-load_owned.result c.in_err-load_owned.field-0.0
    c.in_ok-syntax.ensures.ok
    c.from_residual-in_err-load_owned.ensures.1 (λ line cause e. c.in_err-load_owned.ensures.refused line cause (ap Err e))

pub returns-clause-ok : goal.returns-clause-ok
returns-clause-ok c = world_is c.args.script.now c.in_ok-syntax.syntax c.in_ok-load_owned.field-0 c.in_ok-syntax.ensures.ok c.in_ok-load_owned.ensures.ok
