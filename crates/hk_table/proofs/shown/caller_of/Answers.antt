use Rattle.std.proofs.Common.{arith, ◌<◌}
use Rattle.hk_table.proofs.InOrder.{caller_found}
use Rattle.hk_table.proofs.shown.caller_of.Goals as goal

pub returns : goal.returns
returns c =
    let some : 0 < c.args.at = grind arith in
    caller_found c.args.stack.now c.args.at c.frame.result.now some c.frame.ensures
