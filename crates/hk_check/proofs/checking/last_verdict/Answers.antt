use Rattle.std.proofs.Common.{arith}
use Rattle.hk_check.proofs.Replays.{few_in_all}
use Rattle.hk_check.proofs.checking.last_verdict.Goals as goal

pub overflow_cast-result : goal.overflow_cast-result
overflow_cast-result g c = let few = few_in_all c.args.world.now c.args.lines.now c.args.machine.now c.requires in omega (arith, few)

pub overflow_add-result : goal.overflow_add-result
overflow_add-result g c = let few = few_in_all c.args.world.now c.args.lines.now c.args.machine.now c.requires in omega (arith, few)
