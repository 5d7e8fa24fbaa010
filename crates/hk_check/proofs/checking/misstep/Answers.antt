use Rattle.hk_check.proofs.Replays.{step_is_of}
use Rattle.hk_check.proofs.checking.misstep.Goals as goal

pub difference-requires : goal.difference-requires
difference-requires g c = step_is_of c.args.world.now c.args.machine.now c.args.line.now.cpu c.in-Some.step c.step.new.self (rw c.in-Some.is at c.in_ok-step.ensures.made)
