use Rattle.hk_gen.proofs.Worlds.{processes_from-put}
use Rattle.hk_gen.proofs.processes.processes.Goals as goal

pub loop-number-preserved : goal.loop-number-preserved
loop-number-preserved c = processes_from-put _ _ _ c.loop-number.number c.in_ok-push.ensures.ok c.loop-number.invariant c.in_ok-process.ensures
