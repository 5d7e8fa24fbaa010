use Rattle.hk_queues.proofs.Lists.{popped}
use Rattle.hk_queues.proofs.queues.Queues.wake.Goals as goal

pub returns-clause-rest : goal.returns-clause-rest
returns-clause-rest c = rw (← c.self.view_is) (popped _ _ _ c.args.semaphore c.self.invariant c.pop_front.ensures.rest)
