use Rattle.std.proofs.Common.{ap, ◌∙◌, option_map}
use Rattle.hk_queues.specs.Queued.{proc_of}
use Rattle.hk_queues.proofs.Lists.{first_waiter}
use Rattle.hk_queues.proofs.queues.Queues.first_waiting.Goals as goal

pub returns : goal.returns
returns c = rw (← c.self.view_is) (c.proc_at.ensures ∙ ap (option_map proc_of) c.front.ensures.first ∙ first_waiter c.self.inside.chains c.self.inside.processes c.args.semaphore)
