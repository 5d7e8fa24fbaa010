use Rattle.std.proofs.Common.{◌∙◌}
use Rattle.hk_queues.proofs.Lists.{behind_ready, behind_waiter}
use Rattle.hk_queues.proofs.queues.Queues.next.Goals as goal

pub returns-clause-ready : goal.returns-clause-ready
returns-clause-ready c =
    rw (← c.self.view_is) (λ k here. c.proc_at.ensures ∙ behind_ready c.self.inside.chains c.self.inside.processes k c.args.proc _ c.self.invariant c.next.ensures.next here)

pub returns-clause-waiting : goal.returns-clause-waiting
returns-clause-waiting c =
    rw (← c.self.view_is) (λ s k inside here. c.proc_at.ensures ∙ behind_waiter c.self.inside.chains c.self.inside.processes s k c.args.proc _ c.self.invariant
    c.next.ensures.next inside here)
