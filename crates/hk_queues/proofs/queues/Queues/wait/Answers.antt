use Rattle.std.proofs.Common.{subst, sym}
use Rattle.hk_queues.specs.Queued.{Queued, IsIdle}
use Rattle.hk_queues.proofs.Lists.{lone_cell, queueing_set, pushed}
use Rattle.hk_queues.proofs.queues.Queues.wait.Goals as goal

pub push_back-requires-clause-lone : goal.push_back-requires-clause-lone
push_back-requires-clause-lone c =
    lone_cell c.self.inside.chains c.self.inside.processes c.args.proc c.self.invariant
    (subst (λ (v : Queued). IsIdle v c.args.proc) (sym c.self.view_is) c.requires.idle)

pub invariant_of-self : goal.invariant_of-self
invariant_of-self c = queueing_set _ _ _ _ _ c.self.invariant c.push_back.ensures

pub returns : goal.returns
returns c = rw (← c.self.view_is) (pushed _ _ _ c.args.semaphore c.args.proc c.self.invariant c.push_back.ensures)
