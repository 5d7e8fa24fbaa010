use Rattle.std.proofs.Common.{◌<◌, ◌∙◌, ap, arith, length}
use Rattle.hk_queues.specs.Queued.{Queued}
use Rattle.hk_table.proofs.Opens.{next_idle, next_queued}
use Rattle.hk_table.proofs.opening.all_queued.Goals as goal

pub loop-n-init : goal.loop-n-init
loop-n-init c = record {
  all = ap (λ (q : Queued). q.processes) c.in_ok-queues.ensures;
  ready = ap (λ (q : Queued). q.ready) c.in_ok-queues.ensures;
  waiting = ap (λ (q : Queued). q.waiting) c.in_ok-queues.ensures;
}

pub ready-requires-clause-idle : goal.ready-requires-clause-idle
ready-requires-clause-idle c = next_idle c.loop-n.queues c.args.tasks.now c.loop-n.n 65536 c.loop-n.invariant.ready c.loop-n.invariant.waiting (omega (arith, c.loop-n-test.true))

pub loop-n-preserved : goal.loop-n-preserved
loop-n-preserved c =
    let there : c.loop-n.n < length c.args.tasks.now = omega (arith, c.loop-n-test.true) in
    record {
      all = ap (λ (q : Queued). q.processes) c.ready.ensures ∙ c.loop-n.invariant.all;
      ready = next_queued c.loop-n.queues c.ready.new.self c.args.tasks.now c.loop-n.n c.index-tasks-n.result there c.loop-n.invariant.ready c.ready.ensures;
      waiting = ap (λ (q : Queued). q.waiting) c.ready.ensures ∙ c.loop-n.invariant.waiting;
    }
