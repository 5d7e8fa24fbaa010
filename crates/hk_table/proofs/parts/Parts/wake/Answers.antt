use Rattle.std.proofs.Common.{◌≡◌, ◌<◌, List, [], ◌∷◌, length, refl, sym, ap, subst, arith}
use Rattle.hk_model.specs.declared.objects.Process.{Process}
use Rattle.hk_model.specs.declared.objects.ProcessState.TheVariants.{Ready, Waiting}
use Rattle.hk_model.specs.Keeping.{run_names}
use Rattle.hk_queues.specs.Queued.{Queued}
use Rattle.hk_running.specs.Runners.{process_at, with_run}
use Rattle.hk_table.specs.Joined.{IsJoined}
use Rattle.hk_table.proofs.PartReads.{missing_is}
use Rattle.hk_table.proofs.QueueSteps.{run_joined, wake_move, woken_known, woken_within, woken_idle, woken_waiters}
use Rattle.hk_table.proofs.RunMoves.{woken_told, nobody_waits}
use Rattle.hk_table.proofs.Telling.{woken_waits, waiting_within, run_can, run_released}
use Rattle.hk_table.proofs.parts.Parts.wake.Goals as goal

pub returns-in_default : goal.returns-in_default
returns-in_default c = (
  rw (← c.self.view_is) (sym (missing_is c.self.inside.objects.slots c.self.inside.queues.waiting c.args.name (λ o. o.waiters) c.in_default.ensures.none)),
  refl,
)

pub release_name-requires : goal.release_name-requires
release_name-requires c =
    let waits : (process_at c.self.inside.processes c.in-Some-first_waiting.first.0).run ≡ Waiting c.args.name =
    woken_waits c.self.inside.objects.slots c.self.inside.queues c.self.inside.processes c.in-Some.slot.0 c.args.name c.in-Some-first_waiting.first
    c.self.invariant.joined.queued c.in-Some.ensures.found c.in-Some-first_waiting.ensures in
    run_can c.self.inside.objects c.self.inside.stacks.stacks c.self.inside.processes (with_run c.self.inside.processes c.in-Some-first_waiting.first Ready)
    c.self.inside.first_new c.self.inside.counts c.self.inside.counts c.in-Some-first_waiting.first Ready
    (waiting_within c.self.inside.processes c.in-Some-first_waiting.first.0 c.args.name waits) c.self.invariant.told refl (c.args.name ∷ []) (ap run_names waits) refl

pub ready-requires-clause-proc : goal.ready-requires-clause-proc
ready-requires-clause-proc c =
    let low : c.in-Some.slot.0 < length c.self.inside.queues.waiting = omega (arith, c.in-Some.ensures.low, c.self.invariant.joined.queued.lists) in
    let known : c.in-Some-first_waiting.first.0 < c.self.inside.queues.processes =
    woken_known c.self.inside.objects.slots c.self.inside.queues c.wake.new.self c.self.inside.processes c.in-Some-first_waiting.first c.in-Some.slot.0 c.in-Some.ensures.apart
    c.self.invariant.joined.queued low c.in-Some-first_waiting.ensures c.wake.ensures.rest in
    subst (λ (q : Queued). c.in-Some-first_waiting.first.0 < q.processes) (sym c.wake.ensures.rest) known

pub ready-requires-clause-idle : goal.ready-requires-clause-idle
ready-requires-clause-idle c =
    let low : c.in-Some.slot.0 < length c.self.inside.queues.waiting = omega (arith, c.in-Some.ensures.low, c.self.invariant.joined.queued.lists) in
    woken_idle c.self.inside.objects.slots c.self.inside.queues c.wake.new.self c.self.inside.processes c.in-Some-first_waiting.first c.in-Some.slot.0 c.in-Some.ensures.apart
    c.self.invariant.joined.queued low c.in-Some-first_waiting.ensures c.wake.ensures.rest

pub invariant_of-self : goal.invariant_of-self
invariant_of-self c =
    let low : c.in-Some.slot.0 < length c.self.inside.queues.waiting = omega (arith, c.in-Some.ensures.low, c.self.invariant.joined.queued.lists) in
    let waits : (process_at c.self.inside.processes c.in-Some-first_waiting.first.0).run ≡ Waiting c.args.name =
    woken_waits c.self.inside.objects.slots c.self.inside.queues c.self.inside.processes c.in-Some.slot.0 c.args.name c.in-Some-first_waiting.first
    c.self.invariant.joined.queued c.in-Some.ensures.found c.in-Some-first_waiting.ensures in
    record {
      joined = subst (λ (ps : List Process). IsJoined c.self.inside.objects c.ready.new.self ps c.self.inside.stacks c.self.inside.walker) (sym c.set_run.ensures)
          (run_joined c.self.inside.objects c.self.inside.queues c.ready.new.self c.self.inside.processes c.self.inside.stacks c.self.inside.walker
          c.in-Some-first_waiting.first Ready
          (woken_within c.self.inside.objects.slots c.self.inside.queues c.wake.new.self c.self.inside.processes c.in-Some-first_waiting.first c.in-Some.slot.0
          c.in-Some.ensures.apart
          c.self.invariant.joined.queued low c.in-Some-first_waiting.ensures c.wake.ensures.rest) c.self.invariant.joined
          (wake_move c.self.inside.objects.slots c.self.inside.queues c.wake.new.self c.self.inside.processes c.in-Some-first_waiting.first c.in-Some.slot.0 c.in-Some.ensures.apart
          c.self.invariant.joined.queued low c.in-Some-first_waiting.ensures c.wake.ensures.rest c.ready.new.self c.ready.ensures));
      told = run_released c.self.inside.objects c.self.inside.stacks.stacks c.self.inside.processes c.set_run.new.self c.self.inside.first_new c.self.inside.counts
          c.release_name.new.counts c.in-Some-first_waiting.first Ready
          (waiting_within c.self.inside.processes c.in-Some-first_waiting.first.0 c.args.name waits) c.self.invariant.told c.set_run.ensures (c.args.name ∷ [])
          (ap run_names waits) refl
          c.release_name.ensures;
    }

pub returns-in-Some-first_waiting : goal.returns-in-Some-first_waiting
returns-in-Some-first_waiting c =
    let low : c.in-Some.slot.0 < length c.self.inside.queues.waiting = omega (arith, c.in-Some.ensures.low, c.self.invariant.joined.queued.lists) in
    (woken_told c.self.inside.objects c.self.inside.queues c.self.inside.processes c.self.inside.stacks c.self.inside.first_new c.self.inside.events c.self.inside.limit
    c.args.self.now c.wake.new.self c.ready.new.self c.set_run.new.self c.in-Some-first_waiting.first c.in-Some.slot.0 c.args.name c.self.view_is c.in-Some.ensures.apart
    c.in-Some.ensures.found low
    (woken_waiters c.self.inside.objects.slots c.self.inside.queues c.wake.new.self c.self.inside.processes c.in-Some-first_waiting.first c.in-Some.slot.0 c.in-Some.ensures.apart
    c.self.invariant.joined.queued low c.in-Some-first_waiting.ensures c.wake.ensures.rest) c.wake.ensures.rest c.ready.ensures c.set_run.ensures)

pub returns-in-None : goal.returns-in-None
returns-in-None c = (
  rw (← c.self.view_is)
      (nobody_waits c.self.inside.objects c.self.inside.queues c.self.inside.processes c.self.inside.stacks c.self.inside.first_new c.self.inside.events c.self.inside.limit
      c.in-Some.slot.0 c.args.name c.in-Some.ensures.apart c.in-Some.ensures.found c.in-None.ensures),
  refl,
)
