use Rattle.std.proofs.Common.{◌≡◌, ◌<◌, List, [], ◌∷◌, true, length, refl, sym, subst, arith}
use Rattle.hk_model.specs.declared.objects.Process.{Process}
use Rattle.hk_model.specs.declared.objects.ProcessState.TheVariants.{Waiting}
use Rattle.hk_model.specs.declared.entries.Entry.TheVariants.{Held}
use Rattle.hk_model.specs.State.{State, process}
use Rattle.hk_model.specs.Processors.{is_running}
use Rattle.hk_queues.specs.Queued.{IsIdle}
use Rattle.hk_running.specs.Runners.{process_at}
use Rattle.hk_table.specs.Joined.{IsJoined}
use Rattle.hk_table.proofs.QueueSteps.{idle_running, runs_within, run_joined, wait_move, stray_move}
use Rattle.hk_table.proofs.RunMoves.{wait_told, missing_wait}
use Rattle.hk_table.proofs.Holding.{nowhere_holds}
use Rattle.hk_table.proofs.Telling.{can_hold_entry, runs_unnamed, run_held}
use Rattle.hk_table.proofs.parts.Parts.wait.Goals as goal

pub hold_name-requires : goal.hold_name-requires
hold_name-requires c =
    can_hold_entry c.self.inside.objects c.self.inside.stacks.stacks c.self.inside.processes c.self.inside.first_new c.self.inside.counts
    (Held (record { name = c.args.name; rights = 0 })) c.self.invariant.told

pub invariant_of-self : goal.invariant_of-self
invariant_of-self c =
    let runs : is_running (process_at c.self.inside.processes c.args.proc.0).run ≡ true =
    subst (λ (s : State). is_running (process s c.args.proc).run ≡ true) (sym c.self.view_is) c.requires in
    record {
      joined = let idle : IsIdle c.self.inside.queues c.args.proc = idle_running c.self.inside.objects.slots c.self.inside.queues c.self.inside.processes c.args.proc
          c.self.invariant.joined.queued runs in
          let low : c.in-Some.slot.0 < length c.self.inside.queues.waiting = omega (arith, c.in-Some.ensures.low, c.self.invariant.joined.queued.lists) in
          subst (λ (ps : List Process). IsJoined c.self.inside.objects c.wait.new.self ps c.self.inside.stacks c.self.inside.walker) (sym c.set_run.ensures)
          (run_joined c.self.inside.objects c.self.inside.queues c.wait.new.self c.self.inside.processes c.self.inside.stacks c.self.inside.walker c.args.proc (Waiting c.args.name)
          (runs_within c.self.inside.processes c.args.proc runs) c.self.invariant.joined
          (wait_move c.self.inside.objects.slots c.self.inside.queues c.wait.new.self c.self.inside.processes c.args.proc c.in-Some.slot.0 c.args.name
          c.self.invariant.joined.queued idle low
          c.in-Some.ensures.found c.wait.ensures));
      told = run_held c.self.inside.objects c.self.inside.stacks.stacks c.self.inside.processes c.set_run.new.self c.self.inside.first_new c.self.inside.counts
          c.hold_name.new.counts c.args.proc (Waiting c.args.name)
          (runs_within c.self.inside.processes c.args.proc runs) c.self.invariant.told c.set_run.ensures (c.args.name ∷ [])
          (runs_unnamed (process_at c.self.inside.processes c.args.proc.0).run runs) refl
          c.hold_name.ensures;
    }

pub invariant_of-self-in-None : goal.invariant_of-self-in-None
invariant_of-self-in-None c =
    let runs : is_running (process_at c.self.inside.processes c.args.proc.0).run ≡ true =
    subst (λ (s : State). is_running (process s c.args.proc).run ≡ true) (sym c.self.view_is) c.requires in
    record {
      joined = let idle : IsIdle c.self.inside.queues c.args.proc = idle_running c.self.inside.objects.slots c.self.inside.queues c.self.inside.processes c.args.proc
          c.self.invariant.joined.queued runs in
          subst (λ (ps : List Process). IsJoined c.self.inside.objects c.self.inside.queues ps c.self.inside.stacks c.self.inside.walker) (sym c.set_run-in-None.ensures)
          (run_joined c.self.inside.objects c.self.inside.queues c.self.inside.queues c.self.inside.processes c.self.inside.stacks c.self.inside.walker c.args.proc
          (Waiting c.args.name)
          (runs_within c.self.inside.processes c.args.proc runs) c.self.invariant.joined
          (stray_move c.self.inside.objects.slots c.self.inside.queues c.self.inside.processes c.args.proc (Waiting c.args.name) c.self.invariant.joined.queued idle));
      told = run_held c.self.inside.objects c.self.inside.stacks.stacks c.self.inside.processes c.set_run-in-None.new.self c.self.inside.first_new c.self.inside.counts
          c.self.inside.counts c.args.proc (Waiting c.args.name)
          (runs_within c.self.inside.processes c.args.proc runs) c.self.invariant.told c.set_run-in-None.ensures (c.args.name ∷ [])
          (runs_unnamed (process_at c.self.inside.processes c.args.proc.0).run runs) refl
          (nowhere_holds c.self.inside.objects.slots c.self.inside.counts c.args.name c.in-None.ensures.none);
    }

pub returns-in-Some : goal.returns-in-Some
returns-in-Some c =
    let low : c.in-Some.slot.0 < length c.self.inside.queues.waiting = omega (arith, c.in-Some.ensures.low, c.self.invariant.joined.queued.lists) in
    rw (← c.self.view_is)
    (wait_told c.self.inside.objects c.self.inside.queues c.self.inside.processes c.self.inside.stacks c.self.inside.first_new c.self.inside.events c.self.inside.limit
    c.wait.new.self c.set_run.new.self c.args.proc c.in-Some.slot.0 c.args.name c.in-Some.ensures.apart c.in-Some.ensures.found low c.wait.ensures c.set_run.ensures)

pub returns-in-None : goal.returns-in-None
returns-in-None c =
    rw (← c.self.view_is)
    (missing_wait c.self.inside.objects c.self.inside.queues c.self.inside.processes c.self.inside.stacks c.self.inside.first_new c.self.inside.events c.self.inside.limit
    c.set_run-in-None.new.self c.args.proc c.args.name _ c.in-None.ensures.none c.set_run-in-None.ensures)
