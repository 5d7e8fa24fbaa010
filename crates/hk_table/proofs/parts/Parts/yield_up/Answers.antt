use Rattle.std.proofs.Common.{◌≡◌, List, true, refl, sym, subst}
use Rattle.hk_model.specs.declared.objects.Process.{Process}
use Rattle.hk_model.specs.declared.objects.ProcessState.TheVariants.{Ready}
use Rattle.hk_model.specs.State.{State, process}
use Rattle.hk_model.specs.Processors.{is_running}
use Rattle.hk_running.specs.Runners.{process_at}
use Rattle.hk_table.specs.Joined.{IsJoined}
use Rattle.hk_table.proofs.QueueSteps.{idle_running, runs_within, run_joined, yield_move}
use Rattle.hk_table.proofs.Telling.{runs_unnamed, run_quiet}
use Rattle.hk_table.proofs.parts.Parts.yield_up.Goals as goal

pub invariant_of-self : goal.invariant_of-self
invariant_of-self c =
    let runs : is_running (process_at c.self.inside.processes c.args.proc.0).run ≡ true =
    subst (λ (s : State). is_running (process s c.args.proc).run ≡ true) (sym c.self.view_is) c.requires in
    record {
      joined = subst (λ (ps : List Process). IsJoined c.self.inside.objects c.ready.new.self ps c.self.inside.stacks c.self.inside.walker) (sym c.set_run.ensures)
          (run_joined c.self.inside.objects c.self.inside.queues c.ready.new.self c.self.inside.processes c.self.inside.stacks c.self.inside.walker c.args.proc Ready
          (runs_within c.self.inside.processes c.args.proc runs) c.self.invariant.joined
          (yield_move c.self.inside.objects.slots c.self.inside.queues c.ready.new.self c.self.inside.processes c.args.proc c.self.invariant.joined.queued
          (idle_running c.self.inside.objects.slots c.self.inside.queues c.self.inside.processes c.args.proc c.self.invariant.joined.queued runs) c.ready.ensures));
      told = run_quiet c.self.inside.objects c.self.inside.stacks.stacks c.self.inside.processes c.set_run.new.self c.self.inside.first_new c.self.inside.counts
          c.self.inside.counts c.args.proc Ready
          (runs_within c.self.inside.processes c.args.proc runs) c.self.invariant.told c.set_run.ensures refl
          (runs_unnamed (process_at c.self.inside.processes c.args.proc.0).run runs);
    }
