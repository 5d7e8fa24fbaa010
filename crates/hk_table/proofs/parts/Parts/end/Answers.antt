use Rattle.std.proofs.Common.{◌≡◌, true, refl, ap, sym, subst}
use Rattle.hk_model.specs.declared.objects.ProcessState.TheVariants.{Ended}
use Rattle.hk_model.specs.State.{State, process}
use Rattle.hk_model.specs.Processors.{is_running}
use Rattle.hk_running.specs.Runners.{process_at}
use Rattle.hk_table.proofs.EndMoves.{ended_joined, ended_told}
use Rattle.hk_table.specs.Stacked.{Stacked}
use Rattle.hk_table.proofs.QueueSteps.{runs_within}
use Rattle.hk_table.proofs.Telling.{can_release_all, cleared_counted, run_quiet, runs_unnamed}
use Rattle.hk_table.proofs.parts.Parts.end.Goals as goal

pub release_frames-requires : goal.release_frames-requires
release_frames-requires c =
    can_release_all c.self.inside.objects c.self.inside.stacks.stacks c.self.inside.processes c.self.inside.first_new c.self.inside.counts c.args.proc.0 c.self.invariant.told

pub invariant_of-self : goal.invariant_of-self
invariant_of-self c =
    let runs : is_running (process_at c.self.inside.processes c.args.proc.0).run ≡ true =
    subst (λ (s : State). is_running (process s c.args.proc).run ≡ true) (sym c.self.view_is) c.requires in
    record {
      joined = ended_joined c.self.inside.objects c.self.inside.queues c.self.inside.processes c.set_run.new.self c.self.inside.stacks c.clear.new.self c.self.inside.walker
          c.args.proc runs
          c.self.invariant.joined c.clear.ensures.numbered c.clear.ensures.value c.set_run.ensures;
      told = run_quiet c.self.inside.objects c.clear.new.self.stacks c.self.inside.processes c.set_run.new.self c.self.inside.first_new c.release_frames.new.counts
          c.release_frames.new.counts c.args.proc Ended (runs_within c.self.inside.processes c.args.proc runs)
          (cleared_counted c.self.inside.objects c.self.inside.stacks.stacks c.self.inside.processes c.self.inside.first_new c.self.inside.counts c.args.proc.0
          c.self.invariant.told c.release_frames.new.counts c.clear.new.self.stacks
          c.release_frames.ensures (ap (λ (s : Stacked). s.stacks) c.clear.ensures.value)) c.set_run.ensures refl
          (runs_unnamed (process_at c.self.inside.processes c.args.proc.0).run runs);
    }

pub returns : goal.returns
returns c =
    rw (← c.self.view_is)
    (ended_told c.self.inside.objects c.self.inside.queues c.self.inside.processes c.set_run.new.self c.self.inside.stacks c.clear.new.self c.self.inside.first_new
    c.self.inside.events c.self.inside.limit c.args.proc c.clear.ensures.numbered c.clear.ensures.value c.set_run.ensures)
