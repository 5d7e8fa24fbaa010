use Rattle.std.proofs.Common.{◌≡◌, List, [], true, Some, None, refl, sym, subst}
use Rattle.std.specs.Prelude.{slice_index_or}
use Rattle.hk_model.specs.declared.objects.ProcessState.TheVariants.{Ended}
use Rattle.hk_model.specs.State.{State, process}
use Rattle.hk_model.specs.Processors.{is_running}
use Rattle.hk_running.specs.Runners.{process_at}
use Rattle.hk_model.specs.declared.objects.Process.{Process}
use Rattle.hk_table.specs.Joined.{IsJoined}
use Rattle.hk_table.specs.Stacked.{Stacked, slots_of, top_of}
use Rattle.hk_table.proofs.QueueSteps.{runs_within, idle_running, run_joined, stray_move}
use Rattle.hk_table.proofs.CallMoves.{back_joined, end_joined, back_told, end_told, stray_told}
use Rattle.hk_table.proofs.Telling.{can_release_top, popped_counted, current_counted, run_quiet, runs_unnamed}
use Rattle.hk_table.proofs.parts.Parts.go_back.Goals as goal

pub returns-in_default : goal.returns-in_default
returns-in_default c =
    let runs : is_running (process_at c.self.inside.processes c.args.proc.0).run ≡ true =
    subst (λ (s : State). is_running (process s c.args.proc).run ≡ true) (sym c.self.view_is) c.requires in
    let popped = c.in_default.ensures.popped in
    stray_told c.self.inside.objects c.self.inside.queues c.self.inside.processes c.set_run.new.self c.self.inside.stacks c.pop.new.self c.self.inside.first_new
    c.self.inside.events
    c.self.inside.limit c.args.self.now c.args.proc c.self.view_is (c.self.invariant.joined.current c.args.proc.0 (runs_within c.self.inside.processes c.args.proc runs))
    popped.0 popped.1
    c.in_default.ensures.next c.set_run.ensures

pub invariant_of-self : goal.invariant_of-self
invariant_of-self c =
    let runs : is_running (process_at c.self.inside.processes c.args.proc.0).run ≡ true =
    subst (λ (s : State). is_running (process s c.args.proc).run ≡ true) (sym c.self.view_is) c.requires in
    let p = c.in_default.ensures.popped in
    let n = c.in_default.ensures.next in
    let same : c.pop.new.self ≡ c.self.inside.stacks = λ i. record { stacks = p.1 i; next = n i } in
    record {
      joined = subst (λ (st : Stacked). IsJoined c.self.inside.objects c.self.inside.queues c.set_run.new.self st c.self.inside.walker) (sym same)
          (subst (λ (ps : List Process). IsJoined c.self.inside.objects c.self.inside.queues ps c.self.inside.stacks c.self.inside.walker) (sym c.set_run.ensures)
          (run_joined c.self.inside.objects c.self.inside.queues c.self.inside.queues c.self.inside.processes c.self.inside.stacks c.self.inside.walker c.args.proc Ended
          (runs_within c.self.inside.processes c.args.proc runs) c.self.invariant.joined
          (stray_move c.self.inside.objects.slots c.self.inside.queues c.self.inside.processes c.args.proc Ended c.self.invariant.joined.queued
          (idle_running c.self.inside.objects.slots c.self.inside.queues c.self.inside.processes c.args.proc c.self.invariant.joined.queued runs))));
      told = run_quiet c.self.inside.objects c.pop.new.self.stacks c.self.inside.processes c.set_run.new.self c.self.inside.first_new c.release_top.new.counts
          c.release_top.new.counts c.args.proc Ended (runs_within c.self.inside.processes c.args.proc runs)
          (popped_counted c.self.inside.objects c.self.inside.stacks.stacks c.pop.new.self.stacks c.self.inside.processes c.self.inside.first_new c.self.inside.counts
          c.release_top.new.counts c.args.proc.0 None (slots_of (top_of (slice_index_or c.self.inside.stacks.stacks c.args.proc.0 []))) c.self.invariant.told refl c.release_top.ensures
          c.in_default.ensures.popped) c.set_run.ensures refl
          (runs_unnamed (process_at c.self.inside.processes c.args.proc.0).run runs);
    }

pub release_top-requires : goal.release_top-requires
release_top-requires c =
    can_release_top c.self.inside.objects c.self.inside.stacks.stacks c.self.inside.processes c.self.inside.first_new c.self.inside.counts c.args.proc.0
    (slots_of (top_of (slice_index_or c.self.inside.stacks.stacks c.args.proc.0 []))) c.self.invariant.told refl

pub invariant_of-self-in-Some-top_number : goal.invariant_of-self-in-Some-top_number
invariant_of-self-in-Some-top_number c =
    let runs : is_running (process_at c.self.inside.processes c.args.proc.0).run ≡ true =
    subst (λ (s : State). is_running (process s c.args.proc).run ≡ true) (sym c.self.view_is) c.requires in
    let p = c.in-Some.ensures.popped in
    record {
      joined = back_joined c.self.inside.objects c.self.inside.queues c.self.inside.processes c.self.inside.stacks c.self.inside.walker c.args.proc
          (runs_within c.self.inside.processes c.args.proc runs) c.self.invariant.joined c.in-Some.ensures.numbered c.pop.new.self c.in-Some.ensures.next p.0 p.1 p.2 p.4
          c.set_current.new.self
          c.in-Some-top_number.caller c.in-Some-top_number.ensures c.set_current.ensures;
      told = current_counted c.self.inside.objects c.pop.new.self.stacks c.self.inside.processes c.set_current.new.self c.self.inside.first_new c.release_top.new.counts
          c.args.proc c.in-Some-top_number.caller (runs_within c.self.inside.processes c.args.proc runs)
          (popped_counted c.self.inside.objects c.self.inside.stacks.stacks c.pop.new.self.stacks c.self.inside.processes c.self.inside.first_new c.self.inside.counts
          c.release_top.new.counts c.args.proc.0 (Some c.in-Some.into) (slots_of (top_of (slice_index_or c.self.inside.stacks.stacks c.args.proc.0 []))) c.self.invariant.told refl c.release_top.ensures
          c.in-Some.ensures.popped) c.set_current.ensures;
    }

pub invariant_of-self-in-None : goal.invariant_of-self-in-None
invariant_of-self-in-None c =
    let runs : is_running (process_at c.self.inside.processes c.args.proc.0).run ≡ true =
    subst (λ (s : State). is_running (process s c.args.proc).run ≡ true) (sym c.self.view_is) c.requires in
    let p = c.in-Some.ensures.popped in
    record {
      joined = end_joined c.self.inside.objects c.self.inside.queues c.self.inside.processes c.self.inside.stacks c.self.inside.walker c.args.proc
          (runs_within c.self.inside.processes c.args.proc runs) c.self.invariant.joined c.in-Some.ensures.numbered c.pop.new.self c.in-Some.ensures.next p.0 p.1 p.2 p.4
          c.set_run-in-None.new.self
          runs c.in-None.ensures c.set_run-in-None.ensures;
      told = run_quiet c.self.inside.objects c.pop.new.self.stacks c.self.inside.processes c.set_run-in-None.new.self c.self.inside.first_new c.release_top.new.counts
          c.release_top.new.counts c.args.proc Ended (runs_within c.self.inside.processes c.args.proc runs)
          (popped_counted c.self.inside.objects c.self.inside.stacks.stacks c.pop.new.self.stacks c.self.inside.processes c.self.inside.first_new c.self.inside.counts
          c.release_top.new.counts c.args.proc.0 (Some c.in-Some.into) (slots_of (top_of (slice_index_or c.self.inside.stacks.stacks c.args.proc.0 []))) c.self.invariant.told refl c.release_top.ensures
          c.in-Some.ensures.popped) c.set_run-in-None.ensures refl
          (runs_unnamed (process_at c.self.inside.processes c.args.proc.0).run runs);
    }

pub returns-in-Some-top_number : goal.returns-in-Some-top_number
returns-in-Some-top_number c =
    let runs : is_running (process_at c.self.inside.processes c.args.proc.0).run ≡ true =
    subst (λ (s : State). is_running (process s c.args.proc).run ≡ true) (sym c.self.view_is) c.requires in
    let p = c.in-Some.ensures.popped in
    back_told c.self.inside.objects c.self.inside.queues c.self.inside.processes c.self.inside.stacks c.self.inside.walker c.args.proc
    (runs_within c.self.inside.processes c.args.proc runs) c.self.invariant.joined c.in-Some.ensures.numbered c.pop.new.self c.in-Some.ensures.next p.0 p.1 p.2 p.4
    c.self.inside.first_new
    c.self.inside.events c.self.inside.limit c.args.self.now c.self.view_is c.set_current.new.self c.in-Some-top_number.caller c.in-Some.into p.3 c.in-Some-top_number.ensures
    c.set_current.ensures

pub returns-in-None : goal.returns-in-None
returns-in-None c =
    let runs : is_running (process_at c.self.inside.processes c.args.proc.0).run ≡ true =
    subst (λ (s : State). is_running (process s c.args.proc).run ≡ true) (sym c.self.view_is) c.requires in
    let p = c.in-Some.ensures.popped in
    end_told c.self.inside.objects c.self.inside.queues c.self.inside.processes c.self.inside.stacks c.self.inside.walker c.args.proc
    (runs_within c.self.inside.processes c.args.proc runs) c.self.invariant.joined c.in-Some.ensures.numbered c.pop.new.self c.in-Some.ensures.next p.0 p.1 p.2 p.4
    c.self.inside.first_new
    c.self.inside.events c.self.inside.limit c.args.self.now c.self.view_is c.set_run-in-None.new.self c.in-None.ensures c.set_run-in-None.ensures
