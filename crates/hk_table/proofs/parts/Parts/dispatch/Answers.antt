use Rattle.std.proofs.Common.{◌≡◌, List, ap, refl, sym, subst}
use Rattle.hk_model.specs.declared.objects.Process.{Process}
use Rattle.hk_model.specs.declared.objects.ProcessState.TheVariants.{Ready, Running}
use Rattle.hk_model.specs.Keeping.{run_names}
use Rattle.hk_running.specs.Runners.{process_at}
use Rattle.hk_table.specs.Joined.{IsJoined}
use Rattle.hk_table.proofs.QueueMoves.{dispatched_joined}
use Rattle.hk_table.proofs.Telling.{run_quiet, ready_first, ready_within}
use Rattle.hk_table.proofs.parts.Parts.dispatch.Goals as goal

pub invariant_of-self-2 : goal.invariant_of-self-2
invariant_of-self-2 c =
    let was : (process_at c.self.inside.processes c.in_ok-first.first.0).run ≡ Ready =
    ready_first c.self.inside.objects.slots c.self.inside.queues c.self.inside.processes c.in_ok-first.first c.self.invariant.joined.queued c.in_ok-first.ensures.first in
    record {
      joined = subst (λ (ps : List Process). IsJoined c.self.inside.objects c.next_ready.new.self ps c.self.inside.stacks c.self.inside.walker) (sym c.start.ensures)
          (dispatched_joined c.self.inside.objects c.self.inside.queues c.next_ready.new.self c.self.inside.processes c.self.inside.stacks c.self.inside.walker c.in_ok-first.first
          c.args.cpu c.self.invariant.joined c.in_ok-first.ensures.first c.in_ok-first.ensures.rest);
      told = run_quiet c.self.inside.objects c.self.inside.stacks.stacks c.self.inside.processes c.start.new.self c.self.inside.first_new c.self.inside.counts
          c.self.inside.counts c.in_ok-first.first (Running c.args.cpu)
          (ready_within c.self.inside.processes c.in_ok-first.first.0 was) c.self.invariant.told c.start.ensures refl (ap run_names was);
    }
