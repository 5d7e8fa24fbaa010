-- Each processor has a place.
use Rattle.std.proofs.Common.{◌≡◌, ◌<◌, ℕ, subst, List}
use Rattle.hk_model.specs.declared.names.Cpu.{Cpu}
use Rattle.hk_model.specs.declared.objects.ProcessState.TheVariants.{Running}
use Rattle.hk_running.specs.Runners.{process_at}
use Rattle.hk_model.specs.declared.objects.Process.{Process}
use Rattle.hk_running.proofs.RunnerLemmas.{runs_below}
use Rattle.hk_running.proofs.processes.Processes.len.Goals as goal

pub returns-clause-placed : goal.returns-clause-placed
returns-clause-placed c =
    subst (λ (ps : List Process). (q : ℕ) → (cpu : Cpu) → (process_at ps q).run ≡ Running cpu → cpu.0 < 16) c.self.view_is
    (runs_below c.self.inside.all.items c.self.inside.places c.self.inside.live c.self.invariant c.count_places-places.ensures.many)
