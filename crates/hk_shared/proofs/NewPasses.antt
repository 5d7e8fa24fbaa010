-- Passes that have seen nothing show that their processors run nothing.
use Rattle.std.specs.Prelude.{◌≡◌, List, []}
use Rattle.hk_model.specs.declared.names.Cpu.{Cpu}
use Rattle.hk_model.specs.Opening.{opening}
use Rattle.hk_model.specs.Running.{opened}
use Rattle.hk_model.specs.WorldValue.{WorldValue}
use Rattle.hk_procs.specs.declared.notes.Noted.{Noted}
use Rattle.hk_procs.specs.Shown.{RunsNothing}
use Rattle.hk_shared.proofs.Placed.{no_runner}
use Rattle.hk_shared.proofs.PlacedAlways.{none_on}

opened_idle : (w : WorldValue) (cpu : Cpu) → RunsNothing w cpu []
unfolding opened opening
opened_idle w cpu = no_runner (opened w).state.processes cpu (λ i h. none_on 0 w.tasks i cpu h)

pub new_runs_nothing : (w : WorldValue) (cpu : Cpu) (notes : List Noted) → notes ≡ [] → RunsNothing w cpu notes
new_runs_nothing w cpu notes e = rw e (opened_idle w cpu)
