use Rattle.std.proofs.Common.{◌≡◌, take, map}
use Rattle.hk_model.specs.declared.objects.Process.{Process}
use Rattle.hk_table.proofs.shows.all_runs.Given as goal

abbrev pub invariant-loop-process : goal.invariant-loop-process
invariant-loop-process l = l.all.items ≡ map (λ (p : Process). p.run) (take l.process-index l.processes)
