use Rattle.std.proofs.Common.{◌≡◌, drop}
use Rattle.std.specs.List.{flat_map}
use Rattle.hk_model.specs.declared.objects.Process.{Process}
use Rattle.hk_model.specs.Keeping.{run_names, is_among}
use Rattle.hk_plain.proofs.keeping.some_process_names.Given as goal

abbrev pub invariant-loop-process : goal.invariant-loop-process
invariant-loop-process l =
    is_among l.name (flat_map (λ (p : Process). run_names p.run) (drop l.process-index l.processes)) ≡ is_among l.name (flat_map (λ (p : Process). run_names p.run) l.processes)
