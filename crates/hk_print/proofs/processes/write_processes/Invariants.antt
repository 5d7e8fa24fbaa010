use Rattle.std.proofs.Common.{◌≡◌, ◌++◌, take, string_bytes}
use Rattle.std.specs.List.{flat_map}
use Rattle.hk_model.specs.declared.world.Task.{Task}
use Rattle.hk_format.specs.Names.{spoken}
use Rattle.hk_format.specs.Canonical.{task_item}
use Rattle.hk_print.specs.ItemTexts.{item_text}
use Rattle.hk_print.proofs.processes.write_processes.Given as goal

abbrev pub invariant-loop-process : goal.invariant-loop-process
invariant-loop-process l =
    string_bytes l.out ≡ string_bytes l.initial.out ++ flat_map (λ (x : Task). item_text (task_item (spoken l.world) x)) (take l.process-index l.process-items)
