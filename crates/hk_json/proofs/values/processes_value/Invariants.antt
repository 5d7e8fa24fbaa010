use Rattle.std.proofs.Common.{◌≡◌, map, take}
use Rattle.serde_json.specs.View.{view}
use Rattle.hk_format.specs.Names.{spoken}
use Rattle.hk_json.specs.Values.{task_value}
use Rattle.hk_json.proofs.values.processes_value.Given as goal

abbrev pub invariant-loop-process : goal.invariant-loop-process
invariant-loop-process l = map view l.values.items ≡ map (task_value (spoken l.world)) (take l.process-index l.process-items)
