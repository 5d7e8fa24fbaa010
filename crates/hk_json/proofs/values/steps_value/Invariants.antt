use Rattle.std.proofs.Common.{◌≡◌, map, take}
use Rattle.serde_json.specs.View.{view}
use Rattle.hk_json.specs.Values.{step_value}
use Rattle.hk_json.proofs.values.steps_value.Given as goal

abbrev pub invariant-loop-step : goal.invariant-loop-step
invariant-loop-step l = map view l.values.items ≡ map step_value (take l.step-index l.steps)
