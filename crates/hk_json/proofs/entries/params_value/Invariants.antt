use Rattle.std.proofs.Common.{◌≡◌, map, take}
use Rattle.serde_json.specs.View.{view}
use Rattle.hk_format.specs.Names.{spoken}
use Rattle.hk_json.specs.Values.{param_value}
use Rattle.hk_json.proofs.entries.params_value.Given as goal

abbrev pub invariant-loop-param : goal.invariant-loop-param
invariant-loop-param l = map view l.values.items ≡ map (param_value (spoken l.world)) (take l.param-index l.params)
