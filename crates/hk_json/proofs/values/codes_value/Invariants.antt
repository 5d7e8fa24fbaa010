use Rattle.std.proofs.Common.{◌≡◌, map, take}
use Rattle.serde_json.specs.View.{view}
use Rattle.hk_json.specs.Values.{code_value}
use Rattle.hk_json.proofs.values.codes_value.Given as goal

abbrev pub invariant-loop-code : goal.invariant-loop-code
invariant-loop-code l = map view l.values.items ≡ map code_value (take l.code-index l.code-items)
