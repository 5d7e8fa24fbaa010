use Rattle.std.proofs.Common.{◌≡◌, map, take}
use Rattle.serde_json.specs.View.{view}
use Rattle.hk_json.specs.Scripts.{word_said}
use Rattle.hk_json.proofs.script.words_said.Given as goal

abbrev pub invariant-loop-value : goal.invariant-loop-value
invariant-loop-value l = l.words.items ≡ map word_said (map view (take l.value-index l.values))
