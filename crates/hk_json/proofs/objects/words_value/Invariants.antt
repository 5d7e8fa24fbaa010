use Rattle.std.proofs.Common.{◌≡◌, map, take}
use Rattle.serde_json.specs.View.{view}
use Rattle.hk_json.specs.Values.{number_value}
use Rattle.hk_json.proofs.objects.words_value.Given as goal

abbrev pub invariant-loop-word : goal.invariant-loop-word
invariant-loop-word l = map view l.values.items ≡ map number_value (take l.word-index l.words)
