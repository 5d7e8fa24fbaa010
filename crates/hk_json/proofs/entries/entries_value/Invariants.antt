use Rattle.std.proofs.Common.{◌≡◌, map, take}
use Rattle.serde_json.specs.View.{view}
use Rattle.hk_format.specs.Names.{spoken}
use Rattle.hk_json.specs.Values.{entry_value}
use Rattle.hk_json.proofs.entries.entries_value.Given as goal

abbrev pub invariant-loop-entry : goal.invariant-loop-entry
invariant-loop-entry l = map view l.values.items ≡ map (entry_value (spoken l.world)) (take l.entry-index l.entries)
