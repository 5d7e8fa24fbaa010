use Rattle.std.proofs.Common.{◌≡◌, ◌++◌, map, take, string_bytes}
use Rattle.std.specs.List.{flat_map}
use Rattle.serde_json.specs.Data.{Data}
use Rattle.serde_json.specs.View.{view}
use Rattle.hk_print.specs.ItemTexts.{body_text}
use Rattle.hk_json.specs.Scripts.{entry_said}
use Rattle.hk_json.proofs.lines.write_entries.Given as goal

abbrev pub invariant-loop-entry : goal.invariant-loop-entry
invariant-loop-entry l = string_bytes l.out ≡ string_bytes l.initial.out ++ flat_map (λ (d : Data). body_text (entry_said d)) (map view (take l.entry-index l.entries))
