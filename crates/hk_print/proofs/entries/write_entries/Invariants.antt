use Rattle.std.proofs.Common.{◌≡◌, ◌++◌, take, string_bytes}
use Rattle.std.specs.List.{flat_map}
use Rattle.hk_format.specs.Names.{spoken}
use Rattle.hk_print.specs.ItemTexts.{entry_line}
use Rattle.hk_print.proofs.entries.write_entries.Given as goal

abbrev pub invariant-loop-entry : goal.invariant-loop-entry
invariant-loop-entry l = string_bytes l.out ≡ string_bytes l.initial.out ++ flat_map (entry_line (spoken l.world)) (take l.entry-index l.entries)
