use Rattle.std.proofs.Common.{[], take}
use Rattle.std.specs.List.{flat_map}
use Rattle.hk_model.specs.Keeping.{entry_names}
use Rattle.hk_plain.specs.Counts.{Moved}
use Rattle.hk_plain.proofs.counts.Counts.release_entries.Given as goal

abbrev pub invariant-loop-entry : goal.invariant-loop-entry
invariant-loop-entry l = Moved l.fn.self l.self [] (flat_map entry_names (take l.entry-index l.entries))
