use Rattle.std.proofs.Common.{◌≡◌, drop}
use Rattle.std.specs.List.{flat_map}
use Rattle.hk_model.specs.Keeping.{entry_names, is_among}
use Rattle.hk_plain.proofs.keeping.some_entry_names.Given as goal

-- the entries that are left name what all do
abbrev pub invariant-loop-entry : goal.invariant-loop-entry
invariant-loop-entry l = is_among l.name (flat_map entry_names (drop l.entry-index l.entries)) ≡ is_among l.name (flat_map entry_names l.entries)
