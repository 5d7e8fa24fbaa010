use Rattle.std.proofs.Common.{drop}
use Rattle.std.specs.List.{flat_map}
use Rattle.hk_model.specs.Keeping.{entry_names}
use Rattle.hk_plain.specs.Marking.{Marking, AreMarked}
use Rattle.hk_plain.proofs.marks.Marks.mark_entries.Given as goal

-- marks on what the rest names are the marks on what all name
abbrev pub invariant-loop-entry : goal.invariant-loop-entry
invariant-loop-entry l =
    (final : Marking) → AreMarked (flat_map entry_names (drop l.entry-index l.entries)) l.self final → AreMarked (flat_map entry_names l.entries) l.initial.self final
