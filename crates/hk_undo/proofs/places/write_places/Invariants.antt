use Rattle.std.proofs.Common.{◌≡◌, ◌++◌, string_bytes}
use Rattle.std.specs.Prelude.{drop}
use Rattle.hk_undo.specs.StateTexts.{place_lines}
use Rattle.hk_undo.proofs.places.write_places.Given as goal

-- with the lines to come it is the whole text
abbrev pub invariant-loop-number : goal.invariant-loop-number
invariant-loop-number l =
    string_bytes l.out ++ place_lines l.word l.number (drop l.number l.entries) ≡ string_bytes l.initial.out ++ place_lines l.word 0 l.entries
