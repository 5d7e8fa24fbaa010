use Rattle.std.proofs.Common.{◌≡◌, ◌++◌, string_bytes}
use Rattle.std.specs.Prelude.{drop}
use Rattle.hk_undo.specs.StateTexts.{process_lines}
use Rattle.hk_undo.proofs.processes.write_processes.Given as goal

-- with the lines to come it is the whole text
abbrev pub invariant-loop-number : goal.invariant-loop-number
invariant-loop-number l =
    string_bytes l.out ++ process_lines l.number-counter (drop l.number-counter l.runs) ≡ string_bytes l.initial.out ++ process_lines 0 l.runs
