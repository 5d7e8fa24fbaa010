use Rattle.std.proofs.Common.{◌≡◌, ◌++◌, take, string_bytes}
use Rattle.std.specs.List.{flat_map}
use Rattle.hk_undo.specs.StateTexts.{incarnation_lines}
use Rattle.hk_undo.proofs.processes.write_incarnations.Given as goal

-- the incarnations so far are written
abbrev pub invariant-loop-live : goal.invariant-loop-live
invariant-loop-live l = string_bytes l.out ≡ string_bytes l.initial.out ++ flat_map incarnation_lines (take l.live-index l.incarnations)
