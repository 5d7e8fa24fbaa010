use Rattle.std.proofs.Common.{◌≡◌, ◌++◌, take, string_bytes}
use Rattle.hk_undo.specs.StateTexts.{spaced}
use Rattle.hk_undo.proofs.places.write_spaced.Given as goal

-- the numbers so far are written
abbrev pub invariant-loop-number : goal.invariant-loop-number
invariant-loop-number l = string_bytes l.out ≡ string_bytes l.initial.out ++ spaced (take l.number-index l.numbers)
