use Rattle.std.proofs.Common.{◌+◌, length}
use Rattle.hk_plain.specs.Marking.{AreUnderway}
use Rattle.hk_plain.proofs.tables.Tables.mark_onward.Given as goal

abbrev pub invariant-loop-name : goal.invariant-loop-name
invariant-loop-name l = AreUnderway l.self l.marks

-- a mark takes one from the first number twice and adds one to the second
abbrev pub decreases-loop-name : goal.decreases-loop-name
decreases-loop-name l = length l.marks.unmarked + length l.marks.unmarked + length l.marks.todo
