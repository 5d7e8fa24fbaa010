use Rattle.std.proofs.Common.{◌≡◌, ◌++◌}
use Rattle.std.specs.Prelude.{drop}
use Rattle.hk_trace.specs.Writings.{held_slots}
use Rattle.hk_trace.proofs.standing.held_slots.Given as goal

abbrev pub invariant-loop-slot : goal.invariant-loop-slot
invariant-loop-slot l = l.all.items ++ held_slots l.kernel l.fn.inc (drop l.slot-index l.slots) ≡ held_slots l.kernel l.fn.inc l.slots
