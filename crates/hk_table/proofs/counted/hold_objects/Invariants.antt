use Rattle.hk_table.proofs.OpenCounts.{AreFirstHeld}
use Rattle.hk_table.proofs.counted.hold_objects.Given as goal

abbrev pub invariant-loop-slot : goal.invariant-loop-slot
invariant-loop-slot l = AreFirstHeld l.objects.slots l.slot l.fn.counts l.counts
