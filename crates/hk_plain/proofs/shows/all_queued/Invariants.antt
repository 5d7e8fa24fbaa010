use Rattle.std.proofs.Common.{◌≡◌, take}
use Rattle.hk_plain.proofs.shows.all_queued.Given as goal

abbrev pub invariant-loop-i : goal.invariant-loop-i
invariant-loop-i l = l.all.items ≡ take l.i l.queue.items
