use Rattle.std.proofs.Common.{◌-◌, length}
use Rattle.hk_table.proofs.QueueWalks.{IsRead}
use Rattle.hk_table.proofs.queued.ready_of.Given as goal

abbrev pub invariant-loop-next : goal.invariant-loop-next
invariant-loop-next l = IsRead l.queues.ready l.all.items l.next

abbrev pub decreases-loop-next : goal.decreases-loop-next
decreases-loop-next l = length l.queues.ready - length l.all.items
