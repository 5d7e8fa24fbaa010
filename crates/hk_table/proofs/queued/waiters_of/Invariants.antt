use Rattle.std.proofs.Common.{◌-◌, length}
use Rattle.hk_queues.specs.Queued.{waiters}
use Rattle.hk_table.proofs.QueueWalks.{IsRead}
use Rattle.hk_table.proofs.queued.waiters_of.Given as goal

abbrev pub invariant-loop-next : goal.invariant-loop-next
invariant-loop-next l = IsRead (waiters l.queues l.slot) l.all.items l.next

abbrev pub decreases-loop-next : goal.decreases-loop-next
decreases-loop-next l = length (waiters l.queues l.slot) - length l.all.items
