use Rattle.std.proofs.Common.{◌≡◌, ◌≤◌, drop}
use Rattle.hk_objects.specs.Slots.{standing}
use Rattle.hk_table.specs.Whole.{whole}
use Rattle.hk_table.proofs.shown.all_objects.Given as goal

abbrev pub invariant-loop-slot : goal.invariant-loop-slot
invariant-loop-slot l = record { within : l.slot ≤ 65536; all : l.all.entries ≡ standing (drop l.slot (whole l.objects.slots l.queues.waiting)) }

abbrev pub decreases-loop-slot : goal.decreases-loop-slot
decreases-loop-slot l = l.slot
