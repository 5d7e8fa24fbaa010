-- The numbers follow the slots.
use Rattle.hk_plain.proofs.CountedParts.{slots_kept}
use Rattle.hk_plain.proofs.tables.Tables.set_slot.Goals as goal

pub invariant_of-self : goal.invariant_of-self
invariant_of-self c =
    slots_kept c.self.inside.incarnations.live c.set_slot.new.self.live c.self.inside.processes c.self.inside.objects.entries c.self.inside.counts c.set_slot.new.counts
    c.self.invariant c.set_slot.ensures.counted
