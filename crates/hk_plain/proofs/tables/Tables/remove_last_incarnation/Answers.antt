-- The numbers follow the slots.
use Rattle.hk_plain.proofs.CountedParts.{slots_kept}
use Rattle.hk_plain.proofs.tables.Tables.remove_last_incarnation.Goals as goal

pub invariant_of-self : goal.invariant_of-self
invariant_of-self c =
    slots_kept c.self.inside.incarnations.live c.remove_last.new.self.live c.self.inside.processes c.self.inside.objects.entries c.self.inside.counts c.remove_last.new.counts
    c.self.invariant c.remove_last.ensures.counted
