-- The numbers follow the slots.
use Rattle.hk_plain.proofs.CountedParts.{slots_kept}
use Rattle.hk_plain.proofs.tables.Tables.add_incarnation.Goals as goal

pub invariant_of-self-2 : goal.invariant_of-self-2
invariant_of-self-2 c =
    slots_kept c.self.inside.incarnations.live c.add.new.self.live c.self.inside.processes c.self.inside.objects.entries c.self.inside.counts c.add.new.counts c.self.invariant
    c.in_ok-add.ensures.counted
