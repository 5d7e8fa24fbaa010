-- The numbers follow the slots.
use Rattle.hk_plain.proofs.CountedParts.{slots_kept}
use Rattle.hk_plain.proofs.tables.Tables.put_incarnation.Goals as goal

pub invariant_of-self-2 : goal.invariant_of-self-2
invariant_of-self-2 c =
    slots_kept c.self.inside.incarnations.live c.put_back.new.self.live c.self.inside.processes c.self.inside.objects.entries c.self.inside.counts c.put_back.new.counts
    c.self.invariant c.in_ok-put_back.ensures.counted
