-- The numbers follow the processes that wait.
use Rattle.hk_plain.proofs.CountedParts.{runs_kept}
use Rattle.hk_plain.proofs.tables.Tables.start.Goals as goal

pub invariant_of-self : goal.invariant_of-self
invariant_of-self c =
    runs_kept c.self.inside.incarnations.live c.self.inside.processes c.start.new.processes c.self.inside.objects.entries c.self.inside.counts c.start.new.counts
    c.self.invariant c.start.ensures.counted
