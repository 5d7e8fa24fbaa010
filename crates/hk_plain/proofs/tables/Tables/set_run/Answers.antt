-- The numbers follow the processes that wait.
use Rattle.hk_plain.proofs.CountedParts.{runs_kept}
use Rattle.hk_plain.proofs.tables.Tables.set_run.Goals as goal

pub invariant_of-self : goal.invariant_of-self
invariant_of-self c =
    runs_kept c.self.inside.incarnations.live c.self.inside.processes c.set_run.new.processes c.self.inside.objects.entries c.self.inside.counts c.set_run.new.counts
    c.self.invariant
    c.set_run.ensures.counted
