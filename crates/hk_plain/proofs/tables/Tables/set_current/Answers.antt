-- A process waits where it waited.
use Rattle.std.proofs.Common.{subst, sym, List}
use Rattle.hk_model.specs.declared.objects.Process.{Process}
use Rattle.hk_plain.specs.Counts.{AreCounted}
use Rattle.hk_plain.proofs.CountedParts.{counted_current}
use Rattle.hk_plain.proofs.tables.Tables.set_current.Goals as goal

pub invariant_of-self : goal.invariant_of-self
invariant_of-self c =
    subst (λ (ps : List Process). AreCounted c.self.inside.incarnations.live ps c.self.inside.objects.entries c.self.inside.counts) (sym c.set_current.ensures)
    (counted_current c.self.inside.incarnations.live c.self.inside.processes c.self.inside.objects.entries c.self.inside.counts c.args.proc.0 c.args.inc c.self.invariant)
