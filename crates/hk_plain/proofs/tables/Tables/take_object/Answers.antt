-- The numbers follow the objects.
use Rattle.std.proofs.Common.{subst, sym, List}
use Rattle.hk_model.specs.declared.names.Name.{Name}
use Rattle.hk_model.specs.declared.objects.Object.{Object}
use Rattle.hk_plain.specs.Counts.{AreCounted, Moved, inner_names}
use Rattle.hk_plain.proofs.CountedParts.{counted_removed}
use Rattle.hk_plain.proofs.tables.Tables.take_object.Goals as goal

pub invariant_of-self : goal.invariant_of-self
invariant_of-self c =
    subst (λ (es : List (Name × Object)). AreCounted c.self.inside.incarnations.live c.self.inside.processes es c.take_out.new.counts) (sym c.take_out.ensures.objects)
    (counted_removed c.self.inside.incarnations.live c.self.inside.processes c.self.inside.objects.entries c.self.inside.counts c.take_out.new.counts c.args.name c.self.invariant
    (subst (λ (es : List (Name × Object)). Moved c.self.inside.counts c.take_out.new.counts (inner_names es) (inner_names c.self.inside.objects.entries)) c.take_out.ensures.objects
    c.take_out.ensures.counted))
