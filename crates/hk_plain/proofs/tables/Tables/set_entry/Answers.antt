-- The numbers follow the objects.
use Rattle.std.specs.Prelude.{slice_set}
use Rattle.hk_plain.specs.Counts.{object_in}
use Rattle.hk_plain.proofs.CountedParts.{counted_entries}
use Rattle.hk_plain.proofs.tables.Tables.set_entry.Goals as goal

pub invariant_of-self : goal.invariant_of-self
invariant_of-self c =
    let o = object_in c.self.inside.objects.entries c.args.name in
    counted_entries c.self.inside.incarnations.live c.self.inside.processes c.self.inside.objects.entries c.set_entry.new.objects.entries c.self.inside.counts
    c.set_entry.new.counts c.args.name (record o { entries = slice_set o.entries c.args.at c.args.entry }) c.self.invariant c.set_entry.ensures.objects c.set_entry.ensures.counted
