-- The numbers follow the objects.
use Rattle.std.proofs.Common.{◌-◌, length, take}
use Rattle.hk_plain.specs.Counts.{object_in}
use Rattle.hk_plain.proofs.CountedParts.{counted_entries}
use Rattle.hk_plain.proofs.tables.Tables.pop_entry.Goals as goal

pub invariant_of-self : goal.invariant_of-self
invariant_of-self c =
    let o = object_in c.self.inside.objects.entries c.args.name in
    counted_entries c.self.inside.incarnations.live c.self.inside.processes c.self.inside.objects.entries c.pop_entry.new.objects.entries c.self.inside.counts
    c.pop_entry.new.counts c.args.name (record o { entries = take (length o.entries - 1) o.entries }) c.self.invariant c.pop_entry.ensures.objects c.pop_entry.ensures.counted
