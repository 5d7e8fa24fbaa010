-- The numbers follow the objects.
use Rattle.std.proofs.Common.{◌++◌, ◌∷◌, []}
use Rattle.hk_plain.specs.Counts.{object_in}
use Rattle.hk_plain.proofs.CountedParts.{counted_entries}
use Rattle.hk_plain.proofs.tables.Tables.push_entry.Goals as goal

pub invariant_of-self-2 : goal.invariant_of-self-2
invariant_of-self-2 c =
    let o = object_in c.self.inside.objects.entries c.args.name in
    counted_entries c.self.inside.incarnations.live c.self.inside.processes c.self.inside.objects.entries c.push_entry.new.objects.entries c.self.inside.counts
    c.push_entry.new.counts c.args.name (record o { entries = o.entries ++ c.args.entry ∷ [] }) c.self.invariant c.in_ok-push_entry.ensures.ok c.in_ok-push_entry.ensures.counted
