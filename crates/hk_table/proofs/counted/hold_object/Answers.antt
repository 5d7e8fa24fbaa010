use Rattle.hk_table.proofs.OpenCounts.{type_can, entries_can, free_held, place_held}
use Rattle.hk_table.proofs.counted.hold_object.Goals as goal

pub hold_name_inside-requires : goal.hold_name_inside-requires
hold_name_inside-requires c = type_can c.args.objects.now.slots c.args.counts.now c.requires c.of.result

pub hold_entries_inside-requires : goal.hold_entries_inside-requires
hold_entries_inside-requires c =
    entries_can c.args.objects.now.slots c.args.counts.now c.requires c.of.result c.hold_name_inside.new.counts c.entries.result.now c.entries.ensures.few
    c.hold_name_inside.ensures

pub returns-in-None-clause-held : goal.returns-in-None-clause-held
returns-in-None-clause-held c = free_held c.args.objects.now.slots c.args.slot.0 c.args.counts.now c.in-None.ensures.name

pub returns-in-Some-clause-held : goal.returns-in-Some-clause-held
returns-in-Some-clause-held c =
    place_held c.args.objects.now.slots c.args.slot.0 c.in-Some._name c.args.counts.now c.hold_name_inside.new.counts c.hold_entries_inside.new.counts c.of.result
    c.entries.result.now c.in-Some.ensures.name c.of.ensures.of c.entries.ensures.entries c.hold_name_inside.ensures c.hold_entries_inside.ensures
