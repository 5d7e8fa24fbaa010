use Rattle.hk_table.proofs.OpenCounts.{first_none, first_place, first_more, first_all, first_few}
use Rattle.hk_table.proofs.counted.hold_objects.Goals as goal

pub loop-slot-init : goal.loop-slot-init
loop-slot-init c = first_none c.args.objects.now.slots c.args.counts.now c.requires

pub hold_object-requires : goal.hold_object-requires
hold_object-requires c =
    first_place c.args.objects.now.slots c.next_name-next.ensures.room c.loop-slot.slot c.args.counts.now c.loop-slot.counts c.loop-slot-test.true c.loop-slot.invariant

pub loop-slot-preserved : goal.loop-slot-preserved
loop-slot-preserved c =
    first_more c.args.objects.now.slots c.next_name-next.ensures.room c.loop-slot.slot c.args.counts.now c.loop-slot.counts c.loop-slot-test.true c.loop-slot.invariant
    c.hold_object.new.counts c.hold_object.ensures.held c.hold_object.ensures.few

pub returns-clause-held : goal.returns-clause-held
returns-clause-held c =
    first_all c.args.objects.now.slots c.next_name-next.ensures.room c.loop-slot.slot c.args.counts.now c.loop-slot.counts c.loop-slot-test.false c.loop-slot.invariant

pub returns-clause-few : goal.returns-clause-few
returns-clause-few c =
    first_few c.args.objects.now.slots c.next_name-next.ensures.room c.loop-slot.slot c.args.counts.now c.loop-slot.counts c.loop-slot-test.false c.loop-slot.invariant

pub returns-clause-first : goal.returns-clause-first
returns-clause-first c = c.loop-slot.invariant.first
