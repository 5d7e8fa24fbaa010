use Rattle.std.proofs.Common.{arith}
use Rattle.std.proofs.lemmas.List.{get_or_read}
use Rattle.hk_model.specs.declared.entries.Entry.TheVariants.{Empty}
use Rattle.hk_table.specs.Held.{CanHold, HoldsInside}
use Rattle.hk_table.proofs.Stepping.{holding_inside, next_can, later_can, later_done, all_done}
use Rattle.hk_table.proofs.counting.hold_entries_inside.Goals as goal

pub loop-entry-init : goal.loop-entry-init
loop-entry-init c = record { can = c.requires; more = λ final done. done }

pub hold_entry_inside-requires : goal.hold_entry_inside-requires
hold_entry_inside-requires c = next_can (λ names t. CanHold c.args.objects.now.slots names t) (λ names t u. HoldsInside c.args.objects.now.slots names t u)
    (holding_inside c.args.objects.now.slots) c.args.entries.now c.loop-entry.entry-index c.entry-item.result c.loop-entry.counts c.loop-entry-test.true
    (get_or_read c.args.entries.now c.loop-entry.entry-index c.entry-item.result c.loop-entry-test.true c.entry-item.is Empty) c.loop-entry.invariant.can

pub loop-entry-preserved : goal.loop-entry-preserved
loop-entry-preserved c = record {
  can = later_can (λ names t. CanHold c.args.objects.now.slots names t) (λ names t u. HoldsInside c.args.objects.now.slots names t u) (holding_inside c.args.objects.now.slots)
      c.args.entries.now c.loop-entry.entry-index c.entry-item.result c.loop-entry.counts c.hold_entry_inside.new.counts c.loop-entry-test.true
      (get_or_read c.args.entries.now c.loop-entry.entry-index c.entry-item.result c.loop-entry-test.true c.entry-item.is Empty) c.hold_entry_inside.ensures
      c.loop-entry.invariant.can;
  more = λ final later. c.loop-entry.invariant.more final
      (later_done (λ names t. CanHold c.args.objects.now.slots names t) (λ names t u. HoldsInside c.args.objects.now.slots names t u) (holding_inside c.args.objects.now.slots)
      c.args.entries.now c.loop-entry.entry-index c.entry-item.result c.loop-entry.counts c.hold_entry_inside.new.counts final c.loop-entry-test.true
      (get_or_read c.args.entries.now c.loop-entry.entry-index c.entry-item.result c.loop-entry-test.true c.entry-item.is Empty) c.hold_entry_inside.ensures later);
}

pub returns : goal.returns
returns c = c.loop-entry.invariant.more c.loop-entry.counts (all_done (λ names t. CanHold c.args.objects.now.slots names t)
    (λ names t u. HoldsInside c.args.objects.now.slots names t u) (holding_inside c.args.objects.now.slots) c.args.entries.now c.loop-entry.entry-index c.loop-entry.counts
    (omega arith))
