use Rattle.std.proofs.Common.{arith, ap, ◌∙◌, Some}
use Rattle.std.proofs.lemmas.List.{get_or_read}
use Rattle.hk_model.specs.declared.entries.Entry.TheVariants.{Empty}
use Rattle.hk_reclaim.specs.Naming.{named}
use Rattle.hk_reclaim.proofs.Leaving.{type_takeable, type_off, entry_takeable, entry_off, all_off, off_size}
use Rattle.hk_reclaim.proofs.made.take_off_names.Goals as goal

pub take_off-requires : goal.take_off-requires
take_off-requires c = type_takeable _ _ c.args.slot.0 _ _ c.requires.stands c.of.ensures.of c.requires.left

pub loop-entry-init : goal.loop-entry-init
loop-entry-init c = record {
  left =
      type_off c.args.first_new c.args.objects.now.slots c.args.slot.0 c.of.result c.entries-entry-items.result.now c.args.left.now c.take_off.new.left
      c.of.ensures.apart c.requires.stands c.of.ensures.of c.entries-entry-items.ensures.entries c.take_off.ensures;
  size = off_size c.args.first_new c.args.objects.now.slots (Some c.of.result) c.args.left.now c.take_off.new.left c.take_off.ensures;
}

pub take_off-requires-in-loop-entry : goal.take_off-requires-in-loop-entry
take_off-requires-in-loop-entry c =
    entry_takeable _ _ _ c.entries-entry-items.result.now c.loop-entry.entry-index _ _ _ c.loop-entry-test.true
    (c.entry_name.ensures ∙ ap named (get_or_read c.entries-entry-items.result.now c.loop-entry.entry-index c.entry-item.result c.loop-entry-test.true c.entry-item.is Empty))
    c.requires.left c.loop-entry.invariant.left

pub loop-entry-preserved : goal.loop-entry-preserved
loop-entry-preserved c =
    let i = c.loop-entry.invariant in
    record {
      left =
          entry_off c.args.first_new c.args.objects.now.slots _ c.entries-entry-items.result.now c.loop-entry.entry-index c.entry_name.result c.args.left.now
          c.loop-entry.left c.take_off-in-loop-entry.new.left c.of.ensures.apart c.loop-entry-test.true
          (c.entry_name.ensures
          ∙ ap named (get_or_read c.entries-entry-items.result.now c.loop-entry.entry-index c.entry-item.result c.loop-entry-test.true c.entry-item.is Empty))
          c.take_off-in-loop-entry.ensures i.left;
      size =
          off_size c.args.first_new c.args.objects.now.slots c.entry_name.result c.loop-entry.left c.take_off-in-loop-entry.new.left
          c.take_off-in-loop-entry.ensures
          ∙ i.size;
    }

pub returns-clause-left : goal.returns-clause-left
returns-clause-left c = all_off _ _ _ c.entries-entry-items.result.now c.loop-entry.entry-index _ _ (omega arith) c.loop-entry.invariant.left
