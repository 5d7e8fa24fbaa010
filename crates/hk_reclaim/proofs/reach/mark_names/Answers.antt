use Rattle.std.proofs.Common.{arith, ap, ◌∙◌, Some}
use Rattle.std.proofs.lemmas.List.{get_or_read}
use Rattle.hk_model.specs.declared.entries.Entry.TheVariants.{Empty}
use Rattle.hk_reclaim.specs.Naming.{named}
use Rattle.hk_reclaim.proofs.Reaching.{type_marked, entry_marked, all_marked, same_size}
use Rattle.hk_reclaim.proofs.reach.mark_names.Goals as goal

pub loop-entry-init : goal.loop-entry-init
loop-entry-init c = record {
  grows =
      type_marked c.args.first_new c.args.objects.now.slots c.args.slot.0 c.of.result c.entries-entry-items.result.now c.args.marks.now c.mark_name.new.marks
      c.of.ensures.apart c.requires.stands c.of.ensures.of c.entries-entry-items.ensures.entries c.mark_name.ensures;
  size = same_size c.args.first_new c.args.objects.now.slots (Some c.of.result) c.args.marks.now c.mark_name.new.marks c.mark_name.ensures;
}

pub loop-entry-preserved : goal.loop-entry-preserved
loop-entry-preserved c =
    let i = c.loop-entry.invariant in
    record {
      grows =
          entry_marked c.args.first_new c.args.objects.now.slots _ c.entries-entry-items.result.now c.loop-entry.entry-index c.entry_name.result c.args.marks.now
          c.loop-entry.marks c.mark_name-in-loop-entry.new.marks c.of.ensures.apart c.loop-entry-test.true
          (c.entry_name.ensures
          ∙ ap named (get_or_read c.entries-entry-items.result.now c.loop-entry.entry-index c.entry-item.result c.loop-entry-test.true c.entry-item.is Empty))
          c.mark_name-in-loop-entry.ensures i.grows;
      size =
          same_size c.args.first_new c.args.objects.now.slots c.entry_name.result c.loop-entry.marks c.mark_name-in-loop-entry.new.marks c.mark_name-in-loop-entry.ensures
          ∙ i.size;
    }

pub returns : goal.returns
returns c = all_marked _ _ _ c.entries-entry-items.result.now c.loop-entry.entry-index _ _ (omega arith) c.loop-entry.invariant.grows
