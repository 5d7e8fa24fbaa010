use Rattle.std.proofs.Common.{arith, ap, ◌∙◌}
use Rattle.std.proofs.lemmas.List.{get_or_read}
use Rattle.hk_model.specs.declared.entries.Entry.TheVariants.{Empty}
use Rattle.hk_reclaim.specs.Naming.{named}
use Rattle.hk_reclaim.proofs.Releasing.{type_releasable, type_released, entry_releasable, entry_released, all_released}
use Rattle.hk_reclaim.proofs.numbers.Numbers.release_names.Goals as goal

pub release_name-requires : goal.release_name-requires
release_name-requires c = type_releasable _ c.args.slot.0 _ _ c.requires.stands c.of.ensures.of c.requires.counted

pub loop-entry-init : goal.loop-entry-init
loop-entry-init c =
    let r = type_released c.args.objects.now.slots c.args.slot.0 c.of.result c.entries-entry-items.result.now c.args.self.now c.release_name.new.self c.of.ensures.apart
    c.requires.stands c.of.ensures.of c.entries-entry-items.ensures.entries c.release_name.ensures in
    record { counted = r.0; outside = r.1 }

pub release_name-requires-in-loop-entry : goal.release_name-requires-in-loop-entry
release_name-requires-in-loop-entry c =
    entry_releasable _ _ c.entries-entry-items.result.now c.loop-entry.entry-index _ _ _ c.loop-entry-test.true
    (c.entry_name.ensures ∙ ap named (get_or_read c.entries-entry-items.result.now c.loop-entry.entry-index c.entry-item.result c.loop-entry-test.true c.entry-item.is Empty))
    c.requires.counted c.loop-entry.invariant.counted

pub loop-entry-preserved : goal.loop-entry-preserved
loop-entry-preserved c =
    let i = c.loop-entry.invariant in
    let r = entry_released c.args.objects.now.slots _ c.entries-entry-items.result.now c.loop-entry.entry-index c.entry_name.result c.args.self.now c.loop-entry.self
    c.release_name-in-loop-entry.new.self c.of.ensures.apart c.loop-entry-test.true
    (c.entry_name.ensures ∙ ap named (get_or_read c.entries-entry-items.result.now c.loop-entry.entry-index c.entry-item.result c.loop-entry-test.true c.entry-item.is Empty))
    c.release_name-in-loop-entry.ensures i.outside i.counted in
    record { counted = r.0; outside = r.1 }

pub returns-clause-counted : goal.returns-clause-counted
returns-clause-counted c =
    all_released _ _ c.entries-entry-items.result.now c.loop-entry.entry-index _ _ (omega arith) c.loop-entry.invariant.counted
