use Rattle.std.proofs.Common.{◌≡◌, List, length, refl, subst}
use Rattle.std.specs.Prelude.{Some, slice_get}
use Rattle.std.proofs.lemmas.Option.{slice_get_read}
use Rattle.hk_model.specs.declared.entries.Entry.{Entry}
use Rattle.hk_bound.specs.Each.{Each}
use Rattle.hk_bound.specs.Rules.{SlotRule}
use Rattle.hk_bound.proofs.FindsLemmas.{finds_item, finds_end, finds_more}
use Rattle.hk_bound.proofs.TaskSlots.{opens_from}
use Rattle.hk_bound.proofs.gaps.Table.opening_gaps.Goals as goal

pub slot_gap-requires-clause-opens : goal.slot_gap-requires-clause-opens
slot_gap-requires-clause-opens c =
    opens_from c.args.self.now.world.now c.args.process c.loop-entry.entry-index c.args.task.now c.entry-item.result c.requires.task
    (subst (λ (es : List Entry). slice_get es c.loop-entry.entry-index ≡ Some c.entry-item.result) c.as_slice-entry-items.ensures.value
    (slice_get_read c.as_slice-entry-items.result.now (length c.as_slice-entry-items.result.now) c.loop-entry.entry-index c.entry-item.result refl
    c.loop-entry-test.true c.entry-item.is))

pub loop-entry-preserved : goal.loop-entry-preserved
loop-entry-preserved c =
    let w = c.args.self.now.world.now in
    let forms = c.args.self.now.forms.now in
    let rows = c.args.self.now.rows.now in
    finds_item w forms rows (SlotRule w forms rows c.args.process) c.as_slice-entry-items.result.now c.loop-entry.entry-index c.entry-item.result c.args.gaps.now.items
    c.loop-entry.gaps.items c.slot_gap.new.gaps.items
    (slice_get_read c.as_slice-entry-items.result.now (length c.as_slice-entry-items.result.now) c.loop-entry.entry-index c.entry-item.result refl
    c.loop-entry-test.true c.entry-item.is)
    c.loop-entry.invariant (c.in_ok-slot_gap.ensures {u = tt})

pub returns : goal.returns
returns c =
    let w = c.args.self.now.world.now in
    let forms = c.args.self.now.forms.now in
    let rows = c.args.self.now.rows.now in
    finds_more w forms rows (Each (SlotRule w forms rows c.args.process) c.as_slice-entry-items.result.now) (Each (SlotRule w forms rows c.args.process) c.args.task.now.slots)
    c.args.gaps.now.items c.loop-entry.gaps.items
    (λ all. subst (λ (es : List Entry). Each (SlotRule w forms rows c.args.process) es) c.as_slice-entry-items.ensures.value all)
    (finds_end w forms rows (SlotRule w forms rows c.args.process) c.as_slice-entry-items.result.now c.loop-entry.entry-index c.args.gaps.now.items c.loop-entry.gaps.items
    c.loop-entry-test.false c.loop-entry.invariant)
