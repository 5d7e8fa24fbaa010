use Rattle.std.proofs.Common.{◌≡◌, ◌-◌, ◌≤◌, ℕ, Some, List, length, sym, subst, ap, ◌∙◌, arith}
use Rattle.std.specs.Prelude.{slice_get}
use Rattle.hk_model.specs.declared.entries.Entry.{Entry}
use Rattle.hk_table.proofs.SlotWrites.{past_top}
use Rattle.hk_table.proofs.stacks.put_top.Goals as goal

pub returns-else-slot-slots : goal.returns-else-slot-slots
returns-else-slot-slots c =
    let here : slice_get c.args.stack.now (length c.args.stack.now - 1) ≡ Some c.frame.result.now =
    ap (λ (k : ℕ). slice_get c.args.stack.now (k - 1)) (sym c.depth-depth.ensures.value) ∙ c.frame.ensures in
    let past : length c.frame.result.now.space ≤ c.args.slot.0 =
    subst (λ (es : List Entry). length es ≤ c.args.slot.0) c.as_slice-slots.ensures.value (omega (arith, c.if-slot-slots.false, c.as_slice-slots.ensures.all)) in
    past_top c.args.stack.now c.args.slot.0 c.args.entry c.frame.result.now here past
