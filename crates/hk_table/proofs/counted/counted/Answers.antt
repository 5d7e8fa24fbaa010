use Rattle.std.proofs.Common.{◌≡◌, ◌<◌, ℕ, List, Some, sym, ap, subst, ◌∙◌}
use Rattle.hk_model.specs.declared.names.Name.{Name}
use Rattle.hk_objects.specs.Slots.{name_at}
use Rattle.hk_reclaim.specs.Tally.{Tally}
use Rattle.hk_spaces.specs.declared.stack.StackFrame.{StackFrame}
use Rattle.hk_table.specs.Held.{CanHold, Holds}
use Rattle.hk_table.specs.Settled.{all_names}
use Rattle.hk_table.specs.Told.{AreTold}
use Rattle.hk_table.proofs.OpenCounts.{nothing_counted, stacks_can, counted_told}
use Rattle.hk_table.proofs.counted.counted.Goals as goal

pub hold_objects-requires : goal.hold_objects-requires
hold_objects-requires c =
    nothing_counted c.args.objects.now.slots c.next_name-first_new.result c.in_ok-counts.counts c.next_name-first_new.ensures.room
    (subst (λ (m : Name). (k : ℕ) (n : Name) → name_at c.args.objects.now.slots k ≡ Some n → n.0 < m.0) (sym c.next_name-first_new.ensures.name)
    c.next_name-first_new.ensures.above) c.in_ok-counts.ensures

pub hold_stacks-requires : goal.hold_stacks-requires
hold_stacks-requires c =
    subst (λ (ss : List (List StackFrame)). CanHold c.args.objects.now.slots (all_names ss) c.hold_objects.new.counts) (sym c.as_slice.ensures.value)
    (stacks_can c.args.objects.now c.args.stacks.now.stacks c.next_name-first_new.ensures.room c.hold_objects.ensures.few c.requires c.hold_objects.new.counts
    c.hold_objects.ensures.held)

pub returns : goal.returns
returns c = λ ps low none.
    let f : Holds c.args.objects.now.slots (all_names c.args.stacks.now.stacks) c.hold_objects.new.counts c.hold_stacks.new.counts =
    subst (λ (ss : List (List StackFrame)). Holds c.args.objects.now.slots (all_names ss) c.hold_objects.new.counts c.hold_stacks.new.counts) c.as_slice.ensures.value
    c.hold_stacks.ensures in
    subst (λ (m : Name). AreTold c.args.objects.now c.args.stacks.now.stacks ps m c.hold_stacks.new.counts) c.next_name-first_new.ensures.name
    (counted_told c.args.objects.now c.args.stacks.now.stacks c.next_name-first_new.ensures.room c.hold_objects.ensures.few c.requires c.hold_objects.new.counts
    c.hold_stacks.new.counts c.next_name-first_new.result c.hold_objects.ensures.held
    (c.hold_objects.ensures.first ∙ ap (λ (t : Tally). t.first_new) c.in_ok-counts.ensures) f ps low none)
