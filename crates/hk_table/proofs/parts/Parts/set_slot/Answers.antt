use Rattle.std.proofs.Common.{◌<◌, ◌∙◌, length, sym, subst, ap}
use Rattle.hk_model.specs.State.{State}
use Rattle.hk_model.specs.Keeping.{entry_names}
use Rattle.hk_table.specs.Stacked.{Stacked}
use Rattle.hk_table.proofs.SlotWrites.{past_slots}
use Rattle.hk_table.proofs.StackMoves.{slot_joined, slot_told}
use Rattle.hk_table.proofs.Telling.{can_hold_entry, slot_held, slot_can, slot_counted}
use Rattle.hk_table.proofs.parts.Parts.set_slot.Goals as goal

pub hold_entry-requires : goal.hold_entry-requires
hold_entry-requires c =
    can_hold_entry c.self.inside.objects c.self.inside.stacks.stacks c.self.inside.processes c.self.inside.first_new c.self.inside.counts c.args.entry c.self.invariant.told

pub release_entry-requires : goal.release_entry-requires
release_entry-requires c =
    slot_can c.self.inside.objects c.self.inside.stacks.stacks c.self.inside.processes c.self.inside.first_new c.hold_entry.new.counts c.args.proc.0 c.args.at
    c.args.entry c.in-Some.old c.in-Some.ensures.some.0 c.in-Some.ensures.some.1
    (slot_held c.self.inside.objects c.self.inside.stacks.stacks c.self.inside.processes c.self.inside.first_new c.self.inside.counts c.hold_entry.new.counts
    (entry_names c.args.entry) c.self.invariant.told c.hold_entry.ensures)

pub invariant_of-self : goal.invariant_of-self
invariant_of-self c = record {
  joined = slot_joined c.self.inside.objects c.self.inside.queues c.self.inside.processes c.self.inside.stacks c.set_top.new.self c.self.inside.walker c.args.proc c.args.at
      c.args.entry c.self.invariant.joined c.set_top.ensures.value;
  told = slot_counted c.self.inside.objects c.self.inside.stacks.stacks c.self.inside.processes c.self.inside.first_new c.hold_entry.new.counts c.args.proc.0
      c.args.at c.args.entry c.in-Some.old c.in-Some.ensures.some.0 c.in-Some.ensures.some.1
      (slot_held c.self.inside.objects c.self.inside.stacks.stacks c.self.inside.processes c.self.inside.first_new c.self.inside.counts c.hold_entry.new.counts
      (entry_names c.args.entry) c.self.invariant.told c.hold_entry.ensures)
      (c.hold_entry.ensures.0 ∙ c.self.invariant.told.begins) c.self.invariant.told.small c.release_entry.new.counts
      c.set_top.new.self.stacks c.release_entry.ensures (ap (λ (s : Stacked). s.stacks) c.set_top.ensures.value);
}

pub returns : goal.returns
returns c =
    let known : c.args.proc.0 < length c.self.inside.processes = subst (λ (s : State). c.args.proc.0 < length s.processes) (sym c.self.view_is) c.requires.proc in
    rw (← c.self.view_is)
    (slot_told c.self.inside.objects c.self.inside.queues c.self.inside.processes c.self.inside.stacks c.set_top.new.self c.self.inside.first_new c.self.inside.events
    c.self.inside.limit c.args.proc c.args.at c.args.entry c.set_top.ensures.numbered (c.self.invariant.joined.current c.args.proc.0 known) c.set_top.ensures.value)

pub returns-in_default : goal.returns-in_default
returns-in_default c =
    let known : c.args.proc.0 < length c.self.inside.processes = subst (λ (s : State). c.args.proc.0 < length s.processes) (sym c.self.view_is) c.requires.proc in
    let st : Stacked = c.self.inside.stacks in
    rw (← c.self.view_is)
    (slot_told c.self.inside.objects c.self.inside.queues c.self.inside.processes c.self.inside.stacks c.self.inside.stacks c.self.inside.first_new c.self.inside.events
    c.self.inside.limit c.args.proc c.args.at c.args.entry c.in_default.ensures.numbered (c.self.invariant.joined.current c.args.proc.0 known)
    (λ i. record st { stacks = past_slots st.stacks c.args.proc.0 c.args.at c.args.entry c.in_default.ensures.none i }))
