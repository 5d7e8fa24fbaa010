use Rattle.std.proofs.Common.{◌<◌, List, length, sym, subst, ◌∙◌, ap}
use Rattle.std.specs.Prelude.{slice_index_or}
use Rattle.hk_model.specs.declared.entries.Entry.{Entry}
use Rattle.hk_model.specs.declared.entries.Entry.TheVariants.{Empty}
use Rattle.hk_model.specs.State.{State}
use Rattle.hk_table.proofs.WalkSteps.{slots_told}
use Rattle.hk_table.proofs.StackMoves.{slot_some, slot_none}
use Rattle.hk_table.proofs.parts.Parts.slot.Goals as goal

pub returns-in-Some : goal.returns-in-Some
returns-in-Some c =
    let known : c.args.proc.0 < length c.self.inside.processes = subst (λ (s : State). c.args.proc.0 < length s.processes) (sym c.self.view_is) c.requires in
    slot_some c.top_slots.result.now c.args.at c.in-Some.entry.now c.in-Some.ensures.lookup.3.0 c.in-Some.ensures.lookup.1
    ∙ ap (λ (es : List Entry). slice_index_or es c.args.at Empty) (rw (← c.self.view_is)
    (slots_told c.self.inside.objects c.self.inside.queues c.self.inside.processes c.self.inside.stacks c.self.inside.first_new c.self.inside.events c.self.inside.limit c.args.proc
    c.top_slots.result.now c.top_slots.ensures.numbered (c.self.invariant.joined.current c.args.proc.0 known) c.top_slots.ensures.value))

pub returns-in-None : goal.returns-in-None
returns-in-None c =
    let known : c.args.proc.0 < length c.self.inside.processes = subst (λ (s : State). c.args.proc.0 < length s.processes) (sym c.self.view_is) c.requires in
    slot_none c.top_slots.result.now c.args.at c.in-None.ensures.lookup.3
    ∙ ap (λ (es : List Entry). slice_index_or es c.args.at Empty) (rw (← c.self.view_is)
    (slots_told c.self.inside.objects c.self.inside.queues c.self.inside.processes c.self.inside.stacks c.self.inside.first_new c.self.inside.events c.self.inside.limit c.args.proc
    c.top_slots.result.now c.top_slots.ensures.numbered (c.self.invariant.joined.current c.args.proc.0 known) c.top_slots.ensures.value))
