use Rattle.std.proofs.Common.{◌≡◌, ◌≤◌, ◌<◌, ◌∙◌, ℕ, List, [], ◌∷◌, length, Some, true, sym, subst, arith, ap}
use Rattle.hk_model.specs.declared.names.Name.{Name}
use Rattle.hk_model.specs.declared.entries.Entry.{Entry}
use Rattle.hk_model.specs.declared.entries.Entry.TheVariants.{Held}
use Rattle.hk_model.specs.State.{State, process, put_slot}
use Rattle.hk_model.specs.Rule.{has_room, add_beside, plain_object}
use Rattle.hk_objects.specs.Shelf.{Shelf, new_body}
use Rattle.hk_objects.specs.Slots.{name_at}
use Rattle.hk_reclaim.specs.Tally.{owing}
use Rattle.hk_reclaim.specs.Naming.{named_in, namings}
use Rattle.hk_table.specs.Held.{AreHeld, CanHold, CanRelease, HoldsInside, Releases}
use Rattle.hk_table.specs.Settled.{outside_namings}
use Rattle.hk_table.specs.Stacked.{Stacked}
use Rattle.hk_table.specs.Told.{AllNamedStand}
use Rattle.hk_table.proofs.Makings.{has_place, made_joined, made_told}
use Rattle.hk_table.proofs.MadeObjects.{making, made_range, made_few, made_can, made_can_more, made_stands, made_read, made_all, made_begins, made_small, made_lost_can, made_lost}
use Rattle.hk_table.proofs.Opens.{told}
use Rattle.hk_table.proofs.SlotWrites.{past_slots}
use Rattle.hk_table.proofs.StackMoves.{slot_joined, slot_told}
use Rattle.hk_table.proofs.Telling.{slot_can, slot_counted}
use Rattle.hk_table.proofs.parts.Parts.make.Goals as goal

pub make-slot-requires-clause-room : goal.make-slot-requires-clause-room
make-slot-requires-clause-room c =
    has_place c.self.inside.objects.slots c.self.inside.queues.waiting (subst (λ (s : State). has_room s.objects ≡ true) (sym c.self.view_is) c.requires.room)

pub hold_outside-requires-clause-in_range : goal.hold_outside-requires-clause-in_range
hold_outside-requires-clause-in_range c =
    let few : length c.args.new.entries ≤ 256 = subst (λ (es : List Entry). length es ≤ 256) c.as_slice-few.ensures.value c.as_slice-few.ensures.few in
    let named : AllNamedStand (told c.self.inside.objects c.self.inside.queues c.self.inside.processes c.self.inside.stacks c.self.inside.first_new c.self.inside.events
    c.self.inside.limit) = subst (λ (s : State). AllNamedStand s) (sym c.self.view_is) c.requires.named in
    let m = making c.self.inside.objects c.self.inside.queues c.self.inside.processes c.self.inside.stacks c.self.inside.first_new c.self.inside.events c.self.inside.limit
    c.self.inside.counts c.make-slot.result.0 c.args.new.entries c.as_slice-stacks.ensures.numbered c.self.invariant.told c.make-slot.ensures.apart c.make-slot.ensures.above
    c.make-slot.ensures.slot
    c.make-slot.ensures.free few named in
    made_range c.self.inside.objects c.self.inside.stacks.stacks c.self.inside.processes c.self.inside.first_new c.self.inside.counts c.make-slot.result.0
    c.self.inside.objects.next c.args.new.of c.args.new.words c.args.new.entries m

pub hold_outside-requires-clause-few : goal.hold_outside-requires-clause-few
hold_outside-requires-clause-few c =
    let few : length c.args.new.entries ≤ 256 = subst (λ (es : List Entry). length es ≤ 256) c.as_slice-few.ensures.value c.as_slice-few.ensures.few in
    let named : AllNamedStand (told c.self.inside.objects c.self.inside.queues c.self.inside.processes c.self.inside.stacks c.self.inside.first_new c.self.inside.events
    c.self.inside.limit) = subst (λ (s : State). AllNamedStand s) (sym c.self.view_is) c.requires.named in
    let m = making c.self.inside.objects c.self.inside.queues c.self.inside.processes c.self.inside.stacks c.self.inside.first_new c.self.inside.events c.self.inside.limit
    c.self.inside.counts c.make-slot.result.0 c.args.new.entries c.as_slice-stacks.ensures.numbered c.self.invariant.told c.make-slot.ensures.apart c.make-slot.ensures.above
    c.make-slot.ensures.slot
    c.make-slot.ensures.free few named in
    made_few c.self.inside.objects c.self.inside.stacks.stacks c.self.inside.processes c.self.inside.first_new c.self.inside.counts c.make-slot.result.0
    c.self.inside.objects.next c.args.new.of c.args.new.words c.args.new.entries m

pub hold_name_inside-requires : goal.hold_name_inside-requires
hold_name_inside-requires c =
    let few : length c.args.new.entries ≤ 256 = subst (λ (es : List Entry). length es ≤ 256) c.as_slice-few.ensures.value c.as_slice-few.ensures.few in
    let named : AllNamedStand (told c.self.inside.objects c.self.inside.queues c.self.inside.processes c.self.inside.stacks c.self.inside.first_new c.self.inside.events
    c.self.inside.limit) = subst (λ (s : State). AllNamedStand s) (sym c.self.view_is) c.requires.named in
    let m = making c.self.inside.objects c.self.inside.queues c.self.inside.processes c.self.inside.stacks c.self.inside.first_new c.self.inside.events c.self.inside.limit
    c.self.inside.counts c.make-slot.result.0 c.args.new.entries c.as_slice-stacks.ensures.numbered c.self.invariant.told c.make-slot.ensures.apart c.make-slot.ensures.above
    c.make-slot.ensures.slot
    c.make-slot.ensures.free few named in
    made_can c.self.inside.objects c.self.inside.stacks.stacks c.self.inside.processes c.self.inside.first_new c.self.inside.counts c.make-slot.result.0
    c.self.inside.objects.next c.args.new.of c.args.new.words c.args.new.entries m c.make-slot.new.objects (ap (λ (v : Shelf). v.slots) c.make-slot.ensures.made)
    c.hold_outside.new.self c.hold_outside.ensures

pub entries-requires : goal.entries-requires
entries-requires c =
    let few : length c.args.new.entries ≤ 256 = subst (λ (es : List Entry). length es ≤ 256) c.as_slice-few.ensures.value c.as_slice-few.ensures.few in
    let named : AllNamedStand (told c.self.inside.objects c.self.inside.queues c.self.inside.processes c.self.inside.stacks c.self.inside.first_new c.self.inside.events
    c.self.inside.limit) = subst (λ (s : State). AllNamedStand s) (sym c.self.view_is) c.requires.named in
    let m = making c.self.inside.objects c.self.inside.queues c.self.inside.processes c.self.inside.stacks c.self.inside.first_new c.self.inside.events c.self.inside.limit
    c.self.inside.counts c.make-slot.result.0 c.args.new.entries c.as_slice-stacks.ensures.numbered c.self.invariant.told c.make-slot.ensures.apart c.make-slot.ensures.above
    c.make-slot.ensures.slot
    c.make-slot.ensures.free few named in
    made_stands c.self.inside.objects c.self.inside.stacks.stacks c.self.inside.processes c.self.inside.first_new c.self.inside.counts c.make-slot.result.0
    c.self.inside.objects.next c.args.new.of c.args.new.words c.args.new.entries m c.make-slot.new.objects.slots (ap (λ (v : Shelf). v.slots) c.make-slot.ensures.made)

pub hold_entries_inside-requires : goal.hold_entries_inside-requires
hold_entries_inside-requires c =
    let few : length c.args.new.entries ≤ 256 = subst (λ (es : List Entry). length es ≤ 256) c.as_slice-few.ensures.value c.as_slice-few.ensures.few in
    let named : AllNamedStand (told c.self.inside.objects c.self.inside.queues c.self.inside.processes c.self.inside.stacks c.self.inside.first_new c.self.inside.events
    c.self.inside.limit) = subst (λ (s : State). AllNamedStand s) (sym c.self.view_is) c.requires.named in
    let m = making c.self.inside.objects c.self.inside.queues c.self.inside.processes c.self.inside.stacks c.self.inside.first_new c.self.inside.events c.self.inside.limit
    c.self.inside.counts c.make-slot.result.0 c.args.new.entries c.as_slice-stacks.ensures.numbered c.self.invariant.told c.make-slot.ensures.apart c.make-slot.ensures.above
    c.make-slot.ensures.slot
    c.make-slot.ensures.free few named in
    let read : c.entries.result.now ≡ c.args.new.entries = made_read c.self.inside.objects c.self.inside.stacks.stacks c.self.inside.processes c.self.inside.first_new c.self.inside.counts c.make-slot.result.0
    c.self.inside.objects.next c.args.new.of c.args.new.words c.args.new.entries m c.make-slot.new.objects.slots
    (ap (λ (v : Shelf). v.slots) c.make-slot.ensures.made) c.entries.result.now c.entries.ensures.entries in
    subst (λ (es : List Entry). CanHold c.make-slot.new.objects.slots (named_in es) c.hold_name_inside.new.counts) (sym read)
    (made_can_more c.self.inside.objects c.self.inside.stacks.stacks c.self.inside.processes c.self.inside.first_new c.self.inside.counts c.make-slot.result.0
    c.self.inside.objects.next c.args.new.of c.args.new.words c.args.new.entries m c.make-slot.new.objects (ap (λ (v : Shelf). v.slots) c.make-slot.ensures.made)
    c.hold_outside.new.self c.hold_outside.ensures c.hold_name_inside.new.counts c.hold_name_inside.ensures)

pub release_entry-requires : goal.release_entry-requires
release_entry-requires c =
    let few : length c.args.new.entries ≤ 256 = subst (λ (es : List Entry). length es ≤ 256) c.as_slice-few.ensures.value c.as_slice-few.ensures.few in
    let named : AllNamedStand (told c.self.inside.objects c.self.inside.queues c.self.inside.processes c.self.inside.stacks c.self.inside.first_new c.self.inside.events
    c.self.inside.limit) = subst (λ (s : State). AllNamedStand s) (sym c.self.view_is) c.requires.named in
    let m = making c.self.inside.objects c.self.inside.queues c.self.inside.processes c.self.inside.stacks c.self.inside.first_new c.self.inside.events c.self.inside.limit
    c.self.inside.counts c.make-slot.result.0 c.args.new.entries c.as_slice-stacks.ensures.numbered c.self.invariant.told c.make-slot.ensures.apart c.make-slot.ensures.above
    c.make-slot.ensures.slot
    c.make-slot.ensures.free few named in
    let read : c.entries.result.now ≡ c.args.new.entries = made_read c.self.inside.objects c.self.inside.stacks.stacks c.self.inside.processes c.self.inside.first_new c.self.inside.counts c.make-slot.result.0
    c.self.inside.objects.next c.args.new.of c.args.new.words c.args.new.entries m c.make-slot.new.objects.slots
    (ap (λ (v : Shelf). v.slots) c.make-slot.ensures.made) c.entries.result.now c.entries.ensures.entries in
    let g : HoldsInside c.make-slot.new.objects.slots (named_in c.args.new.entries) c.hold_name_inside.new.counts c.hold_entries_inside.new.counts =
    subst (λ (es : List Entry). HoldsInside c.make-slot.new.objects.slots (named_in es) c.hold_name_inside.new.counts c.hold_entries_inside.new.counts) read
    c.hold_entries_inside.ensures in
    let held : AreHeld c.make-slot.new.objects.slots (owing (λ (n : Name). outside_namings n c.self.inside.stacks.stacks c.self.inside.processes) (c.next_name-name.result ∷ []))
    (namings c.make-slot.new.objects.slots) c.hold_entries_inside.new.counts =
    subst (λ (n : Name). AreHeld c.make-slot.new.objects.slots (owing (λ (m : Name). outside_namings m c.self.inside.stacks.stacks c.self.inside.processes) (n ∷ []))
    (namings c.make-slot.new.objects.slots) c.hold_entries_inside.new.counts) (sym c.next_name-name.ensures.name)
    (made_all c.self.inside.objects c.self.inside.stacks.stacks c.self.inside.processes c.self.inside.first_new c.self.inside.counts c.make-slot.result.0
    c.self.inside.objects.next c.args.new.of c.args.new.words c.args.new.entries m c.make-slot.new.objects (ap (λ (v : Shelf). v.slots) c.make-slot.ensures.made)
    c.hold_outside.new.self c.hold_outside.ensures c.hold_name_inside.new.counts c.hold_entries_inside.new.counts c.hold_name_inside.ensures g) in
    slot_can c.make-slot.new.objects c.self.inside.stacks.stacks c.self.inside.processes c.self.inside.first_new c.hold_entries_inside.new.counts c.args.proc.0 c.args.at
    (Held (record { name = c.next_name-name.result; rights = c.args.rights })) c.in-Some.old c.in-Some.ensures.some.0 c.in-Some.ensures.some.1 held

pub invariant_of-self : goal.invariant_of-self
invariant_of-self c =
    let few : length c.args.new.entries ≤ 256 = subst (λ (es : List Entry). length es ≤ 256) c.as_slice-few.ensures.value c.as_slice-few.ensures.few in
    let named : AllNamedStand (told c.self.inside.objects c.self.inside.queues c.self.inside.processes c.self.inside.stacks c.self.inside.first_new c.self.inside.events
    c.self.inside.limit) = subst (λ (s : State). AllNamedStand s) (sym c.self.view_is) c.requires.named in
    let m = making c.self.inside.objects c.self.inside.queues c.self.inside.processes c.self.inside.stacks c.self.inside.first_new c.self.inside.events c.self.inside.limit
    c.self.inside.counts c.make-slot.result.0 c.args.new.entries c.as_slice-stacks.ensures.numbered c.self.invariant.told c.make-slot.ensures.apart c.make-slot.ensures.above
    c.make-slot.ensures.slot
    c.make-slot.ensures.free few named in
    let read : c.entries.result.now ≡ c.args.new.entries = made_read c.self.inside.objects c.self.inside.stacks.stacks c.self.inside.processes c.self.inside.first_new c.self.inside.counts c.make-slot.result.0
    c.self.inside.objects.next c.args.new.of c.args.new.words c.args.new.entries m c.make-slot.new.objects.slots
    (ap (λ (v : Shelf). v.slots) c.make-slot.ensures.made) c.entries.result.now c.entries.ensures.entries in
    let g : HoldsInside c.make-slot.new.objects.slots (named_in c.args.new.entries) c.hold_name_inside.new.counts c.hold_entries_inside.new.counts =
    subst (λ (es : List Entry). HoldsInside c.make-slot.new.objects.slots (named_in es) c.hold_name_inside.new.counts c.hold_entries_inside.new.counts) read
    c.hold_entries_inside.ensures in
    let held : AreHeld c.make-slot.new.objects.slots (owing (λ (n : Name). outside_namings n c.self.inside.stacks.stacks c.self.inside.processes) (c.next_name-name.result ∷ []))
    (namings c.make-slot.new.objects.slots) c.hold_entries_inside.new.counts =
    subst (λ (n : Name). AreHeld c.make-slot.new.objects.slots (owing (λ (m : Name). outside_namings m c.self.inside.stacks.stacks c.self.inside.processes) (n ∷ []))
    (namings c.make-slot.new.objects.slots) c.hold_entries_inside.new.counts) (sym c.next_name-name.ensures.name)
    (made_all c.self.inside.objects c.self.inside.stacks.stacks c.self.inside.processes c.self.inside.first_new c.self.inside.counts c.make-slot.result.0
    c.self.inside.objects.next c.args.new.of c.args.new.words c.args.new.entries m c.make-slot.new.objects (ap (λ (v : Shelf). v.slots) c.make-slot.ensures.made)
    c.hold_outside.new.self c.hold_outside.ensures c.hold_name_inside.new.counts c.hold_entries_inside.new.counts c.hold_name_inside.ensures g) in
    let fresh : (k : ℕ) → name_at c.self.inside.objects.slots k ≡ Some c.self.inside.objects.next → ⊥ =
    λ k named. let a = c.make-slot.ensures.above k c.self.inside.objects.next named in omega (arith, a) in
    record {
      joined = slot_joined c.make-slot.new.objects c.self.inside.queues c.self.inside.processes c.self.inside.stacks c.set_top.new.self c.self.inside.walker c.args.proc c.args.at
          (Held (record { name = c.next_name-name.result; rights = c.args.rights }))
          (made_joined c.self.inside.objects c.make-slot.new.objects c.self.inside.queues c.self.inside.processes c.self.inside.stacks c.self.inside.walker c.make-slot.result.0
          c.self.inside.objects.next (new_body c.args.new.of c.args.new.words c.args.new.entries) c.make-slot.ensures.free c.make-slot.ensures.slot fresh c.self.invariant.joined
          (ap (λ (v : Shelf). v.slots) c.make-slot.ensures.made)) c.set_top.ensures.value;
      told = slot_counted c.make-slot.new.objects c.self.inside.stacks.stacks c.self.inside.processes c.self.inside.first_new c.hold_entries_inside.new.counts c.args.proc.0 c.args.at
          (Held (record { name = c.next_name-name.result; rights = c.args.rights })) c.in-Some.old c.in-Some.ensures.some.0 c.in-Some.ensures.some.1 held
          (made_begins c.self.inside.objects c.self.inside.stacks.stacks c.self.inside.processes c.self.inside.first_new c.self.inside.counts c.make-slot.result.0
          c.self.inside.objects.next c.args.new.of c.args.new.words c.args.new.entries m c.make-slot.new.objects (ap (λ (v : Shelf). v.slots) c.make-slot.ensures.made)
          c.hold_outside.new.self c.hold_outside.ensures c.hold_name_inside.new.counts c.hold_entries_inside.new.counts c.hold_name_inside.ensures g)
          (made_small c.self.inside.objects c.self.inside.stacks.stacks c.self.inside.processes c.self.inside.first_new c.self.inside.counts c.make-slot.result.0
          c.self.inside.objects.next c.args.new.of c.args.new.words c.args.new.entries m c.make-slot.new.objects (ap (λ (v : Shelf). v.slots) c.make-slot.ensures.made)
          c.hold_outside.new.self c.hold_outside.ensures c.hold_name_inside.new.counts c.hold_entries_inside.new.counts c.hold_name_inside.ensures g)
          c.release_entry.new.counts c.set_top.new.self.stacks c.release_entry.ensures (ap (λ (s : Stacked). s.stacks) c.set_top.ensures.value);
    }

pub release_name-requires : goal.release_name-requires
release_name-requires c =
    let few : length c.args.new.entries ≤ 256 = subst (λ (es : List Entry). length es ≤ 256) c.as_slice-few.ensures.value c.as_slice-few.ensures.few in
    let named : AllNamedStand (told c.self.inside.objects c.self.inside.queues c.self.inside.processes c.self.inside.stacks c.self.inside.first_new c.self.inside.events
    c.self.inside.limit) = subst (λ (s : State). AllNamedStand s) (sym c.self.view_is) c.requires.named in
    let m = making c.self.inside.objects c.self.inside.queues c.self.inside.processes c.self.inside.stacks c.self.inside.first_new c.self.inside.events c.self.inside.limit
    c.self.inside.counts c.make-slot.result.0 c.args.new.entries c.as_slice-stacks.ensures.numbered c.self.invariant.told c.make-slot.ensures.apart c.make-slot.ensures.above
    c.make-slot.ensures.slot
    c.make-slot.ensures.free few named in
    let read : c.entries.result.now ≡ c.args.new.entries = made_read c.self.inside.objects c.self.inside.stacks.stacks c.self.inside.processes c.self.inside.first_new c.self.inside.counts c.make-slot.result.0
    c.self.inside.objects.next c.args.new.of c.args.new.words c.args.new.entries m c.make-slot.new.objects.slots
    (ap (λ (v : Shelf). v.slots) c.make-slot.ensures.made) c.entries.result.now c.entries.ensures.entries in
    let g : HoldsInside c.make-slot.new.objects.slots (named_in c.args.new.entries) c.hold_name_inside.new.counts c.hold_entries_inside.new.counts =
    subst (λ (es : List Entry). HoldsInside c.make-slot.new.objects.slots (named_in es) c.hold_name_inside.new.counts c.hold_entries_inside.new.counts) read
    c.hold_entries_inside.ensures in
    subst (λ (n : Name). CanRelease c.make-slot.new.objects.slots (n ∷ []) c.hold_entries_inside.new.counts) (sym c.next_name-name.ensures.name)
    (made_lost_can c.self.inside.objects c.self.inside.stacks.stacks c.self.inside.processes c.self.inside.first_new c.self.inside.counts c.make-slot.result.0
    c.self.inside.objects.next c.args.new.of c.args.new.words c.args.new.entries m c.make-slot.new.objects (ap (λ (v : Shelf). v.slots) c.make-slot.ensures.made)
    c.hold_outside.new.self c.hold_outside.ensures c.hold_name_inside.new.counts c.hold_entries_inside.new.counts c.hold_name_inside.ensures g)

pub invariant_of-self-in-None : goal.invariant_of-self-in-None
invariant_of-self-in-None c =
    let few : length c.args.new.entries ≤ 256 = subst (λ (es : List Entry). length es ≤ 256) c.as_slice-few.ensures.value c.as_slice-few.ensures.few in
    let named : AllNamedStand (told c.self.inside.objects c.self.inside.queues c.self.inside.processes c.self.inside.stacks c.self.inside.first_new c.self.inside.events
    c.self.inside.limit) = subst (λ (s : State). AllNamedStand s) (sym c.self.view_is) c.requires.named in
    let m = making c.self.inside.objects c.self.inside.queues c.self.inside.processes c.self.inside.stacks c.self.inside.first_new c.self.inside.events c.self.inside.limit
    c.self.inside.counts c.make-slot.result.0 c.args.new.entries c.as_slice-stacks.ensures.numbered c.self.invariant.told c.make-slot.ensures.apart c.make-slot.ensures.above
    c.make-slot.ensures.slot
    c.make-slot.ensures.free few named in
    let read : c.entries.result.now ≡ c.args.new.entries = made_read c.self.inside.objects c.self.inside.stacks.stacks c.self.inside.processes c.self.inside.first_new c.self.inside.counts c.make-slot.result.0
    c.self.inside.objects.next c.args.new.of c.args.new.words c.args.new.entries m c.make-slot.new.objects.slots
    (ap (λ (v : Shelf). v.slots) c.make-slot.ensures.made) c.entries.result.now c.entries.ensures.entries in
    let g : HoldsInside c.make-slot.new.objects.slots (named_in c.args.new.entries) c.hold_name_inside.new.counts c.hold_entries_inside.new.counts =
    subst (λ (es : List Entry). HoldsInside c.make-slot.new.objects.slots (named_in es) c.hold_name_inside.new.counts c.hold_entries_inside.new.counts) read
    c.hold_entries_inside.ensures in
    let fresh : (k : ℕ) → name_at c.self.inside.objects.slots k ≡ Some c.self.inside.objects.next → ⊥ =
    λ k named. let a = c.make-slot.ensures.above k c.self.inside.objects.next named in omega (arith, a) in
    record {
      joined = made_joined c.self.inside.objects c.make-slot.new.objects c.self.inside.queues c.self.inside.processes c.self.inside.stacks c.self.inside.walker c.make-slot.result.0
          c.self.inside.objects.next (new_body c.args.new.of c.args.new.words c.args.new.entries) c.make-slot.ensures.free c.make-slot.ensures.slot fresh c.self.invariant.joined
          (ap (λ (v : Shelf). v.slots) c.make-slot.ensures.made);
      told = made_lost c.self.inside.objects c.self.inside.stacks.stacks c.self.inside.processes c.self.inside.first_new c.self.inside.counts c.make-slot.result.0
          c.self.inside.objects.next c.args.new.of c.args.new.words c.args.new.entries m c.make-slot.new.objects (ap (λ (v : Shelf). v.slots) c.make-slot.ensures.made)
          c.hold_outside.new.self c.hold_outside.ensures c.hold_name_inside.new.counts c.hold_entries_inside.new.counts c.hold_name_inside.ensures g
          c.release_name.new.counts
          (subst (λ (n : Name). Releases c.make-slot.new.objects.slots (n ∷ []) c.hold_entries_inside.new.counts c.release_name.new.counts) c.next_name-name.ensures.name
          c.release_name.ensures);
    }

pub returns-in-Some : goal.returns-in-Some
returns-in-Some c =
    let known : c.args.proc.0 < length c.self.inside.processes = subst (λ (s : State). c.args.proc.0 < length s.processes) (sym c.self.view_is) c.requires.known in
    let st : Stacked = c.self.inside.stacks in
    let before : State = told c.self.inside.objects c.self.inside.queues c.self.inside.processes c.self.inside.stacks c.self.inside.first_new c.self.inside.events c.self.inside.limit in
    let fresh : (k : ℕ) → name_at c.self.inside.objects.slots k ≡ Some c.self.inside.objects.next → ⊥ =
    λ k named. let a = c.make-slot.ensures.above k c.self.inside.objects.next named in omega (arith, a) in
    rw (← c.self.view_is)
    (slot_told c.make-slot.new.objects c.self.inside.queues c.self.inside.processes c.self.inside.stacks c.set_top.new.self c.self.inside.first_new c.self.inside.events
    c.self.inside.limit c.args.proc c.args.at (Held (record { name = c.next_name-name.result; rights = c.args.rights })) c.as_slice-stacks.ensures.numbered (c.self.invariant.joined.current c.args.proc.0 known)
    c.set_top.ensures.value
    ∙ ap (λ (s : State). put_slot s (process s c.args.proc).current c.args.at (Held (record { name = c.next_name-name.result; rights = c.args.rights }))) (made_told c.self.inside.objects c.make-slot.new.objects c.self.inside.queues c.self.inside.processes c.self.inside.stacks c.self.inside.first_new c.self.inside.events
    c.self.inside.limit c.make-slot.result.0 c.args.new.of c.args.new.words c.args.new.entries c.make-slot.ensures.free c.make-slot.ensures.slot fresh c.self.invariant.joined.queued
    c.make-slot.ensures.made)
    ∙ ap (λ (n : Name). put_slot (add_beside before before.objects (plain_object c.args.new.of c.args.new.words c.args.new.entries)) (process before c.args.proc).current c.args.at
    (Held (record { name = n; rights = c.args.rights }))) c.next_name-name.ensures.name)

pub returns-in-None : goal.returns-in-None
returns-in-None c =
    let known : c.args.proc.0 < length c.self.inside.processes = subst (λ (s : State). c.args.proc.0 < length s.processes) (sym c.self.view_is) c.requires.known in
    let st : Stacked = c.self.inside.stacks in
    let before : State = told c.self.inside.objects c.self.inside.queues c.self.inside.processes c.self.inside.stacks c.self.inside.first_new c.self.inside.events c.self.inside.limit in
    let fresh : (k : ℕ) → name_at c.self.inside.objects.slots k ≡ Some c.self.inside.objects.next → ⊥ =
    λ k named. let a = c.make-slot.ensures.above k c.self.inside.objects.next named in omega (arith, a) in
    rw (← c.self.view_is)
    (slot_told c.make-slot.new.objects c.self.inside.queues c.self.inside.processes c.self.inside.stacks c.self.inside.stacks c.self.inside.first_new c.self.inside.events
    c.self.inside.limit c.args.proc c.args.at (Held (record { name = c.next_name-name.result; rights = c.args.rights })) c.as_slice-stacks.ensures.numbered (c.self.invariant.joined.current c.args.proc.0 known)
    (λ i. record st { stacks = past_slots st.stacks c.args.proc.0 c.args.at (Held (record { name = c.next_name-name.result; rights = c.args.rights })) c.in-None.ensures.none i })
    ∙ ap (λ (s : State). put_slot s (process s c.args.proc).current c.args.at (Held (record { name = c.next_name-name.result; rights = c.args.rights }))) (made_told c.self.inside.objects c.make-slot.new.objects c.self.inside.queues c.self.inside.processes c.self.inside.stacks c.self.inside.first_new c.self.inside.events
    c.self.inside.limit c.make-slot.result.0 c.args.new.of c.args.new.words c.args.new.entries c.make-slot.ensures.free c.make-slot.ensures.slot fresh c.self.invariant.joined.queued
    c.make-slot.ensures.made)
    ∙ ap (λ (n : Name). put_slot (add_beside before before.objects (plain_object c.args.new.of c.args.new.words c.args.new.entries)) (process before c.args.proc).current c.args.at
    (Held (record { name = n; rights = c.args.rights }))) c.next_name-name.ensures.name)
