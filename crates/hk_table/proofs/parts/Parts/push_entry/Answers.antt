use Rattle.std.proofs.Common.{IfSome, Option, ◌<◌, ◌∷◌, ◌++◌, [], length, refl, sym, subst}
use Rattle.hk_model.specs.declared.names.Name.{Name}
use Rattle.hk_model.specs.State.{State, object}
use Rattle.hk_objects.specs.declared.body.Body.{Body}
use Rattle.hk_table.proofs.Whole.{holds_inside}
use Rattle.hk_table.proofs.ObjectTelling.{some_place, grown_can, grown_counted}
use Rattle.hk_table.proofs.PartReads.{part_forgot, part_told, missing_told}
use Rattle.hk_table.proofs.parts.Parts.push_entry.Goals as goal

pub append-requires-clause-room : goal.append-requires-clause-room
append-requires-clause-room c =
    holds_inside c.self.inside.objects.slots c.self.inside.queues.waiting c.in-Some.slot.0 c.args.name c.in-Some.ensures.apart c.in-Some.ensures.found (λ b. length b.entries)
    (λ o. length o.entries) (λ b procs. refl) (λ m. m < 256) (subst (λ (s : State). length (object s c.args.name).entries < 256) (sym c.self.view_is) c.requires)

pub hold_entry_inside-requires : goal.hold_entry_inside-requires
hold_entry_inside-requires c =
    let w = some_place c.self.inside.objects.slots c.in-Some.slot.0 c.args.name c.in-Some.ensures.found in
    let room : length w.0.1.entries < 256 =
    subst (λ (p : Option (Name × Body)). IfSome p (λ e. length e.1.entries < 256)) w.1
    (holds_inside c.self.inside.objects.slots c.self.inside.queues.waiting c.in-Some.slot.0 c.args.name c.in-Some.ensures.apart c.in-Some.ensures.found (λ b. length b.entries)
    (λ o. length o.entries) (λ b procs. refl) (λ m. m < 256) (subst (λ (s : State). length (object s c.args.name).entries < 256) (sym c.self.view_is) c.requires)) in
    grown_can c.self.inside.objects c.append.new.self c.self.inside.stacks.stacks c.self.inside.processes c.self.inside.first_new c.self.inside.counts
    c.in-Some.slot.0 w.0 w.1 c.args.entry room c.self.invariant.told c.in_ok-append-in-Some.ensures.ok

pub invariant_of-self-in-Some : goal.invariant_of-self-in-Some
invariant_of-self-in-Some c = record {
  joined = part_forgot c.self.inside.objects c.append.new.self c.self.inside.queues c.self.inside.processes c.self.inside.stacks c.self.inside.walker c.forget_all.new.walker
      c.in-Some.slot.0 (λ b. record b { entries = b.entries ++ c.args.entry ∷ [] }) c.self.invariant.joined c.in_ok-append-in-Some.ensures.ok c.forget_all.ensures;
  told =
      let w = some_place c.self.inside.objects.slots c.in-Some.slot.0 c.args.name c.in-Some.ensures.found in
      let room : length w.0.1.entries < 256 =
      subst (λ (p : Option (Name × Body)). IfSome p (λ e. length e.1.entries < 256)) w.1
      (holds_inside c.self.inside.objects.slots c.self.inside.queues.waiting c.in-Some.slot.0 c.args.name c.in-Some.ensures.apart c.in-Some.ensures.found (λ b. length b.entries)
      (λ o. length o.entries) (λ b procs. refl) (λ m. m < 256) (subst (λ (s : State). length (object s c.args.name).entries < 256) (sym c.self.view_is) c.requires)) in
      grown_counted c.self.inside.objects c.append.new.self c.self.inside.stacks.stacks c.self.inside.processes c.self.inside.first_new c.self.inside.counts
      c.in-Some.slot.0 w.0 w.1 c.args.entry room c.self.invariant.told c.in_ok-append-in-Some.ensures.ok c.hold_entry_inside.new.counts c.hold_entry_inside.ensures;
}

pub returns-in_ok-append-in-Some-clause-ok : goal.returns-in_ok-append-in-Some-clause-ok
returns-in_ok-append-in-Some-clause-ok c =
    rw (← c.self.view_is)
    (part_told c.self.inside.objects c.append.new.self c.self.inside.queues c.self.inside.processes c.self.inside.stacks c.self.inside.first_new c.self.inside.events
    c.self.inside.limit c.in-Some.slot.0 c.args.name
    (λ b. record b { entries = b.entries ++ c.args.entry ∷ [] }) (λ o. record o { entries = o.entries ++ c.args.entry ∷ [] }) c.in-Some.ensures.apart
    c.in-Some.ensures.found (λ b procs. refl) c.in_ok-append-in-Some.ensures.ok)

pub returns-in-None-clause-ok : goal.returns-in-None-clause-ok
returns-in-None-clause-ok c =
    rw (← c.self.view_is) (missing_told c.self.inside.objects c.self.inside.queues c.self.inside.processes c.self.inside.stacks c.self.inside.first_new c.self.inside.events
    c.self.inside.limit c.args.name _ c.in-None.ensures.none)
