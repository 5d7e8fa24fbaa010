use Rattle.std.proofs.Common.{◌≡◌, ◌<◌, length, set, get_or, refl, sym, subst, Option, IfSome}
use Rattle.hk_model.specs.declared.names.Name.{Name}
use Rattle.hk_model.specs.declared.entries.Entry.TheVariants.{Empty}
use Rattle.hk_model.specs.State.{State, object}
use Rattle.hk_objects.specs.declared.body.Body.{Body}
use Rattle.hk_table.proofs.Whole.{holds_inside}
use Rattle.hk_table.proofs.ObjectTelling.{some_place, entry_can, entry_counted}
use Rattle.hk_table.proofs.PartReads.{part_forgot, part_told, missing_told}
use Rattle.hk_table.proofs.Telling.{can_hold_entry}
use Rattle.hk_table.proofs.parts.Parts.set_entry.Goals as goal

pub entry_in-old-requires-clause-at : goal.entry_in-old-requires-clause-at
entry_in-old-requires-clause-at c =
    holds_inside c.self.inside.objects.slots c.self.inside.queues.waiting c.in-Some.slot.0 c.args.name c.in-Some.ensures.apart c.in-Some.ensures.found (λ b. length b.entries)
    (λ o. length o.entries) (λ b procs. refl) (λ m. c.args.at < m)
    (subst (λ (s : State). c.args.at < length (object s c.args.name).entries) (sym c.self.view_is) c.requires)

pub hold_entry_inside-requires : goal.hold_entry_inside-requires
hold_entry_inside-requires c =
    can_hold_entry c.self.inside.objects c.self.inside.stacks.stacks c.self.inside.processes c.self.inside.first_new c.self.inside.counts c.args.entry c.self.invariant.told

pub release_entry_inside-requires : goal.release_entry_inside-requires
release_entry_inside-requires c =
    let w = some_place c.self.inside.objects.slots c.in-Some.slot.0 c.args.name c.in-Some.ensures.found in
    let low : c.args.at < length w.0.1.entries =
    subst (λ (p : Option (Name × Body)). IfSome p (λ e. c.args.at < length e.1.entries)) w.1
    (holds_inside c.self.inside.objects.slots c.self.inside.queues.waiting c.in-Some.slot.0 c.args.name c.in-Some.ensures.apart c.in-Some.ensures.found (λ b. length b.entries)
    (λ o. length o.entries) (λ b procs. refl) (λ m. c.args.at < m)
    (subst (λ (s : State). c.args.at < length (object s c.args.name).entries) (sym c.self.view_is) c.requires)) in
    let is : c.entry_in-old.result ≡ get_or w.0.1.entries c.args.at Empty =
    subst (λ (p : Option (Name × Body)). IfSome p (λ e. c.entry_in-old.result ≡ get_or e.1.entries c.args.at Empty)) w.1 c.entry_in-old.ensures in
    entry_can c.self.inside.objects c.self.inside.stacks.stacks c.self.inside.processes c.self.inside.first_new c.self.inside.counts c.hold_entry_inside.new.counts c.in-Some.slot.0
    w.0 w.1 c.args.at c.args.entry c.entry_in-old.result low is c.self.invariant.told c.hold_entry_inside.ensures

pub set_entry-requires-clause-at : goal.set_entry-requires-clause-at
set_entry-requires-clause-at c =
    holds_inside c.self.inside.objects.slots c.self.inside.queues.waiting c.in-Some.slot.0 c.args.name c.in-Some.ensures.apart c.in-Some.ensures.found (λ b. length b.entries)
    (λ o. length o.entries) (λ b procs. refl) (λ m. c.args.at < m)
    (subst (λ (s : State). c.args.at < length (object s c.args.name).entries) (sym c.self.view_is) c.requires)

pub invariant_of-self : goal.invariant_of-self
invariant_of-self c = record {
  joined = part_forgot c.self.inside.objects c.set_entry.new.self c.self.inside.queues c.self.inside.processes c.self.inside.stacks c.self.inside.walker c.forget_all.new.walker
      c.in-Some.slot.0 (λ b. record b { entries = set b.entries c.args.at c.args.entry }) c.self.invariant.joined c.set_entry.ensures c.forget_all.ensures;
  told =
      let w = some_place c.self.inside.objects.slots c.in-Some.slot.0 c.args.name c.in-Some.ensures.found in
      let low : c.args.at < length w.0.1.entries =
      subst (λ (p : Option (Name × Body)). IfSome p (λ e. c.args.at < length e.1.entries)) w.1
      (holds_inside c.self.inside.objects.slots c.self.inside.queues.waiting c.in-Some.slot.0 c.args.name c.in-Some.ensures.apart c.in-Some.ensures.found (λ b. length b.entries)
      (λ o. length o.entries) (λ b procs. refl) (λ m. c.args.at < m)
      (subst (λ (s : State). c.args.at < length (object s c.args.name).entries) (sym c.self.view_is) c.requires)) in
      let is : c.entry_in-old.result ≡ get_or w.0.1.entries c.args.at Empty =
      subst (λ (p : Option (Name × Body)). IfSome p (λ e. c.entry_in-old.result ≡ get_or e.1.entries c.args.at Empty)) w.1 c.entry_in-old.ensures in
      entry_counted c.self.inside.objects c.self.inside.stacks.stacks c.self.inside.processes c.self.inside.first_new c.self.inside.counts c.hold_entry_inside.new.counts
      c.in-Some.slot.0 w.0 w.1 c.args.at c.args.entry c.entry_in-old.result low is c.self.invariant.told c.hold_entry_inside.ensures c.release_entry_inside.new.counts
      c.set_entry.new.self c.release_entry_inside.ensures c.set_entry.ensures;
}

pub returns-in-Some : goal.returns-in-Some
returns-in-Some c =
    rw (← c.self.view_is)
    (part_told c.self.inside.objects c.set_entry.new.self c.self.inside.queues c.self.inside.processes c.self.inside.stacks c.self.inside.first_new c.self.inside.events
    c.self.inside.limit c.in-Some.slot.0 c.args.name
    (λ b. record b { entries = set b.entries c.args.at c.args.entry }) (λ o. record o { entries = set o.entries c.args.at c.args.entry }) c.in-Some.ensures.apart
    c.in-Some.ensures.found (λ b procs. refl) c.set_entry.ensures)

pub returns-in_default : goal.returns-in_default
returns-in_default c =
    rw (← c.self.view_is) (missing_told c.self.inside.objects c.self.inside.queues c.self.inside.processes c.self.inside.stacks c.self.inside.first_new c.self.inside.events
    c.self.inside.limit c.args.name _ c.in_default.ensures.none)
