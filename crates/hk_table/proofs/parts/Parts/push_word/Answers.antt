use Rattle.std.proofs.Common.{◌<◌, ◌∷◌, ◌++◌, [], length, refl, sym, subst}
use Rattle.hk_model.specs.State.{State, object}
use Rattle.hk_table.proofs.Whole.{holds_inside}
use Rattle.hk_table.proofs.ObjectTelling.{some_place, part_counted}
use Rattle.hk_table.proofs.PartReads.{part_joined, part_told, missing_told}
use Rattle.hk_table.proofs.parts.Parts.push_word.Goals as goal

pub add-requires-clause-room : goal.add-requires-clause-room
add-requires-clause-room c =
    holds_inside c.self.inside.objects.slots c.self.inside.queues.waiting c.in-Some.slot.0 c.args.name c.in-Some.ensures.apart c.in-Some.ensures.found (λ b. length b.words)
    (λ o. length o.words) (λ b procs. refl) (λ m. m < 4096) (subst (λ (s : State). length (object s c.args.name).words < 4096) (sym c.self.view_is) c.requires)

pub invariant_of-self-in-Some : goal.invariant_of-self-in-Some
invariant_of-self-in-Some c = record {
  joined = part_joined c.self.inside.objects c.add.new.self c.self.inside.queues c.self.inside.processes c.self.inside.stacks c.self.inside.walker c.in-Some.slot.0
      (λ b. record b { words = b.words ++ c.args.word ∷ [] }) (λ b. refl) c.self.invariant.joined c.in_ok-add-in-Some.ensures.ok;
  told =
      let w = some_place c.self.inside.objects.slots c.in-Some.slot.0 c.args.name c.in-Some.ensures.found in
      part_counted c.self.inside.objects c.self.inside.stacks.stacks c.self.inside.processes c.in-Some.slot.0 w.0 w.1
      (λ b. record b { words = b.words ++ c.args.word ∷ [] }) c.add.new.self c.self.inside.first_new c.self.inside.counts refl refl c.self.invariant.told
      c.in_ok-add-in-Some.ensures.ok;
}

pub returns-in_ok-add-in-Some-clause-ok : goal.returns-in_ok-add-in-Some-clause-ok
returns-in_ok-add-in-Some-clause-ok c =
    rw (← c.self.view_is)
    (part_told c.self.inside.objects c.add.new.self c.self.inside.queues c.self.inside.processes c.self.inside.stacks c.self.inside.first_new c.self.inside.events
    c.self.inside.limit c.in-Some.slot.0 c.args.name
    (λ b. record b { words = b.words ++ c.args.word ∷ [] }) (λ o. record o { words = o.words ++ c.args.word ∷ [] }) c.in-Some.ensures.apart
    c.in-Some.ensures.found (λ b procs. refl) c.in_ok-add-in-Some.ensures.ok)

pub returns-in-None-clause-ok : goal.returns-in-None-clause-ok
returns-in-None-clause-ok c =
    rw (← c.self.view_is) (missing_told c.self.inside.objects c.self.inside.queues c.self.inside.processes c.self.inside.stacks c.self.inside.first_new c.self.inside.events
    c.self.inside.limit c.args.name _ c.in-None.ensures.none)
