use Rattle.std.proofs.Common.{refl}
use Rattle.hk_table.proofs.ObjectTelling.{some_place, part_counted}
use Rattle.hk_table.proofs.PartReads.{part_joined, part_told, missing_told}
use Rattle.hk_table.proofs.parts.Parts.set_count.Goals as goal

pub invariant_of-self : goal.invariant_of-self
invariant_of-self c = record {
  joined = part_joined c.self.inside.objects c.set_count.new.self c.self.inside.queues c.self.inside.processes c.self.inside.stacks c.self.inside.walker c.in-Some.slot.0
      (λ b. record b { count = c.args.count }) (λ b. refl) c.self.invariant.joined c.set_count.ensures;
  told =
      let w = some_place c.self.inside.objects.slots c.in-Some.slot.0 c.args.name c.in-Some.ensures.found in
      part_counted c.self.inside.objects c.self.inside.stacks.stacks c.self.inside.processes c.in-Some.slot.0 w.0 w.1
      (λ b. record b { count = c.args.count }) c.set_count.new.self c.self.inside.first_new c.self.inside.counts refl refl c.self.invariant.told c.set_count.ensures;
}

pub returns-in-Some : goal.returns-in-Some
returns-in-Some c =
    rw (← c.self.view_is)
    (part_told c.self.inside.objects c.set_count.new.self c.self.inside.queues c.self.inside.processes c.self.inside.stacks c.self.inside.first_new c.self.inside.events
    c.self.inside.limit c.in-Some.slot.0 c.args.name (λ b. record b { count = c.args.count }) (λ o. record o { count = c.args.count }) c.in-Some.ensures.apart
    c.in-Some.ensures.found (λ b procs. refl) c.set_count.ensures)

pub returns-in_default : goal.returns-in_default
returns-in_default c =
    rw (← c.self.view_is) (missing_told c.self.inside.objects c.self.inside.queues c.self.inside.processes c.self.inside.stacks c.self.inside.first_new c.self.inside.events
    c.self.inside.limit c.args.name _ c.in_default.ensures.none)
