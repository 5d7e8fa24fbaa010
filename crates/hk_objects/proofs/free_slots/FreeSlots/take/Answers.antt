use Rattle.std.proofs.Common.{ℕ, List, arith, ap, sym, ◌∙◌}
use Rattle.std.proofs.lemmas.List.{append-nil}
use Rattle.hk_objects.specs.Idle.{idle}
use Rattle.hk_objects.proofs.Frees.{given_taken, fresh_taken, idle_none, no_items}
use Rattle.hk_objects.proofs.free_slots.FreeSlots.take.Goals as goal

pub invariant_of-self : goal.invariant_of-self
invariant_of-self c = record {
  slots = (given_taken c.self.inside.given.items c.pop.new.self c.self.inside.fresh c.in-Some.slot c.in-Some.ensures.items c.self.invariant.slots).left;
  low = c.self.invariant.low;
  room = omega (arith, c.in-Some.ensures.capacity, c.self.invariant.room);
}

pub returns-in-Some-clause-slot : goal.returns-in-Some-clause-slot
returns-in-Some-clause-slot c =
    (given_taken c.self.inside.given.items c.pop.new.self c.self.inside.fresh c.in-Some.slot c.in-Some.ensures.items c.self.invariant.slots).low

pub returns-in-Some-clause-among : goal.returns-in-Some-clause-among
returns-in-Some-clause-among c =
    rw (← c.self.view_is)
    ((given_taken c.self.inside.given.items c.pop.new.self c.self.inside.fresh c.in-Some.slot c.in-Some.ensures.items c.self.invariant.slots).among)

pub returns-in-Some-clause-rest : goal.returns-in-Some-clause-rest
returns-in-Some-clause-rest c =
    rw (← c.self.view_is)
    ((given_taken c.self.inside.given.items c.pop.new.self c.self.inside.fresh c.in-Some.slot c.in-Some.ensures.items c.self.invariant.slots).rest)

pub returns-then-self-eq-SLOTS-clause-none : goal.returns-then-self-eq-SLOTS-clause-none
returns-then-self-eq-SLOTS-clause-none c =
    rw (← c.self.view_is)
    (idle_none c.self.inside.given.items c.self.inside.fresh (no_items c.self.inside.given c.in_default.ensures.cases.0) c.if-self-eq-SLOTS.true)

pub returns-then-self-eq-SLOTS-clause-same : goal.returns-then-self-eq-SLOTS-clause-same
returns-then-self-eq-SLOTS-clause-same c =
    rw (← c.self.view_is) (ap (λ (xs : List ℕ). idle xs c.self.inside.fresh) (sym (c.in_default.ensures.items ∙ append-nil c.pop.new.self.items)))

pub invariant_of-self-2 : goal.invariant_of-self-2
invariant_of-self-2 c = record {
  slots = (fresh_taken c.self.inside.given.items c.pop.new.self c.self.inside.fresh c.in_default.ensures.items
      (no_items c.self.inside.given c.in_default.ensures.cases.0) (omega arith) c.self.invariant.slots).left;
  low = omega arith;
  room = omega (arith, c.in_default.ensures.capacity, c.self.invariant.room);
}

pub returns-clause-among : goal.returns-clause-among
returns-clause-among c =
    rw (← c.self.view_is)
    ((fresh_taken c.self.inside.given.items c.pop.new.self c.self.inside.fresh c.in_default.ensures.items
    (no_items c.self.inside.given c.in_default.ensures.cases.0) (omega arith) c.self.invariant.slots).among)

pub returns-clause-rest : goal.returns-clause-rest
returns-clause-rest c =
    rw (← c.self.view_is)
    ((fresh_taken c.self.inside.given.items c.pop.new.self c.self.inside.fresh c.in_default.ensures.items
    (no_items c.self.inside.given c.in_default.ensures.cases.0) (omega arith) c.self.invariant.slots).rest)
