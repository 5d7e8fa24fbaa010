use Rattle.std.proofs.Common.{◌≡◌, List, ℕ, arith, false, sym, subst}
use Rattle.hk_objects.specs.Indexed.{has}
use Rattle.hk_objects.proofs.Frees.{one_more, idle_given, room_given}
use Rattle.hk_objects.proofs.free_slots.FreeSlots.give.Goals as goal

pub push_reserved-requires : goal.push_reserved-requires
push_reserved-requires c =
    let free = subst (λ (xs : List ℕ). has xs c.args.slot ≡ false) (sym c.self.view_is) c.requires.taken in
    let room = room_given c.self.inside.given.items c.self.inside.fresh c.args.slot c.self.invariant.slots c.requires.slot free in
    omega (arith, room, c.self.invariant.room)

pub invariant_of-self : goal.invariant_of-self
invariant_of-self c =
    let free = subst (λ (xs : List ℕ). has xs c.args.slot ≡ false) (sym c.self.view_is) c.requires.taken in
    record {
      slots = rw (c.push_reserved.ensures.items, idle_given) (one_more _ c.args.slot c.self.invariant.slots c.requires.slot free);
      low = c.self.invariant.low;
      room = omega (arith, c.push_reserved.ensures.capacity, c.self.invariant.room);
    }

pub returns : goal.returns
returns c = rw (← c.self.view_is, c.push_reserved.ensures.items) (idle_given c.self.inside.given.items c.self.inside.fresh c.args.slot)
