use Rattle.std.proofs.Common.{arith}
use Rattle.hk_objects.proofs.Tables.{table_make, free_place, room_left, full_table}
use Rattle.hk_objects.proofs.InPlace.{make_in_place}
use Rattle.hk_objects.proofs.objects.Objects.make.Goals as goal

pub invariant_of-self : goal.invariant_of-self
invariant_of-self c =
    let h = c.self.invariant.0 in
    let low = c.in-Some.ensures.slot in
    let free = free_place _ _ _ _ h c.in-Some.slot low c.in-Some.ensures.among in
    rw (c.put.ensures, c.put-in-Some.ensures, c.in-Some.ensures.rest) (
      table_make _ _ _ _ h c.in-Some.slot c.new.result low c.in-Some.ensures.among,
      make_in_place _ c.in-Some.slot _ c.new.result _ _ (omega (arith, low, h.shelf.room)) free c.placed-self-inside.ensures c.self.invariant.1,
    )

pub returns-in-Some-clause-room : goal.returns-in-Some-clause-room
returns-in-Some-clause-room c = rw (← c.self.view_is) (room_left _ _ _ _ c.self.invariant.0 c.in-Some.slot c.in-Some.ensures.slot c.in-Some.ensures.among)

pub returns-in-None-clause-full : goal.returns-in-None-clause-full
returns-in-None-clause-full c = rw (← c.self.view_is) (full_table _ _ _ _ c.self.invariant.0 c.in-None.ensures.none)
