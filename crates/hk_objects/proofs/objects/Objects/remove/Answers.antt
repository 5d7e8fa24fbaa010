use Rattle.std.proofs.Common.{IsSome, ◌<◌, subst, sym, arith}
use Rattle.hk_objects.specs.Slots.{place}
use Rattle.hk_objects.specs.Shelf.{Shelf}
use Rattle.hk_objects.proofs.Standing.{within_some}
use Rattle.hk_objects.proofs.Tables.{table_gone}
use Rattle.hk_objects.proofs.InPlace.{gone_in_place}
use Rattle.hk_objects.proofs.objects.Objects.remove.Goals as goal

pub invariant_of-self : goal.invariant_of-self
invariant_of-self c =
    let h = c.self.invariant.0 in
    let inside = within_some c.self.inside.slots c.args.slot.0 (subst (λ (v : Shelf). IsSome (place v.slots c.args.slot.0)) (sym c.self.view_is) c.requires) in
    let low : c.args.slot.0 < 65536 = omega (arith, inside, h.shelf.room) in
    rw (c.give.ensures, c.clear.ensures, c.clear-2.ensures) (
      table_gone _ _ _ _ h c.args.slot.0 low,
      gone_in_place _ c.args.slot.0 _ _ inside (omega (arith, c.min-self-inside.ensures)) (omega (arith, c.min-self-inside.ensures)) c.self.invariant.1,
    )
