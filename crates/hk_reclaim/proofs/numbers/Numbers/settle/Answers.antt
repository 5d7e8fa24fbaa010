use Rattle.std.proofs.Common.{◌≡◌, [], refl, ap, ◌∙◌, set, None}
use Rattle.hk_objects.specs.Shelf.{Shelf}
use Rattle.hk_objects.proofs.Standing.{within_some}
use Rattle.hk_reclaim.specs.Naming.{namings}
use Rattle.hk_reclaim.proofs.Counting.{owing_own}
use Rattle.hk_reclaim.proofs.Settling.{pending_stands, turn_counted, turn_settling, turn_lost, turn_smaller, outside_more, settled}
use Rattle.hk_reclaim.proofs.numbers.Numbers.settle.Goals as goal

pub release_names-requires-clause-counted : goal.release_names-requires-clause-counted
release_names-requires-clause-counted c =
    let i = c.loop-slot.invariant in
    (namings (set c.loop-slot.objects.slots c.in-Some.slot.0 None), owing_own _ _ _ (within_some _ _ (pending_stands _ _ _ _ i.counted c.in-Some.ensures.some)) i.counted)

pub loop-slot-smaller : goal.loop-slot-smaller
loop-slot-smaller c =
    let i = c.loop-slot.invariant in
    turn_smaller _ _ _ (pending_stands _ _ _ _ i.counted c.in-Some.ensures.some) (ap (λ (v : Shelf). v.slots) c.remove.ensures)

pub loop-slot-preserved : goal.loop-slot-preserved
loop-slot-preserved c =
    let i = c.loop-slot.invariant in
    let p = c.in-Some.ensures.some in
    let e : c.remove.new.self.slots ≡ set c.loop-slot.objects.slots c.in-Some.slot.0 None = ap (λ (v : Shelf). v.slots) c.remove.ensures in
    record {
      counted = turn_counted _ _ _ _ _ _ i.counted p c.release_names.ensures.counted c.release_names.ensures.outside c.clear_pending.ensures e;
      settling = turn_settling _ _ _ _ _ _ _ c.read_apart.ensures i.outside.first_new i.outside.outside i.counted p e i.settling;
      outside = outside_more _ _ _ _ _ i.outside c.release_names.ensures.outside c.clear_pending.ensures;
      next = ap (λ (v : Shelf). v.next) c.remove.ensures ∙ i.next;
      lost = (λ _. turn_lost _ _ _ _ i.settling.part (pending_stands _ _ _ _ i.counted p) e, λ _. refl);
    }

pub returns-clause-kept : goal.returns-clause-kept
returns-clause-kept c =
    let i = c.loop-slot.invariant in
    let none : c.loop-slot.self.pending ≡ [] = c.in_default.ensures.none refl in
    settled _ _ _ _ _ i.outside.first_new i.outside.outside i.counted none i.settling
