use Rattle.std.proofs.Common.{◌≡◌, refl, ap, ◌∙◌, set, None}
use Rattle.hk_objects.specs.Shelf.{Shelf}
use Rattle.hk_reclaim.proofs.Settling.{pending_stands, turn_lost, turn_smaller, outside_more}
use Rattle.hk_reclaim.proofs.Releasing.{same_tally}
use Rattle.hk_reclaim.proofs.Sweeping.{drop_step, drop_counted}
use Rattle.hk_reclaim.proofs.sweep.drop_pending.Goals as goal

pub loop-slot-smaller : goal.loop-slot-smaller
loop-slot-smaller c =
    let i = c.loop-slot.invariant in
    turn_smaller _ _ _ (pending_stands _ _ _ _ (i.counted c.requires.0 c.requires.1) c.in-Some.ensures.some) (ap (λ (v : Shelf). v.slots) c.remove.ensures)

pub loop-slot-preserved : goal.loop-slot-preserved
loop-slot-preserved c =
    let i = c.loop-slot.invariant in
    let p = c.in-Some.ensures.some in
    let e : c.remove.new.self.slots ≡ set c.loop-slot.objects.slots c.in-Some.slot.0 None = ap (λ (v : Shelf). v.slots) c.remove.ensures in
    record {
      dropped = λ owed a. drop_step _ _ owed _ _ _ _ c.in-Some.slot.0 i.outside.first_new i.outside.outside p e (i.counted owed a) (i.dropped owed a);
      counted = λ owed a. drop_counted _ _ owed _ _ c.in-Some.slot.0 p e c.clear_pending.ensures (i.counted owed a);
      outside = outside_more _ _ _ _ _ i.outside (same_tally c.loop-slot.numbers c.loop-slot.numbers refl) c.clear_pending.ensures;
      next = ap (λ (v : Shelf). v.next) c.remove.ensures ∙ i.next;
      lost = (λ _. turn_lost _ _ _ c.in-Some.slot.0 (i.dropped c.requires.0 c.requires.1).part (pending_stands _ _ _ _ (i.counted c.requires.0 c.requires.1) p) e, λ _. refl);
    }

pub remove-requires : goal.remove-requires
remove-requires c = pending_stands _ _ _ _ (c.loop-slot.invariant.counted c.requires.0 c.requires.1) c.in-Some.ensures.some

pub clear_pending-requires : goal.clear_pending-requires
clear_pending-requires c =
    let a = c.loop-slot.invariant.counted c.requires.0 c.requires.1 in
    a.room c.in-Some.slot.0 (pending_stands _ _ _ _ a c.in-Some.ensures.some)
