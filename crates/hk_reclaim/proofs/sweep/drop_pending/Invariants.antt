use Rattle.std.proofs.Common.{◌≡◌, ◌↔◌, ℕ, IsTrue}
use Rattle.hk_model.specs.declared.names.Name.{Name}
use Rattle.hk_reclaim.specs.Kept.{HasLost, taken}
use Rattle.hk_reclaim.specs.Reach.{IsDropped}
use Rattle.hk_reclaim.specs.Tally.{AreCounted, SameOutside}
use Rattle.hk_reclaim.proofs.sweep.drop_pending.Given as goal

abbrev pub invariant-loop-slot : goal.invariant-loop-slot
invariant-loop-slot l = record {
  dropped : (owed : Name → ℕ) → AreCounted l.fn.objects.slots owed l.fn.numbers → IsDropped l.fn.numbers.first_new l.fn.numbers.outside owed l.fn.objects.slots l.objects.slots;
  counted : (owed : Name → ℕ) → AreCounted l.fn.objects.slots owed l.fn.numbers → AreCounted l.objects.slots owed l.numbers;
  outside : SameOutside l.fn.numbers l.numbers;
  next : l.objects.next ≡ l.fn.objects.next;
  lost : IsTrue l.removed ↔ HasLost l.fn.objects.slots l.objects.slots;
}

abbrev pub decreases-loop-slot : goal.decreases-loop-slot
decreases-loop-slot l = taken l.objects.slots
