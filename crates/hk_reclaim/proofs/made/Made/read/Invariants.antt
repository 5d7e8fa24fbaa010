use Rattle.std.proofs.Common.{◌≡◌, ℕ, List, length}
use Rattle.hk_reclaim.specs.Made.{AreMade, AreLeft, IsFirst, IsHalfLeft}
use Rattle.hk_reclaim.specs.Naming.{namings}
use Rattle.hk_reclaim.proofs.made.Made.read.Given as goal

abbrev pub invariant-loop-i : goal.invariant-loop-i
invariant-loop-i l = record {
  stands : AreMade l.first_new l.objects.slots l.self.stands;
  left : (outside : List ℕ) → AreLeft l.first_new l.objects.slots outside (namings l.objects.slots) l.total → IsHalfLeft l.first_new l.objects.slots outside l.i l.self.left;
  stands_size : length l.self.stands ≡ l.size;
  left_size : length l.self.left ≡ l.size;
  first : IsFirst l.self.from l.size l.self.stands;
}
