use Rattle.std.proofs.Common.{◌≡◌, length, drop}
use Rattle.hk_objects.specs.Slots.{place}
use Rattle.hk_reclaim.specs.Naming.{names_in, named_in}
use Rattle.hk_reclaim.proofs.Leaving.{IsLeftFor}
use Rattle.hk_reclaim.proofs.made.take_off_names.Given as goal

abbrev pub invariant-loop-entry : goal.invariant-loop-entry
invariant-loop-entry l = record {
  left : IsLeftFor l.fn.first_new l.objects.slots (names_in (place l.objects.slots l.fn.slot.0)) l.fn.left (named_in (drop l.entry-index l.entry-items)) l.left;
  size : length l.left ≡ length l.fn.left;
}
