use Rattle.std.proofs.Common.{◌≡◌, drop}
use Rattle.hk_objects.specs.Slots.{place}
use Rattle.hk_reclaim.specs.Marks.{Marked}
use Rattle.hk_reclaim.specs.Naming.{names_in, named_in}
use Rattle.hk_reclaim.specs.Reach.{Grows}
use Rattle.hk_reclaim.proofs.reach.mark_names.Given as goal

abbrev pub invariant-loop-entry : goal.invariant-loop-entry
invariant-loop-entry l = record {
  grows : (final : Marked) → Grows l.fn.first_new l.objects.slots (named_in (drop l.entry-index l.entry-items)) l.marks final
      → Grows l.fn.first_new l.objects.slots (names_in (place l.objects.slots l.fn.slot.0)) l.fn.marks final;
  size : l.marks.size ≡ l.fn.marks.size;
}
