use Rattle.std.proofs.Common.{ℕ, drop}
use Rattle.hk_model.specs.declared.names.Name.{Name}
use Rattle.hk_objects.specs.Slots.{place}
use Rattle.hk_reclaim.specs.Naming.{names_in, named_in}
use Rattle.hk_reclaim.specs.Tally.{AreCounted, owing, SameOutside}
use Rattle.hk_reclaim.proofs.numbers.Numbers.release_names.Given as goal

abbrev pub invariant-loop-entry : goal.invariant-loop-entry
invariant-loop-entry l = record {
  counted : (owed : Name → ℕ) → AreCounted l.objects.slots (owing owed (names_in (place l.objects.slots l.fn.slot.0))) l.fn.self
      → AreCounted l.objects.slots (owing owed (named_in (drop l.entry-index l.entry-items))) l.self;
  outside : SameOutside l.fn.self l.self;
}
