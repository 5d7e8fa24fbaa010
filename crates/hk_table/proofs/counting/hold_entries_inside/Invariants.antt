use Rattle.std.proofs.Common.{drop}
use Rattle.hk_reclaim.specs.Naming.{named_in}
use Rattle.hk_reclaim.specs.Tally.{Tally}
use Rattle.hk_table.specs.Held.{CanHold, HoldsInside}
use Rattle.hk_table.proofs.counting.hold_entries_inside.Given as goal

-- what is left can be done, and with it all is
abbrev pub invariant-loop-entry : goal.invariant-loop-entry
invariant-loop-entry l = record {
  can : CanHold l.objects.slots (named_in (drop l.entry-index l.entries)) l.counts;
  more : (final : Tally) → HoldsInside l.objects.slots (named_in (drop l.entry-index l.entries)) l.counts final
      → HoldsInside l.objects.slots (named_in l.entries) l.fn.counts final;
}
