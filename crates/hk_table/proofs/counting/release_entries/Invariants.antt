use Rattle.std.proofs.Common.{drop}
use Rattle.hk_reclaim.specs.Naming.{named_in}
use Rattle.hk_reclaim.specs.Tally.{Tally}
use Rattle.hk_table.specs.Held.{CanRelease, Releases}
use Rattle.hk_table.proofs.counting.release_entries.Given as goal

-- what is left can be done, and with it all is
abbrev pub invariant-loop-entry : goal.invariant-loop-entry
invariant-loop-entry l = record {
  can : CanRelease l.objects.slots (named_in (drop l.entry-index l.entries)) l.counts;
  more : (final : Tally) → Releases l.objects.slots (named_in (drop l.entry-index l.entries)) l.counts final
      → Releases l.objects.slots (named_in l.entries) l.fn.counts final;
}
