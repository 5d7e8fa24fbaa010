use Rattle.std.proofs.Common.{drop}
use Rattle.hk_reclaim.specs.Tally.{Tally}
use Rattle.hk_table.specs.Held.{CanRelease, Releases}
use Rattle.hk_table.specs.Settled.{stack_names}
use Rattle.hk_table.proofs.counting.release_stack.Given as goal

-- what is left can be done, and with it all is
abbrev pub invariant-loop-at : goal.invariant-loop-at
invariant-loop-at l = record {
  can : CanRelease l.objects.slots (stack_names (drop l.at l.stack)) l.counts;
  more : (final : Tally) → Releases l.objects.slots (stack_names (drop l.at l.stack)) l.counts final → Releases l.objects.slots (stack_names l.stack) l.fn.counts final;
}
