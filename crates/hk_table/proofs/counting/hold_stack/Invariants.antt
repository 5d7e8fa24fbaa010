use Rattle.std.proofs.Common.{drop}
use Rattle.hk_reclaim.specs.Tally.{Tally}
use Rattle.hk_table.specs.Held.{CanHold, Holds}
use Rattle.hk_table.specs.Settled.{stack_names}
use Rattle.hk_table.proofs.counting.hold_stack.Given as goal

-- what is left can be done, and with it all is
abbrev pub invariant-loop-at : goal.invariant-loop-at
invariant-loop-at l = record {
  can : CanHold l.objects.slots (stack_names (drop l.at l.stack)) l.counts;
  more : (final : Tally) → Holds l.objects.slots (stack_names (drop l.at l.stack)) l.counts final → Holds l.objects.slots (stack_names l.stack) l.fn.counts final;
}
