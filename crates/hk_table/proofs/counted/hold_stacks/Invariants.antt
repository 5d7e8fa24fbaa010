use Rattle.std.proofs.Common.{drop}
use Rattle.hk_reclaim.specs.Tally.{Tally}
use Rattle.hk_table.specs.Held.{CanHold, Holds}
use Rattle.hk_table.specs.Settled.{all_names}
use Rattle.hk_table.proofs.counted.hold_stacks.Given as goal

-- what is left can be done, and with it all is
abbrev pub invariant-loop-n : goal.invariant-loop-n
invariant-loop-n l = record {
  can : CanHold l.objects.slots (all_names (drop l.n l.stacks)) l.counts;
  more : (final : Tally) → Holds l.objects.slots (all_names (drop l.n l.stacks)) l.counts final → Holds l.objects.slots (all_names l.stacks) l.fn.counts final;
}
