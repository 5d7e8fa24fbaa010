use Rattle.std.proofs.Common.{◌≡◌, ◌≤◌, drop, length}
use Rattle.hk_table.specs.Stacked.{live_from}
use Rattle.hk_table.proofs.shown.all_incarnations.Given as goal

abbrev pub invariant-loop-n : goal.invariant-loop-n
invariant-loop-n l = record { within : l.n ≤ length l.stacks; all : l.all.entries ≡ live_from l.n (drop l.n l.stacks) }

abbrev pub decreases-loop-n : goal.decreases-loop-n
decreases-loop-n l = l.n
