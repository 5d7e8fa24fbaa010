use Rattle.std.proofs.Common.{◌≡◌, ◌≤◌, drop, length, None}
use Rattle.hk_table.specs.Stacked.{caller_at, live_with}
use Rattle.hk_table.proofs.shown.add_frames.Given as goal

abbrev pub invariant-loop-at : goal.invariant-loop-at
invariant-loop-at l = record { within : l.at ≤ length l.stack; all : l.all.entries ≡ live_with l.proc (caller_at None l.stack l.at) (drop l.at l.stack) l.fn.all.entries }

abbrev pub decreases-loop-at : goal.decreases-loop-at
decreases-loop-at l = l.at
