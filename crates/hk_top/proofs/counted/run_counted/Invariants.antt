use Rattle.std.proofs.Common.{◌-◌}
use Rattle.hk_program.specs.Machines.{IsSound}
use Rattle.hk_top.proofs.CountedRuns.{IsCounting}
use Rattle.hk_top.proofs.counted.run_counted.Given as goal

-- the count so far is of a history of processor 0, and the machine stands behind it
abbrev pub invariant-loop-counting : goal.invariant-loop-counting
invariant-loop-counting g l = record { counting : IsCounting l.world l.counting l.machine; sound : IsSound l.world l.machine }

abbrev pub decreases-loop-counting : goal.decreases-loop-counting
decreases-loop-counting g l = l.machine.state.limit - l.machine.state.events
