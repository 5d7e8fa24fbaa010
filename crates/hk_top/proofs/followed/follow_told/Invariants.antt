use Rattle.std.proofs.Common.{length}
use Rattle.hk_program.specs.Machines.{IsSound}
use Rattle.hk_top.proofs.FollowedRuns.{IsToldWay}
use Rattle.hk_top.proofs.followed.follow_told.Given as goal

-- the lines that were read lead to the machine, and were told
abbrev pub invariant-loop-cpu : goal.invariant-loop-cpu
invariant-loop-cpu l = record {
  way : IsToldWay l.world l.fn.reader l.reader l.told;
  sound : IsSound l.world l.told.machine;
}

abbrev pub decreases-loop-cpu : goal.decreases-loop-cpu
decreases-loop-cpu l = length l.reader
