use Rattle.std.proofs.Common.{◌-◌}
use Rattle.hk_program.specs.Machines.{IsSound}
use Rattle.hk_top.proofs.WrittenRuns.{IsTold}
use Rattle.hk_top.proofs.written.write_run.Given as goal

-- the record so far is of a history of processor 0, and the machine stands behind it
abbrev pub invariant-loop-writer : goal.invariant-loop-writer
invariant-loop-writer g l = record {
  told : IsTold l.world l.writer l.machine;
  sound : IsSound l.world l.machine;
}

abbrev pub decreases-loop-writer : goal.decreases-loop-writer
decreases-loop-writer g l = l.machine.state.limit - l.machine.state.events
