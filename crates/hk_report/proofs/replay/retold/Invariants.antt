-- The lines so far are told.
use Rattle.std.specs.Prelude.{take}
use Rattle.hk_program.specs.Machines.{IsSound}
use Rattle.hk_report.specs.Retold.{IsRetold}
use Rattle.hk_report.proofs.replay.retold.Given as goal

abbrev pub invariant-loop-line : goal.invariant-loop-line
invariant-loop-line l = IsRetold l.world (take l.line-index l.lines) l.told × IsSound l.world l.told.machine
