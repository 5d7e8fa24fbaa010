use Rattle.hk_program.specs.Machines.{IsSound}
use Rattle.both_kernels.proofs.histories.some_step.Given as goal

-- both machines stand behind a history of the world
abbrev pub invariant-loop-k : goal.invariant-loop-k
invariant-loop-k g l = record {
  plain : IsSound l.world l.plain;
  table : IsSound l.world l.table;
}
