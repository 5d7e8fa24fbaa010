use Rattle.hk_program.specs.Machines.{IsSound}
use Rattle.both_kernels.proofs.histories.make_lines.Given as goal

-- both machines stand behind a history of the world
abbrev pub invariant-loop-count : goal.invariant-loop-count
invariant-loop-count g l = record {
  plain : IsSound l.world l.plain;
  table : IsSound l.world l.table;
}
