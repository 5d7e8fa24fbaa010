use Rattle.std.proofs.Common.{◌≡◌}
use Rattle.hk_model.specs.Running.{AreStepsOf, after_lines, opened}
use Rattle.hk_program.specs.Machines.{IsSound}
use Rattle.trials_told.proofs.histories.first_steps.Given as goal

-- the lines are steps of the world, and the machine is the one that they lead to
abbrev pub invariant-loop : goal.invariant-loop
invariant-loop l = record {
  steps : AreStepsOf l.world l.lines;
  leads : l.machine ≡ after_lines l.world (opened l.world) l.lines;
  sound : IsSound l.world l.machine;
}
