use Rattle.std.proofs.Common.{◌≡◌, All, length}
use Rattle.hk_model.specs.declared.lines.Line.{Line}
use Rattle.hk_model.specs.Running.{AreStepsOf, after_lines, opened}
use Rattle.hk_program.specs.Machines.{IsSound}
use Rattle.refusals.specs.Refusals.{first_processor}
use Rattle.refusals.proofs.run.first_steps.Given as goal

-- the lines are steps of the world, each of the first processor, one a turn, and the machine is the one that they lead to,
-- which is sound
abbrev pub invariant-loop : goal.invariant-loop
invariant-loop g l = record {
  steps : AreStepsOf l.world l.lines;
  leads : l.machine ≡ after_lines l.world (opened l.world) l.lines;
  sound : IsSound l.world l.machine;
  alone : All (λ (line : Line). line.cpu ≡ first_processor) l.lines;
  many : length l.lines ≡ l.counter;
}
