use Rattle.std.proofs.Common.{◌≡◌, List, Option, Some, subst, sym}
use Rattle.std.specs.Prelude.{IfSome}
use Rattle.hk_model.specs.declared.lines.Line.{Line}
use Rattle.hk_model.specs.Running.{AreStepsOf, after_lines, opened, step}
use Rattle.hk_program.proofs.Machines.{IsLonger, steps_snoc}
use Rattle.trials_told.proofs.histories.first_steps.Goals as goal

-- one step more: the lines are steps still, and lead to the machine behind it
pub loop-preserved : goal.loop-preserved
loop-preserved c =
    let w = c.args.world.now in
    let line = c.in-Some.line in
    let made : step w c.loop.machine (record { 0 = 0 }) ≡ Some (line, c.step.new.machine) =
    subst (λ (found : Option Line). IfSome found (λ l. step w c.loop.machine (record { 0 = 0 }) ≡ Some (l, c.step.new.machine))) c.in-Some.is c.in_ok-line.ensures.made in
    let longer : IsLonger w c.loop.lines line c.step.new.machine =
    steps_snoc w c.loop.lines c.loop.machine (record { 0 = 0 }) line c.step.new.machine c.loop.invariant.steps c.loop.invariant.leads made in
    let same = sym c.in_ok-push.ensures.ok in
    record {
      steps = subst (λ (lines : List Line). AreStepsOf w lines) same longer.steps;
      leads = subst (λ (lines : List Line). c.step.new.machine ≡ after_lines w (opened w) lines) same longer.is;
      sound = c.step.ensures.sound;
    }
