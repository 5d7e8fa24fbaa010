use Rattle.std.proofs.Common.{◌≡◌, ◌+◌, All, length, List, [], ◌∷◌, ◌++◌, Option, Some, subst, sym, arith}
use Rattle.std.specs.Prelude.{IfSome}
use Rattle.std.proofs.lemmas.List.{length-append}
use Rattle.std.proofs.lemmas.List.Elements.{All-push}
use Rattle.hk_model.specs.declared.lines.Line.{Line}
use Rattle.hk_model.specs.Running.{AreStepsOf, Machine, after_lines, opened, step}
use Rattle.hk_program.proofs.Machines.{IsLonger, step_cpu, steps_snoc}
use Rattle.refusals.specs.Refusals.{first_processor}
use Rattle.refusals.proofs.run.first_steps.Goals as goal

-- one step more: the lines are steps of the first processor still, and lead to the machine behind it
pub loop-preserved : goal.loop-preserved
loop-preserved g c =
    let w = c.args.world.now in
    let line = c.in-Some.line in
    let made : step w c.loop.machine first_processor ≡ Some (line, c.step.new.self) =
    subst (λ (found : Option Line). IfSome found (λ l. step w c.loop.machine first_processor ≡ Some (l, c.step.new.self))) c.in-Some.is c.in_ok-line.ensures.made in
    let longer : IsLonger w c.loop.lines line c.step.new.self =
    steps_snoc w c.loop.lines c.loop.machine first_processor line c.step.new.self c.loop.invariant.steps c.loop.invariant.leads made in
    let cpu_is : line.cpu ≡ first_processor =
    subst (λ (found : Option (Line × Machine)). IfSome found (λ f. f.0.cpu ≡ first_processor)) made (step_cpu w c.loop.machine first_processor) in
    let same : c.loop.lines ++ line ∷ [] ≡ c.push.new.self = sym c.in_ok-push.ensures.ok in
    record {
      steps = subst (λ (lines : List Line). AreStepsOf w lines) same longer.steps;
      leads = subst (λ (lines : List Line). c.step.new.self ≡ after_lines w (opened w) lines) same longer.is;
      sound = c.step.ensures.sound;
      alone = subst (λ (lines : List Line). All (λ (l : Line). l.cpu ≡ first_processor) lines) same
          (All-push (λ (l : Line). l.cpu ≡ first_processor) c.loop.lines line c.loop.invariant.alone cpu_is);
      many = subst (λ (lines : List Line). length lines ≡ c.loop.counter + 1) same (omega (arith, length-append c.loop.lines (line ∷ []), c.loop.invariant.many));
    }
