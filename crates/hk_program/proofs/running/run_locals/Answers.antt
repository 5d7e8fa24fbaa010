use Rattle.std.proofs.Common.{arith, ◌-◌, ◌∙◌, sym}
use Rattle.hk_model.specs.Limits.{local_limit}
use Rattle.hk_program.proofs.Locals.{next_is_call, next_is_local}
use Rattle.hk_program.proofs.running.run_locals.Goals as goal

pub returns-then-not-step_here-clause-rest : goal.returns-then-not-step_here-clause-rest
returns-then-not-step_here-clause-rest c =
    sym (next_is_call (local_limit - c.loop-turn._turn) c.args.code.now.steps c.loop-turn.frame c.step_here.new.frame
    c.if-not-step_here.ensures.local c.step_here.ensures.left)
    ∙ c.loop-turn.invariant.rest

pub loop-turn-preserved : goal.loop-turn-preserved
loop-turn-preserved c = record {
  rest = sym (next_is_local local_limit c.loop-turn._turn c.args.code.now.steps c.loop-turn.frame c.step_here.new.frame (omega (arith, c.loop-turn-test.true))
      c.if-not-step_here.ensures.local c.step_here.ensures.left)
      ∙ c.loop-turn.invariant.rest;
  inside = c.step_here.ensures.inside;
  code = c.step_here.ensures.code ∙ c.loop-turn.invariant.code;
}
