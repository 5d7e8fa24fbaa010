use Rattle.std.specs.Prelude.{◌≡◌, ◌≤◌, ◌-◌, length}
use Rattle.hk_model.specs.Limits.{local_limit}
use Rattle.hk_model.specs.Control.{here, next_from}
use Rattle.hk_program.proofs.running.run_locals.Given as goal

-- what is next behind the instructions so far is what is next behind all
abbrev pub invariant-loop-turn : goal.invariant-loop-turn
invariant-loop-turn l = record {
  rest : next_from (local_limit - l._turn) l.code.steps l.frame (here l.code.steps l.frame)
      ≡ next_from local_limit l.code.steps l.fn.frame (here l.code.steps l.fn.frame);
  inside : l.frame.at ≤ length l.code.steps;
  code : l.frame.code ≡ l.fn.frame.code;
}
