-- What stands at the end is found from what stands here.
use Rattle.std.proofs.Common.{◌≡◌, ◌<◌}
use Rattle.std.specs.Prelude.{drop}
use Rattle.hk_model.specs.Places.{walk_end}
use Rattle.hk_trace.specs.Held.{held_at, held_last}
use Rattle.hk_trace.proofs.standing.at_end.Given as goal

pub record Ending (started rest : Type 0) : Type 0 where
  pub some : started
  pub ends : rest

abbrev pub invariant-loop-step : goal.invariant-loop-step
invariant-loop-step l = Ending (0 < l.step) (held_last l.kernel l.held (drop l.step l.path) ≡ held_at l.kernel (walk_end l.kernel l.fn.inc l.path))
