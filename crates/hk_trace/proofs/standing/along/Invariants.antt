-- What stands at the steps to come is found from the object that the last one named.
use Rattle.std.proofs.Common.{◌≡◌, ◌<◌, ◌++◌, map}
use Rattle.std.specs.Prelude.{drop}
use Rattle.hk_model.specs.Places.{passed}
use Rattle.hk_trace.specs.Held.{held_at, held_along}
use Rattle.hk_trace.proofs.standing.along.Given as goal

pub record Going (started rest : Type 0) : Type 0 where
  pub some : started
  pub ends : rest

abbrev pub invariant-loop-step : goal.invariant-loop-step
invariant-loop-step l = Going (0 < l.step) (l.all.items ++ held_along l.kernel l.name (drop l.step l.path) ≡ map (held_at l.kernel) (passed l.kernel l.fn.inc l.path))
