use Rattle.std.proofs.Common.{◌≡◌, ◌+◌, ◌≤◌, drop}
use Rattle.hk_model.specs.declared.entries.Entry.TheVariants.{Held}
use Rattle.hk_model.specs.Walking.{walk_on}
use Rattle.hk_walk.specs.Walks.{seen}
use Rattle.hk_walk.proofs.hops.walk_on.Given as goal

-- what is left of the walk from here on is the whole walk
abbrev pub invariant-loop-step : goal.invariant-loop-step
invariant-loop-step g l = record {
  rest : walk_on (seen l.objects.slots) l.entry (drop l.step l.rest) l.step ≡ walk_on (seen l.objects.slots) (Held l.from) l.rest 0;
  cost : l.steps ≤ l.fn.steps + l.step;
}
