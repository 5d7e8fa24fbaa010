use Rattle.std.proofs.Common.{◌≡◌, ◌<◌, ◌-◌, drop}
use Rattle.hk_model.specs.Walking.{walk, walk_on}
use Rattle.hk_plain.proofs.tables.Tables.walk.Given as goal

-- the rest of the walk gives what the whole walk does
abbrev pub invariant-loop-step : goal.invariant-loop-step
invariant-loop-step l = record {
  started : 0 < l.step;
  rest : walk_on l.self l.entry (drop l.step l.path) (l.step - 1) ≡ walk l.self l.fn.inc l.path;
}
