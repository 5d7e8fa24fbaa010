use Rattle.std.proofs.Common.{◌≡◌, length, map, take}
use Rattle.hk_model.specs.Control.{index_of}
use Rattle.hk_program.proofs.operands.path_of_all.Given as goal

-- the indices so far are worth what the route's are
abbrev pub invariant-loop-step : goal.invariant-loop-step
invariant-loop-step l = record {
  room : length l.indices ≡ 8;
  worth : take l.step l.indices ≡ map (index_of l.frame) (take l.step l.route);
}
