use Rattle.std.proofs.Common.{◌≡◌, map, take}
use Rattle.hk_model.proofs.paths.Args.new.Given as goal

abbrev pub invariant-loop-slot : goal.invariant-loop-slot
invariant-loop-slot l = l.args ≡ map (λ s. s.0) (take l.slot-index l.at)
