use Rattle.std.proofs.Common.{◌≡◌, ◌++◌, take, drop}
use Rattle.hk_plain.specs.Stacks.{placed}
use Rattle.hk_plain.proofs.stacks.Stack.place_of.Given as goal

abbrev pub invariant-loop-at : goal.invariant-loop-at
invariant-loop-at l = take l.at l.self ++ placed l.inc (drop l.at l.self) ≡ placed l.inc l.self
