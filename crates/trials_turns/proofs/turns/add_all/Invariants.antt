use Rattle.hk_turn.specs.Turns.{IsPassOf}
use Rattle.trials_turns.proofs.turns.add_all.Given as goal

-- the pass is of these turns
abbrev pub invariant-loop-number : goal.invariant-loop-number
invariant-loop-number g l = IsPassOf l.turns l.pass
