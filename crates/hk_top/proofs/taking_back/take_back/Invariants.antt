use Rattle.hk_top.proofs.TakenBack.{IsBack}
use Rattle.hk_top.proofs.taking_back.take_back.Given as goal

-- so many lines were taken back
abbrev pub invariant-loop : goal.invariant-loop
invariant-loop l = IsBack l.initial.past l.fn.moment l.counter l.past
