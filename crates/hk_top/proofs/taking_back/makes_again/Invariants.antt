use Rattle.std.specs.Prelude.{◌≡◌, take}
use Rattle.hk_top.proofs.TakenBack.{history}
use Rattle.hk_top.proofs.taking_back.makes_again.Given as goal

-- the lines so far were made
abbrev pub invariant-loop-line : goal.invariant-loop-line
invariant-loop-line l = l.past ≡ history l.initial.past.world (take l.line-index l.lines)
