use Rattle.std.specs.Prelude.{take}
use Rattle.hk_check.specs.Replays.{IsReplay}
use Rattle.hk_check.proofs.checking.first_misstep.Given as goal

-- the lines so far are steps
abbrev pub invariant-loop-before : goal.invariant-loop-before
invariant-loop-before g l = IsReplay l.world (take l.before l.lines) l.machine
