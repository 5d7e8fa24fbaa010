use Rattle.std.proofs.Common.{◌≡◌, take, map}
use Rattle.hk_model.specs.Rule.{argument}
use Rattle.hk_model.specs.State.{process}
use Rattle.hk_table.proofs.parts.Parts.args.Given as goal

abbrev pub invariant-loop-i : goal.invariant-loop-i
invariant-loop-i l = take l.i l.places ≡ map (argument l.self (process l.self l.proc).current) (take l.i l.slots)
