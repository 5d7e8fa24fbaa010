use Rattle.std.proofs.Common.{◌≡◌, take, map}
use Rattle.hk_model.specs.Rule.{argument}
use Rattle.hk_plain.proofs.tables.Tables.args.Given as goal

abbrev pub invariant-loop-slot : goal.invariant-loop-slot
invariant-loop-slot l = l.args.items ≡ map (argument l.self l.inc) (take l.slot-index l.slots)
