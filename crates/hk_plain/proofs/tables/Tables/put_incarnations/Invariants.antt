use Rattle.std.proofs.Common.{◌≡◌, drop}
use Rattle.hk_plain.specs.Changes.{incarnations_with}
use Rattle.hk_plain.proofs.tables.Tables.put_incarnations.Given as goal

abbrev pub invariant-loop-at : goal.invariant-loop-at
invariant-loop-at l = l.self ≡ record l.fn.self { incarnations = incarnations_with (drop l.at l.left) l.fn.self.incarnations }
