use Rattle.std.proofs.Common.{◌≡◌, drop}
use Rattle.hk_plain.specs.Changes.{objects_with}
use Rattle.hk_plain.proofs.tables.Tables.put_objects.Given as goal

abbrev pub invariant-loop-at : goal.invariant-loop-at
invariant-loop-at l = l.self ≡ record l.fn.self { objects = objects_with (drop l.at l.gone) l.fn.self.objects }
