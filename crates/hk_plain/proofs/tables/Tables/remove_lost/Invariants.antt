use Rattle.std.proofs.Common.{◌≡◌, length}
use Rattle.hk_model.specs.Keeping.{restricted}
use Rattle.hk_plain.specs.Removing.{ObjectsWent}
use Rattle.hk_plain.proofs.tables.Tables.remove_lost.Given as goal

-- what is left is what was to be left, and what went is kept
abbrev pub invariant-loop-lost : goal.invariant-loop-lost
invariant-loop-lost l = record {
  left : restricted l.self ≡ restricted l.initial.self;
  went : ObjectsWent l.initial.self.objects l.self.objects l.initial.removed l.removed;
}

abbrev pub decreases-loop-lost : goal.decreases-loop-lost
decreases-loop-lost l = length l.self.objects
