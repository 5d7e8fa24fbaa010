use Rattle.hk_bound.specs.Each.{Each}
use Rattle.hk_bound.specs.Merges.{IsStretch}
use Rattle.hk_bound.proofs.merging.all_stretches.Given as goal

abbrev pub invariant-loop-number : goal.invariant-loop-number
invariant-loop-number l = Each (IsStretch l.forms) l.stretches.items
