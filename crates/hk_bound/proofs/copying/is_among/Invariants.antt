use Rattle.std.proofs.Common.{◌≡◌, ℕ}
use Rattle.hk_bound.specs.Each.{EachBelow}
use Rattle.hk_bound.proofs.copying.is_among.Given as goal

abbrev pub invariant-loop-other : goal.invariant-loop-other
invariant-loop-other l = EachBelow l.other-index (λ (x : ℕ). x ≡ l.number → ⊥) l.numbers
