use Rattle.std.proofs.Common.{◌≡◌, ℕ, length}
use Rattle.std.specs.Prelude.{IfSome, slice_get}
use Rattle.hk_bound.specs.Columns.{proc_at}
use Rattle.hk_bound.specs.Listed.{IsBoundOf}
use Rattle.hk_bound.proofs.bounding.bound.Given as goal

abbrev pub invariant-loop-process : goal.invariant-loop-process
invariant-loop-process l = record {
  count : length l.bounds.items ≡ l.process;
  exact : (p : ℕ) → IfSome (slice_get l.bounds.items p) (λ names. IsBoundOf l.world (proc_at p) names.items);
}
