-- Each so far comes before the next, or is the same.
use Rattle.std.proofs.Common.{◌≡◌, ℕ, suc, ◌<◌, Some, IsTrue}
use Rattle.std.specs.Prelude.{slice_get}
use Rattle.hk_report.specs.declared.ways.Way.{Way}
use Rattle.hk_report.specs.Fronts.{comes_by}
use Rattle.hk_report.proofs.fronts.are_rising.Given as goal

abbrev pub invariant-loop-place : goal.invariant-loop-place
invariant-loop-place l = (n : ℕ) (a b : Way) → suc n < l.place → slice_get l.ways n ≡ Some a → slice_get l.ways (suc n) ≡ Some b → IsTrue (comes_by a b)
