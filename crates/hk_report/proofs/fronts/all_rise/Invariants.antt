-- So it is with the ways of the objects so far.
use Rattle.std.proofs.Common.{ℕ, ◌<◌, []}
use Rattle.std.specs.Prelude.{slice_index_or}
use Rattle.hk_report.specs.Fronts.{AreRising}
use Rattle.hk_report.proofs.fronts.all_rise.Given as goal

abbrev pub invariant-loop-ways : goal.invariant-loop-ways
invariant-loop-ways l = (n : ℕ) → n < l.ways-index → AreRising (slice_index_or l.all n [])
