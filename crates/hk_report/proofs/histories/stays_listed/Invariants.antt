-- So far the same stands there.
use Rattle.std.proofs.Common.{◌≡◌, ℕ, ◌<◌, true, None}
use Rattle.std.specs.Prelude.{slice_index_or}
use Rattle.hk_report.specs.Histories.{cap_at, same_at}
use Rattle.hk_report.proofs.histories.stays_listed.Given as goal

abbrev pub invariant-loop-index : goal.invariant-loop-index
invariant-loop-index l = (k : ℕ) → k < l.index → same_at (slice_index_or l.now k None) (cap_at l.entries k) ≡ true
