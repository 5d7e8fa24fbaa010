use Rattle.std.proofs.Common.{◌≡◌, ◌<◌, ◌≤◌, ℕ, length}
use Rattle.std.specs.Prelude.{slice_index_or}
use Rattle.hk_model.specs.declared.entries.Entry.TheVariants.{Empty}
use Rattle.hk_spaces.proofs.space.empty_between.Given as goal

abbrev pub invariant-loop-slot : goal.invariant-loop-slot
invariant-loop-slot l = record {
  gone : (k : ℕ) → l.start ≤ k → k < l.slot → slice_index_or l.slots k Empty ≡ Empty;
  before : (k : ℕ) → k < l.start → slice_index_or l.slots k Empty ≡ slice_index_or l.fn.slots k Empty;
  all : length l.slots ≡ length l.fn.slots;
  left : (k : ℕ) → l.slot ≤ k → slice_index_or l.slots k Empty ≡ slice_index_or l.fn.slots k Empty;
}
