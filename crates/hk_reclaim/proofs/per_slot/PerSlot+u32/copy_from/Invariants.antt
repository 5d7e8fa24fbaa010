use Rattle.std.proofs.Common.{◌≡◌, ◌<◌, ◌≤◌, ℕ, length, get_or}
use Rattle.hk_reclaim.proofs.per_slot.PerSlot+u32.copy_from.Given as goal

abbrev pub invariant-loop-slot : goal.invariant-loop-slot
invariant-loop-slot l = record {
  size : length l.self ≡ length l.fn.self;
  numbers : (k : ℕ) → l.from ≤ k → k < l.slot → get_or l.self k 0 ≡ get_or l.other k 0;
}
