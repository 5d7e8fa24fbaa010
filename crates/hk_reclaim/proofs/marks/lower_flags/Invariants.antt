use Rattle.std.proofs.Common.{◌≡◌, ℕ, true, false, length, get_or, drop}
use Rattle.hk_reclaim.specs.Tally.{has}
use Rattle.hk_reclaim.proofs.marks.lower_flags.Given as goal

abbrev pub invariant-loop-slot : goal.invariant-loop-slot
invariant-loop-slot l = record {
  size : length l.marked ≡ length l.fn.marked;
  rest : (k : ℕ) → get_or l.marked k false ≡ true → has (drop l.slot-index l.order) k ≡ true;
}
