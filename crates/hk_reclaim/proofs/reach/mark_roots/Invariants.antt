use Rattle.std.proofs.Common.{◌≡◌, ℕ, nat_lt, ◌&&◌, false, get_or}
use Rattle.hk_reclaim.specs.Tally.{has}
use Rattle.hk_reclaim.proofs.reach.mark_roots.Given as goal

abbrev pub invariant-loop-i : goal.invariant-loop-i
invariant-loop-i l = record {
  size : l.marks.size ≡ l.fn.size;
  roots : (k : ℕ) → has l.marks.slots k ≡ (nat_lt k l.i && (get_or l.made.stands k false && nat_lt 0 (get_or l.made.left k 0)));
}
