use Rattle.std.proofs.Common.{◌≡◌, ℕ, true, length}
use Rattle.hk_plain.specs.Counts.{IsFound, has_made}
use Rattle.hk_plain.proofs.counts.last_unnamed.Given as goal

-- only the list changes, and what it loses does not stand or is named
abbrev pub invariant-loop-name : goal.invariant-loop-name
invariant-loop-name l = record {
  same : l.counts ≡ record l.fn.counts { lost = l.counts.lost };
  found : (k : ℕ) → has_made l.fn.counts k l.objects.entries ≡ true → IsFound l.fn.counts k → IsFound l.counts k;
}

abbrev pub decreases-loop-name : goal.decreases-loop-name
decreases-loop-name l = length l.counts.lost
