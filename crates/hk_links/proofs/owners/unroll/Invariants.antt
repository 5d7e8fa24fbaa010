use Rattle.std.proofs.Common.{◌≡◌, ◌≤◌, ℕ, suc, None, length, vec_capacity, max, ◌+◌, ◌-◌}
use Rattle.hk_links.specs.Spread.{spread}
use Rattle.hk_links.proofs.owners.unroll.Given as goal

abbrev pub invariant-loop-front : goal.invariant-loop-front
invariant-loop-front l = record {
  few : length l.front.items ≤ max (length l.fn.front.items) (l.cell + 1);
  room : vec_capacity l.fn.front ≤ vec_capacity l.front;
  same : (n : ℕ) → spread (λ _. None) n 0 l.front.items ≡ spread (λ _. None) n 0 l.fn.front.items;
}

abbrev pub decreases-loop-front : goal.decreases-loop-front
decreases-loop-front l = suc l.cell - length l.front.items
