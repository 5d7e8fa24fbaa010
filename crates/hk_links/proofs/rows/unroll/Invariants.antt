use Rattle.std.proofs.Common.{◌≡◌, ◌≤◌, ℕ, suc, length, vec_capacity, max, ◌+◌, ◌-◌}
use Rattle.hk_links.specs.Spread.{spread}
use Rattle.hk_links.proofs.rows.unroll.Given as goal

abbrev pub invariant-loop-front : goal.invariant-loop-front
invariant-loop-front l = record {
  few : length l.front.items ≤ max (length l.fn.front.items) (l.place + 1);
  room : vec_capacity l.fn.front ≤ vec_capacity l.front;
  same : (n : ℕ) → spread (λ node. node) n l.first l.front.items ≡ spread (λ node. node) n l.first l.fn.front.items;
}

abbrev pub decreases-loop-front : goal.decreases-loop-front
decreases-loop-front l = suc l.place - length l.front.items
