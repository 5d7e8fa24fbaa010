use Rattle.std.proofs.Common.{◌≡◌, ◌≤◌, ◌++◌, ◌-◌, length, replicate}
use Rattle.std.specs.Prelude.{vec_capacity}
use Rattle.hk_reclaim.proofs.per_slot.lengthen.Given as goal

abbrev pub invariant-loop-next : goal.invariant-loop-next
invariant-loop-next g l = record {
  items : l.front.items ≡ l.fn.front.items ++ replicate (l._next - length l.fn.front.items) l.rest;
  few : l._next - length l.fn.front.items ≤ l.to - length l.fn.front.items;
  size : length l.front.items ≡ l._next;
  capacity : vec_capacity l.front ≡ vec_capacity l.fn.front;
}
