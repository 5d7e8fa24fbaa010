use Rattle.std.proofs.Common.{◌≡◌, length}
use Rattle.hk_objects.specs.Padded.{padded, IsFront}
use Rattle.hk_objects.proofs.front.keep_up_to.Given as goal

abbrev pub invariant-loop-kept : goal.invariant-loop-kept
invariant-loop-kept g l = record {
  front : IsFront l.items;
  same : padded l.items.items ≡ padded l.initial.items.items;
  count : length l.items.items ≡ l._kept;
}
