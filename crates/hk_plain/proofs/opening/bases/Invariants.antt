use Rattle.std.proofs.Common.{◌≡◌, [], take}
use Rattle.hk_plain.specs.Counts.{Moved, slot_names}
use Rattle.hk_model.specs.Opening.{bases}
use Rattle.hk_plain.proofs.opening.bases.Given as goal

abbrev pub invariant-loop-n : goal.invariant-loop-n
invariant-loop-n l = record {
  live : l.all.live ≡ bases 0 (take l.n l.tasks);
  counted : Moved l.fn.counts l.counts (slot_names l.all.live) [];
  next : l.all.next.0 ≡ l.n;
}
