use Rattle.std.proofs.Common.{ap}
use Rattle.hk_reclaim.specs.Marks.{Marked}
use Rattle.hk_reclaim.proofs.Rooting.{none_below}
use Rattle.hk_reclaim.proofs.reach.mark_roots.Goals as goal

pub loop-i-init : goal.loop-i-init
loop-i-init c = record {
  size = ap (λ (m : Marked). m.size) c.requires.empty;
  roots = λ k. rw c.requires.empty (none_below c.args.made.now.from c.args.size c.args.made.now.stands c.args.made.now.left c.requires.first k);
}
