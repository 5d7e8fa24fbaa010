use Rattle.std.proofs.Common.{refl}
use Rattle.hk_reclaim.proofs.Releasing.{same_tally, same_more}
use Rattle.hk_reclaim.specs.Reach.{is_lost}
use Rattle.hk_reclaim.proofs.Sweeping.{sweep_starts, lost_at, lost_stands}
use Rattle.hk_reclaim.proofs.sweep.release_lost.Goals as goal

pub loop-i-init : goal.loop-i-init
loop-i-init c = record {
  counted = λ first made.
      sweep_starts first c.args.objects.now.slots c.args.made.now.stands c.args.marks.now.slots c.args.made.now.from c.args.size c.args.numbers.now made c.requires.first
      c.requires.counted;
  outside = same_tally c.args.numbers.now c.args.numbers.now refl;
}

pub release_if-requires-clause-stands : goal.release_if-requires-clause-stands
release_if-requires-clause-stands c =
    lost_stands c.requires.made.0 c.args.objects.now.slots c.args.marks.now.slots c.loop-i.i c.is_lost.result
    (lost_at c.requires.made.0 c.args.objects.now.slots c.args.made.now.stands c.args.marks.now.slots c.loop-i.i c.is_lost.result c.requires.made.1 c.is_lost.ensures)

pub release_if-requires-clause-counted : goal.release_if-requires-clause-counted
release_if-requires-clause-counted c = (
  is_lost c.requires.made.0 c.args.objects.now.slots c.args.marks.now.slots,
  lost_at c.requires.made.0 c.args.objects.now.slots c.args.made.now.stands c.args.marks.now.slots c.loop-i.i c.is_lost.result c.requires.made.1 c.is_lost.ensures,
  c.loop-i.invariant.counted c.requires.made.0 c.requires.made.1,
)

pub loop-i-preserved : goal.loop-i-preserved
loop-i-preserved c =
    let i = c.loop-i.invariant in
    record {
      counted = λ first made.
          c.release_if.ensures.counted (is_lost first c.args.objects.now.slots c.args.marks.now.slots)
          (lost_at first c.args.objects.now.slots c.args.made.now.stands c.args.marks.now.slots c.loop-i.i c.is_lost.result made c.is_lost.ensures)
          (i.counted first made);
      outside = same_more _ _ _ i.outside c.release_if.ensures.outside;
    }
