-- One more goes.
use Rattle.std.proofs.Common.{◌∙◌, ◌+◌, ap, drop, refl}
use Rattle.hk_plain.specs.Stacks.{remove_all}
use Rattle.hk_plain.specs.Counts.{slot_names}
use Rattle.hk_plain.proofs.StackLemmas.{next_removed}
use Rattle.hk_plain.proofs.CountedParts.{unmoved, through}
use Rattle.hk_plain.proofs.CountLemmas.{still}
use Rattle.hk_plain.proofs.Went.{no_incarnation_went, incarnations_went_on}
use Rattle.hk_plain.proofs.incarnations.remove_all.Goals as goal

pub loop-number-init : goal.loop-number-init
loop-number-init c = record {
  live = refl;
  counted = unmoved c.args.counts.now c.args.counts.now (slot_names c.args.live.now.entries) (still c.args.counts.now);
  went = no_incarnation_went c.args.live.now.entries c.args.removed.now;
}

pub remove_one-requires : goal.remove_one-requires
remove_one-requires c = c.loop-number.invariant.went.room c.requires

pub loop-number-preserved : goal.loop-number-preserved
loop-number-preserved c = record {
  live =
      ap (remove_all (drop (c.loop-number.number-index + 1) c.args.numbers.now)) c.remove_one.ensures.live
      ∙ (next_removed c.args.numbers.now c.loop-number.number-index (record { 0 = 0 }) c.loop-number.live.entries c.loop-number-test.true ∙ c.loop-number.invariant.live);
  counted =
      through c.args.counts.now c.loop-number.counts c.remove_one.new.counts (slot_names c.args.live.now.entries) (slot_names c.loop-number.live.entries)
      (slot_names c.remove_one.new.live.entries) c.loop-number.invariant.counted c.remove_one.ensures.counted;
  went =
      incarnations_went_on c.args.live.now.entries c.loop-number.live.entries c.remove_one.new.live.entries c.args.removed.now c.loop-number.removed c.remove_one.new.removed
      c.loop-number.invariant.went c.remove_one.ensures.went;
}
