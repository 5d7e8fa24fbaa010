-- One more object of the script stands at the end.
use Rattle.std.proofs.Common.{◌<◌, length, arith, []}
use Rattle.hk_plain.specs.Counts.{inner_names}
use Rattle.hk_plain.proofs.Numbered.{born_step}
use Rattle.hk_plain.proofs.CountedParts.{through}
use Rattle.hk_plain.proofs.opening.objects_of.Goals as goal

pub loop-i-preserved : goal.loop-i-preserved
loop-i-preserved c =
    let there : c.loop-i.i < length c.args.born.now = omega (arith, c.loop-i-test.true) in
    record {
      objects =
          born_step c.args.born.now c.loop-i.i c.index-born-i.result c.loop-i.objects.entries c.insert.new.objects.entries c.in_ok-object.object there c.index-born-i.is
          c.loop-i.invariant.objects c.in_ok-object.ensures c.in_ok-insert.ensures.ok;
      counted =
          through c.args.counts.now c.loop-i.counts c.insert.new.counts [] (inner_names c.loop-i.objects.entries) (inner_names c.insert.new.objects.entries)
          c.loop-i.invariant.counted c.in_ok-insert.ensures.counted;
    }
