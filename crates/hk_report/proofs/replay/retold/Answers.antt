use Rattle.std.proofs.Common.{length, refl}
use Rattle.std.specs.Prelude.{take}
use Rattle.std.proofs.lemmas.Option.{slice_get_read}
use Rattle.hk_report.proofs.Retold.{retold_count, retold_line}
use Rattle.hk_report.proofs.replay.retold.Goals as goal

pub step_into-requires-clause-few : goal.step_into-requires-clause-few
step_into-requires-clause-few c =
    retold_count c.args.world.now (take c.loop-line.line-index c.args.lines.now) c.loop-line.told c.limit-limit.ensures.valid c.loop-line.invariant.0

-- one line more
pub loop-line-preserved : goal.loop-line-preserved
loop-line-preserved c = (
  retold_line c.args.world.now c.args.lines.now c.loop-line.line-index c.line-item.result c.step_into.new.line c.in_ok-_moved._moved c.loop-line.told c.step_into.new.self
      c.requires (slice_get_read c.args.lines.now (length c.args.lines.now) c.loop-line.line-index c.line-item.result refl c.loop-line-test.true c.line-item.is)
      c.loop-line.invariant.0 c.in_ok-_moved.ensures.made c.in_ok-_moved.ensures.told c.in_ok-_moved.ensures.none,
  c.step_into.ensures.sound,
)
