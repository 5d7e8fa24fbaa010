use Rattle.hk_top.proofs.FollowedRuns.{some_way_goes_on, way_ends_by}
use Rattle.hk_top.proofs.followed.follow.Goals as goal

pub loop-cpu-preserved : goal.loop-cpu-preserved
loop-cpu-preserved g c = record {
  way =
      some_way_goes_on c.args.world.now c.args.reader c.loop-cpu.reader c.takes_step.new.reader c.loop-cpu.machine c.takes_step.new.machine c.in-Some.cpu
      c.takes_step.new.line c.loop-cpu.invariant.way (c.in_ok-takes_step.ensures.made c.if-not-branch.false) (c.in_ok-takes_step.ensures.read c.if-not-branch.false);
  sound = c.takes_step.ensures.sound;
}

pub returns : goal.returns
returns g c =
    way_ends_by c.args.world.now c.args.reader c.loop-cpu.reader c.loop-cpu.machine c.end_reached.result c.loop-cpu.invariant.sound.world c.loop-cpu.invariant.way
    c.end_reached.ensures.state c.end_reached.ensures.whole
