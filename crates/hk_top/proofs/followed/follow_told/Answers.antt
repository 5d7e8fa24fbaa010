use Rattle.hk_report.proofs.Retold.{retold_none}
use Rattle.hk_top.proofs.FollowedRuns.{told_few, told_way_begins, told_way_goes_on, told_way_ends}
use Rattle.hk_top.proofs.followed.follow_told.Goals as goal

pub loop-cpu-init : goal.loop-cpu-init
loop-cpu-init c = record {
  way =
      told_way_begins c.args.world.now c.args.reader c.in_ok-told.told c.in_ok-told.ensures.machine
      (retold_none c.args.world.now c.in_ok-told.told c.in_ok-told.ensures.machine c.in_ok-told.ensures.count c.in_ok-told.ensures.changes
      c.in_ok-told.ensures.calls c.in_ok-told.ensures.params c.in_ok-told.ensures.histories);
  sound = c.in_ok-told.ensures.sound;
}

pub tells_step-requires-clause-few : goal.tells_step-requires-clause-few
tells_step-requires-clause-few c =
    told_few c.args.world.now c.args.reader c.loop-cpu.reader c.loop-cpu.told c.loop-cpu.invariant.sound c.loop-cpu.invariant.way

pub loop-cpu-preserved : goal.loop-cpu-preserved
loop-cpu-preserved c = record {
  way =
      told_way_goes_on c.args.world.now c.args.reader c.loop-cpu.reader c.tells_step.new.reader c.in-Some.cpu c.tells_step.new.line c.loop-cpu.told c.tells_step.new.told
      c.loop-cpu.invariant.way (c.in_ok-tells_step.ensures.made c.if-not-branch.false) (c.in_ok-tells_step.ensures.told c.if-not-branch.false)
      (c.in_ok-tells_step.ensures.read c.if-not-branch.false);
  sound = c.tells_step.ensures.sound;
}

pub returns-in-Some-end_reached : goal.returns-in-Some-end_reached
returns-in-Some-end_reached c =
    let state = rw c.in-Some-end_reached.is at c.end_reached.ensures.state in
    let whole = rw c.in-Some-end_reached.is at c.end_reached.ensures.whole in
    told_way_ends c.args.world.now c.args.reader c.loop-cpu.reader c.loop-cpu.told c.in-Some-end_reached._end c.loop-cpu.invariant.sound.world
    c.loop-cpu.invariant.way state whole
