use Rattle.std.proofs.Common.{List, sym, subst}
use Rattle.hk_model.specs.declared.lines.Line.{Line}
use Rattle.hk_top.proofs.FollowedRuns.{IsOnWay, way_ends, way_goes_on}
use Rattle.hk_top.proofs.followed.follow_lines.Goals as goal

pub loop-cpu-preserved : goal.loop-cpu-preserved
loop-cpu-preserved g c = record {
  way =
      subst (λ (lines : List Line). IsOnWay c.args.world.now c.args.reader c.takes_step.new.reader lines c.takes_step.new.machine) (sym c.in_ok-push.ensures.ok)
      (way_goes_on c.args.world.now c.args.reader c.loop-cpu.reader c.takes_step.new.reader c.loop-cpu.lines c.loop-cpu.machine c.takes_step.new.machine
      c.in-Some.cpu c.takes_step.new.line c.loop-cpu.invariant.way (c.in_ok-takes_step.ensures.made c.if-not-branch.false)
      (c.in_ok-takes_step.ensures.read c.if-not-branch.false));
  sound = c.takes_step.ensures.sound;
}

pub returns-in-Some-end_reached : goal.returns-in-Some-end_reached
returns-in-Some-end_reached g c =
    let state = rw c.in-Some-end_reached.is at c.end_reached.ensures.state in
    let whole = rw c.in-Some-end_reached.is at c.end_reached.ensures.whole in (
      c.in-Some-end_reached._end,
      way_ends c.args.world.now c.args.reader c.loop-cpu.reader c.loop-cpu.lines c.loop-cpu.machine c.in-Some-end_reached._end c.loop-cpu.invariant.sound.world
          c.loop-cpu.invariant.way state whole,
    )
