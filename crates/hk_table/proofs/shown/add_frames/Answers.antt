use Rattle.std.proofs.Common.{arith, ◌<◌}
use Rattle.hk_table.proofs.InOrder.{frames_more}
use Rattle.hk_table.proofs.shown.add_frames.Goals as goal

pub loop-at-preserved : goal.loop-at-preserved
loop-at-preserved c =
    let some : 0 < c.loop-at.at = omega (arith, c.loop-at-test.true) in
    record {
      within = omega (arith, c.loop-at.invariant.within);
      all =
          frames_more c.args.proc c.args.stack.now c.loop-at.at c.frame-frame.result.now c.caller_of.result c.in_ok-incarnation.incarnation c.args.all.now.entries
          c.loop-at.all.entries c.insert.new.self.entries some
          c.frame-frame.ensures c.caller_of.ensures c.in_ok-incarnation.ensures c.loop-at.invariant.all c.in_ok-insert.ensures.entries;
    }

pub loop-at-preserved-in_ok-insert : goal.loop-at-preserved-in_ok-insert
loop-at-preserved-in_ok-insert c =
    let some : 0 < c.loop-at.at = omega (arith, c.loop-at-test.true) in
    record {
      within = omega (arith, c.loop-at.invariant.within);
      all =
          frames_more c.args.proc c.args.stack.now c.loop-at.at c.frame-frame.result.now c.caller_of.result c.in_ok-incarnation.incarnation c.args.all.now.entries
          c.loop-at.all.entries c.insert.new.self.entries some
          c.frame-frame.ensures c.caller_of.ensures c.in_ok-incarnation.ensures c.loop-at.invariant.all c.in_ok-insert.ensures.entries;
    }
