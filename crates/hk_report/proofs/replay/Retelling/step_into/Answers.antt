use Rattle.std.proofs.Common.{refl}
use Rattle.hk_report.proofs.NextLines.{line_asked}
use Rattle.hk_report.proofs.Retold.{told_more}
use Rattle.hk_report.proofs.replay.Retelling.step_into.Goals as goal

pub returns-clause-told : goal.returns-clause-told
returns-clause-told c _ =
    let old = c.args.self.now in
    let line = c.step_watched.new.line in
    let made = c.in_ok-step_watched.ensures.made c.if-not-branch.false in
    let seen = c.in_ok-step_watched.ensures.seen c.if-not-branch.false in
    let asked = line_asked c.args.world.now old.machine c.args.cpu line c.step_watched.new.self made _ c.step_watched.new.watch c.before_by-before.result refl seen c.before_by-before.ensures in
    let e = c.in_ok-tell.ensures in
    told_more old c.tell.new.self line c.step_watched.new.self c.before_by-before.result asked c.tell.ensures.machine e.count e.changes e.calls e.params e.histories
