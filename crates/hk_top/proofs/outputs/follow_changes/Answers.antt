use Rattle.hk_top.proofs.FollowedRuns.{changes_are_due}
use Rattle.hk_top.proofs.outputs.follow_changes.Goals as goal

pub returns-in_ok-due-in-Some : goal.returns-in_ok-due-in-Some
returns-in_ok-due-in-Some c =
    let told = rw c.in-Some.is at c.in_ok-told.ensures in
    changes_are_due c.args.world.now c.args.reader c.in-Some.told c.in_ok-due-in-Some.due told c.in_ok-due-in-Some.ensures
