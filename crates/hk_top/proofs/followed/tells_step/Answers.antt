use Rattle.hk_top.proofs.FollowedRuns.{step_has_text}
use Rattle.hk_top.proofs.followed.tells_step.Goals as goal

pub take-requires : goal.take-requires
take-requires c =
    step_has_text c.args.world.now c.args.told.now.machine c.args.cpu c.step_into.new.line c.step_into.new.self.machine c.requires.sound
    (c.in_ok-step_into.ensures.made c.if-not-branch.false)

pub returns-clause-read : goal.returns-clause-read
returns-clause-read c taken = (
  step_has_text c.args.world.now c.args.told.now.machine c.args.cpu c.step_into.new.line c.step_into.new.self.machine c.requires.sound
      (c.in_ok-step_into.ensures.made c.if-not-branch.false),
  c.in_ok-taken.ensures.taken taken,
)
