use Rattle.hk_undo.proofs.LinesMade.{past_steps}
use Rattle.hk_undo.proofs.past.Past.len.Goals as goal

pub returns-clause-steps : goal.returns-clause-steps
returns-clause-steps c = past_steps c.self.inside.world c.self.inside.machine c.self.inside.made.items c.args.self.now c.self.invariant c.self.view_is
