use Rattle.std.proofs.Common.{◌≡◌, IfOk, subst}
use Rattle.hk_model.specs.Legal.{end_word}
use Rattle.hk_model.specs.Running.{Machine}
use Rattle.hk_undo.proofs.LinesMade.{past_after}
use Rattle.hk_undo.proofs.past.Past.end.Goals as goal

pub returns : goal.returns
returns c =
    subst (λ (m : Machine). IfOk c.end.result (λ e. e ≡ end_word m.state))
    (past_after c.self.inside.world c.self.inside.machine c.self.inside.made.items c.args.self.now c.self.invariant c.self.view_is)
    c.end.ensures
