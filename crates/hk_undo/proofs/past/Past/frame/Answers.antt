use Rattle.std.proofs.Common.{◌∙◌, ap, slice_get}
use Rattle.hk_model.specs.Running.{Machine, context_of}
use Rattle.hk_undo.proofs.LinesMade.{past_after}
use Rattle.hk_undo.proofs.past.Past.frame.Goals as goal

pub returns : goal.returns
returns c =
    c.frame.ensures ∙ ap (λ (m : Machine). slice_get (context_of m c.args.proc) 0)
    (past_after c.self.inside.world c.self.inside.machine c.self.inside.made.items c.args.self.now c.self.invariant c.self.view_is)
