-- Only the stack of the process is gone.
use Rattle.std.proofs.Common.{◌∙◌, ap, List, cond, ◌==◌, []}
use Rattle.hk_model.specs.declared.names.Inc.{Inc}
use Rattle.hk_model.specs.declared.names.Proc.{Proc}
use Rattle.hk_plain.specs.Stacks.{stack}
use Rattle.hk_plain.proofs.StackLemmas.{stack_taken}
use Rattle.hk_plain.proofs.stacks.Stacks.take.Goals as goal

pub returns-clause-others : goal.returns-clause-others
returns-clause-others c = λ q.
    stack_taken c.self.inside.stacks.entries c.remove.new.self.entries c.args.proc q (c.remove.ensures.updates.0 q)
    ∙ ap (λ (stacks : List (Proc × List Inc)). cond (c.args.proc.0 == q.0) [] (stack stacks q)) c.self.view_is
