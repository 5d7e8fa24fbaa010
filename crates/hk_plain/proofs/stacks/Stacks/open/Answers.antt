-- An empty stack stands for none.
use Rattle.std.proofs.Common.{◌∙◌, ap, sym, List}
use Rattle.hk_model.specs.declared.names.Inc.{Inc}
use Rattle.hk_model.specs.declared.names.Proc.{Proc}
use Rattle.hk_plain.specs.Stacks.{stack}
use Rattle.hk_plain.proofs.StackLemmas.{stack_opened}
use Rattle.hk_plain.proofs.stacks.Stacks.open.Goals as goal

pub returns-clause-same : goal.returns-clause-same
returns-clause-same c = λ q.
    stack_opened c.self.inside.stacks.entries c.insert.new.self.entries c.args.proc q c.new.result c.new.ensures (sym c.contains_key.ensures ∙ c.if-contains_key.false)
    (c.in_ok-insert.ensures.updates.0 q)
    ∙ ap (λ (stacks : List (Proc × List Inc)). stack stacks q) c.self.view_is
