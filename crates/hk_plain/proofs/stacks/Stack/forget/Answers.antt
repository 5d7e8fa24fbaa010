-- The closure keeps the other numbers.
use Rattle.std.proofs.Common.{rules, not, ◌==◌, ap, ◌∙◌, List}
use Rattle.hk_model.specs.declared.names.Inc.{Inc}
use Rattle.std.proofs.lemmas.Fn.{filter_same}
use Rattle.hk_plain.specs.Stacks.{without}
use Rattle.hk_plain.proofs.stacks.Stack.forget.Goals as goal

pub returns : goal.returns
returns c =
    filter_same _ (λ (i : Inc). not (i.0 == c.args.inc.0)) _ (λ x b f' t. search rules) _ _ c.retain.ensures.filtered
    ∙ ap (λ (numbers : List Inc). without c.args.inc numbers) c.self.view_is
