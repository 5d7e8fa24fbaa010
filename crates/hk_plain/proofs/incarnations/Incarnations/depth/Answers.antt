-- The stack of the process has all its incarnations.
use Rattle.std.proofs.Common.{◌∙◌, ap, List, length, count_by, ◌==◌}
use Rattle.hk_model.specs.declared.names.Inc.{Inc}
use Rattle.hk_plain.specs.Stacks.{LiveOnes}
use Rattle.hk_model.specs.declared.objects.Incarnation.{Incarnation}
use Rattle.hk_plain.proofs.StackLemmas.{numbers_counted}
use Rattle.hk_plain.proofs.incarnations.Incarnations.depth.Goals as goal

pub returns : goal.returns
returns c =
    c.depth.ensures ∙ ap (λ (numbers : List Inc). length numbers) (c.self.invariant.stacked c.args.proc)
    ∙ numbers_counted c.args.proc c.self.inside.live.entries
    ∙ ap (λ (ones : LiveOnes). count_by (λ (e : Inc × Incarnation). e.1.proc.0 == c.args.proc.0) ones.live) c.self.view_is
