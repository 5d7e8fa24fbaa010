use Rattle.std.proofs.Common.{◌∙◌, ap}
use Rattle.hk_report.specs.declared.families.BareChange.{BareChange}
use Rattle.hk_report.specs.declared.families.Begun.{Begun}
use Rattle.hk_report.specs.Reachable.{begins_at}
use Rattle.hk_report.specs.Reasons.{params_at}
use Rattle.hk_report.proofs.MomentLemmas.{begun_next}
use Rattle.hk_report.proofs.reachable.Moments.begin.Goals as goal

pub loop-bare-preserved : goal.loop-bare-preserved
loop-bare-preserved c =
    let begun = c.under-begun.ensures ∙ ap (λ (b : BareChange). b.under) c.bare-item.is in
    begun_next c.args.side c.args.families.now c.args.params.now c.args.self.now c.loop-bare.self c.tell_params.new.self c.args.changes.now c.loop-bare.bare-index
    c.bare-item.result c.begins_at-moment.result c.of.result.now c.loop-bare.invariant c.loop-bare-test.true c.in_ok-tell_params.ensures.earlier
    (c.begins_at-moment.ensures ∙ ap (λ (b : Begun). begins_at c.args.side b.moment) begun)
    (c.of.ensures.same ∙ ap (λ (b : Begun). params_at c.args.families.now c.args.params.now b.call) begun) c.in_ok-tell_params.ensures.told
