use Rattle.std.proofs.Common.{subst}
use Rattle.hk_report.specs.declared.families.BareChange.{BareChange}
use Rattle.hk_report.specs.Reasons.{IsTold}
use Rattle.hk_report.proofs.ReasonLemmas.{told_more}
use Rattle.hk_report.proofs.reasons.Grounds.explain_all.Goals as goal

-- one change more
pub loop-bare-preserved : goal.loop-bare-preserved
loop-bare-preserved c =
    let s = c.args.self.now in (
      told_more s.families.now s.histories.now s.params.now c.args.bares.now c.loop-bare.bare-index c.bare-item.result c.loop-bare.changes.items c.push.new.self.items
          c.in_ok-explain.field-0 c.loop-bare-test.true c.loop-bare.invariant.0
          (subst (λ (bare : BareChange). IsTold s.families.now s.histories.now s.params.now bare c.in_ok-explain.field-0) c.bare-item.is c.in_ok-explain.ensures.told)
          c.in_ok-push.ensures.items,
      c.in_ok-explain.ensures.kept,
    )
