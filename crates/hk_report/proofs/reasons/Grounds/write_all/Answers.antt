use Rattle.std.proofs.Common.{string_bytes, subst}
use Rattle.hk_report.specs.declared.families.BareChange.{BareChange}
use Rattle.hk_report.specs.Reasons.{IsTold}
use Rattle.hk_report.proofs.WrittenLemmas.{written_more}
use Rattle.hk_report.proofs.reasons.Grounds.write_all.Goals as goal

-- one change more
pub loop-bare-preserved : goal.loop-bare-preserved
loop-bare-preserved c =
    let s = c.args.self.now in (
      written_more s.families.now s.histories.now s.params.now c.args.bares.now c.loop-bare.bare-index c.bare-item.result (string_bytes c.args.out.now)
          (string_bytes c.loop-bare.out) (string_bytes c.write_change.new.out) c.in_ok-change.change c.loop-bare-test.true c.loop-bare.invariant.0
          (subst (λ (bare : BareChange). IsTold s.families.now s.histories.now s.params.now bare c.in_ok-change.change) c.bare-item.is c.in_ok-change.ensures.told)
          c.in_ok-write_change.ensures,
      c.in_ok-change.ensures.kept,
    )
