use Rattle.std.proofs.Common.{[], ◌<◌, List, length, string_bytes, subst}
use Rattle.std.specs.Prelude.{slice_index_or}
use Rattle.hk_report.specs.declared.families.BareChange.{BareChange}
use Rattle.hk_report.specs.Reasons.{IsTold}
use Rattle.hk_report.proofs.WrittenLemmas.{written_more}
use Rattle.hk_report.proofs.replay.Telling.text_at_hand.Goals as goal

-- one change more
pub loop-bare-preserved : goal.loop-bare-preserved
loop-bare-preserved c =
    let s = c.args.self.now in
    let same = c.as_slice-bare-items.ensures.value in
    written_more s.families.calls s.histories.items s.params s.families.changes.items c.loop-bare.bare-index c.bare-item.result [] (string_bytes c.loop-bare.text)
    (string_bytes c.write_change.new.out) c.in-Some.change
    (subst (λ (bares : List BareChange). c.loop-bare.bare-index < length bares) same c.loop-bare-test.true) c.loop-bare.invariant
    (subst (λ (bares : List BareChange). IsTold s.families.calls s.histories.items s.params (slice_index_or bares c.loop-bare.bare-index c.bare-item.result) c.in-Some.change) same
    (subst (λ (bare : BareChange). IsTold s.families.calls s.histories.items s.params bare c.in-Some.change) c.bare-item.is c.in-Some.ensures))
    c.in_ok-write_change-in-Some.ensures
