use Rattle.std.proofs.Common.{[], refl, string_bytes, ◌∙◌}
use Rattle.hk_report.proofs.Retold.{retold}
use Rattle.hk_report.proofs.replay.Retelling.text.Goals as goal

pub returns : goal.returns
returns c w lines world t =
    let told = c.in_ok-told.told in
    let e = c.in_ok-told.ensures in
    let x = c.in_ok-out.ensures in
    let after = c.text.new.self in
    retold c.args.self told.histories.items after.histories.items told.params told.families.calls told.families.changes.items c.len.result
    [] (string_bytes c.in_ok-out.out) c.in_ok-text.text e.histories x.enough e.params e.calls e.changes (c.len.ensures ∙ x.count)
    refl x.written (c.in_ok-text.ensures ∙ c.in_ok-write_count.ensures) w lines world t
