use Rattle.std.proofs.Common.{◌∙◌}
use Rattle.hk_report.proofs.Explained.{few_told}
use Rattle.hk_report.proofs.LeftOut.{report_enough}
use Rattle.hk_report.proofs.Retold.{retold_count, retold_ended}
use Rattle.hk_report.proofs.reporting.report.Goals as goal

pub end-requires : goal.end-requires
end-requires c = retold_count c.args.world.now c.args.lines.now c.in_ok-retold.field-0 c.limit-limit.ensures.valid c.in_ok-retold.ensures

pub explain-requires : goal.explain-requires
explain-requires c =
    few_told c.args.world.now c.args.lines.now c.in_ok-told.told.families.changes.items c.limit-limit.ensures.valid c.requires
    (c.in_ok-told.ensures.changes ∙ c.in_ok-retold.ensures.changes)

pub returns-clause-changes : goal.returns-clause-changes
returns-clause-changes c =
    let told = c.in_ok-told.told in
    let before = c.in_ok-retold.field-0 in
    let r = c.in_ok-retold.ensures in
    let t = c.in_ok-told.ensures in
    let x = c.in_ok-changes.ensures in
    report_enough c.args.world.now c.args.lines.now told.histories.items c.explain.new.self.histories.items told.params told.families.calls told.families.changes.items
    c.in_ok-changes.changes.items c.limit-limit.ensures.valid c.requires (retold_ended c.args.world.now c.args.lines.now before told.histories.items r t.histories) x.enough
    (t.params ∙ r.params) (t.calls ∙ r.calls) (t.changes ∙ r.changes) x.told
