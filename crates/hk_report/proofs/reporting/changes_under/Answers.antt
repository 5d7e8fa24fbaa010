use Rattle.std.proofs.Common.{◌≡◌, ◌∙◌, IfOk, List, subst}
use Rattle.hk_report.specs.declared.families.BareChange.{BareChange}
use Rattle.hk_report.proofs.Listed.{changes_found}
use Rattle.hk_report.proofs.reporting.changes_under.Goals as goal

pub returns : goal.returns
returns c =
    let told = c.in_ok-told.told.telling.families.changes.items in
    subst (λ (kept : List BareChange). IfOk c.whole_changes.result (λ changes. changes.items ≡ kept))
    (c.as_slice.ensures.value ∙ changes_found c.args.world.now c.args.lines.now told c.requires c.in_ok-told.ensures.changes)
    c.whole_changes.ensures
