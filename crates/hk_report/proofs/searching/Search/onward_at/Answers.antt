use Rattle.std.proofs.Common.{sym, ◌∙◌, ap}
use Rattle.hk_report.specs.Hops.{is_made, latest_at}
use Rattle.hk_report.specs.Searches.{first_onward, onward_at}
use Rattle.hk_report.proofs.searching.Search.onward_at.Goals as goal

pub returns-in-Some : goal.returns-in-Some
returns-in-Some c =
    let s = c.args.self.now.ground in
    let made = is_made s.families.now s.begun s.histories.now in
    let level = latest_at made s.histories.now c.args.level.now in
    c.first_onward.ensures ∙ ap (first_onward made s.histories.now level) c.arrived_by-from.ensures
    ∙ ap (onward_at made s.histories.now s.begun.moment level) (sym c.in-Some.is ∙ c.cap.ensures)
