use Rattle.std.proofs.Common.{List, sym, ◌∙◌, ap}
use Rattle.std.specs.BTreeMap.{get, keys}
use Rattle.std.specs.List.{list_any}
use Rattle.std.specs.Ordering.{eq_by_cmp}
use Rattle.hk_model.specs.declared.names.Name.{Name}
use Rattle.hk_model.specs.State.{name_cmp}
use Rattle.hk_report.specs.Histories.{history_of}
use Rattle.hk_report.specs.Hops.{is_made, bounds_at}
use Rattle.hk_report.proofs.ByObjects.{over_objects}
use Rattle.hk_report.proofs.NearObjects.{behind_all}
use Rattle.hk_report.proofs.hops.Ground.first_behind.Goals as goal

pub returns : goal.returns
returns c =
    let s = c.args.self.now in
    let made = is_made s.families.now s.begun s.histories.now in
    let spans = (history_of s.histories.now c.args.from.now.name).spans in
    sym (ap (λ (xs : List Name). over_objects made (bounds_at c.args.bounds.now) c.args.from.now spans c.loop-name.first xs) c.in-None.ensures.steps.0)
    ∙ c.loop-name.invariant
    ∙ behind_all made c.args.from.now spans (get name_cmp c.args.bounds.now.latest) (keys c.args.bounds.now.latest) (s.ordered c.args.from.now.name)
    c.keys-name-items.ensures.ordered (λ y. c.keys-name-items.ensures.has y ∙ ap (list_any (eq_by_cmp name_cmp y)) c.keys-name-items.ensures.rest)
