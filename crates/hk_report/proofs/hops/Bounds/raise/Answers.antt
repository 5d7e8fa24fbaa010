use Rattle.std.proofs.Common.{◌∙◌, ap}
use Rattle.std.specs.BTreeMap.{get}
use Rattle.hk_model.specs.State.{name_cmp}
use Rattle.hk_report.specs.declared.hops.Latest.{Latest}
use Rattle.hk_report.specs.Holders.{joined}
use Rattle.hk_report.proofs.Raising.{raise_is}
use Rattle.hk_report.proofs.hops.Bounds.raise.Goals as goal

pub returns : goal.returns
returns c =
    raise_is (get name_cmp c.args.self.now.latest) (get name_cmp c.insert.new.self) c.args.name c.joined-all.result c.args.latest c.in_ok-insert.ensures.updates.0
    (c.joined-all.ensures ∙ ap (λ (l : Latest). joined l c.args.latest) c.at.ensures)
