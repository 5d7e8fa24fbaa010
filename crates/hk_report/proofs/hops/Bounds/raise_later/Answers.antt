use Rattle.std.proofs.Common.{◌∙◌, ap}
use Rattle.hk_report.specs.Hops.{bounds_at}
use Rattle.hk_report.specs.Holders.{raised_at}
use Rattle.hk_report.proofs.Raising.{raised_twice}
use Rattle.hk_report.proofs.hops.Bounds.raise_later.Goals as goal

pub returns-then-waiting-name : goal.returns-then-waiting-name
returns-then-waiting-name c =
    let level = bounds_at c.args.self.now in
    let waiting = c.args.waiting.now in
    ap (raised_at level waiting.name) c.joined-waiting.ensures ∙ raised_twice level waiting.name c.args.name waiting.latest c.args.latest c.if-waiting-name.true
