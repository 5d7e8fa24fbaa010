use Rattle.std.proofs.Common.{Some, None, Ok, ap, sym, ◌∙◌}
use Rattle.hk_format.specs.Loading.{to_limit}
use Rattle.hk_load.proofs.Jumps.{target_gives}
use Rattle.hk_load.proofs.labels.Labels.target.Goals as goal

pub returns-in-None : goal.returns-in-None
returns-in-None c =
    target_gives 0 c.self.inside.names c.self.inside.places.items c.args.self.now c.args.label.now c.as_str.result.now None c.self.invariant c.self.view_is c.as_str.ensures c.in-None.ensures

pub returns-in-Some : goal.returns-in-Some
returns-in-Some c =
    target_gives c.index.result.now c.self.inside.names c.self.inside.places.items c.args.self.now c.args.label.now c.as_str.result.now (Some c.in-Some.number) c.self.invariant c.self.view_is
    c.as_str.ensures c.in-Some.ensures
    ∙ ap (λ n. Ok n) (ap to_limit (sym c.index.ensures) ∙ sym c.min.ensures)
