use Rattle.std.proofs.Common.{◌<◌, sym, subst}
use Rattle.hk_links.specs.Chained.{Chained}
use Rattle.hk_links.proofs.Paths.{next_is, leads_in, leads_out}
use Rattle.hk_links.proofs.chains.Chains.next.Goals as goal

pub returns-then-behind-self-clause-next : goal.returns-then-behind-self-clause-next
returns-then-behind-self-clause-next c =
    let low : c.args.cell < c.self.inside.cells = subst (λ (v : Chained). c.args.cell < v.cells) (sym c.self.view_is) c.requires in
    rw (← c.self.view_is) (λ l k inside here. leads_in c.self.inside.next c.self.inside.cells c.args.cell _ _ c.get-behind.ensures c.if-behind-self.true
    (next_is _ _ _ _ _ c.self.invariant l k c.args.cell inside here))

pub returns-else-behind-self-clause-next : goal.returns-else-behind-self-clause-next
returns-else-behind-self-clause-next c =
    let low : c.args.cell < c.self.inside.cells = subst (λ (v : Chained). c.args.cell < v.cells) (sym c.self.view_is) c.requires in
    rw (← c.self.view_is) (λ l k inside here. leads_out c.self.inside.next c.self.inside.cells c.args.cell _ _ c.get-behind.ensures c.if-behind-self.false
    (next_is _ _ _ _ _ c.self.invariant l k c.args.cell inside here))
