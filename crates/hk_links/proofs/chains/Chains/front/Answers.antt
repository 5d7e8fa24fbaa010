use Rattle.std.proofs.Common.{◌<◌, ◌+◌, sym, subst, length}
use Rattle.hk_links.specs.Chained.{Chained}
use Rattle.hk_links.specs.Linked.{chains}
use Rattle.hk_links.proofs.Paths.{front_is, list_length, leads_in, leads_out}
use Rattle.hk_links.proofs.chains.Chains.front.Goals as goal

pub returns-then-first-self-clause-first : goal.returns-then-first-self-clause-first
returns-then-first-self-clause-first c =
    let inside : c.args.list < length (chains c.self.inside.next c.self.inside.cells c.self.inside.cells c.self.inside.lists) = subst
    (λ (v : Chained). c.args.list < length v.lists) (sym c.self.view_is) c.requires in
    rw (← c.self.view_is)
    (leads_in c.self.inside.next c.self.inside.cells (c.self.inside.cells + c.args.list) _ _ c.get-first.ensures c.if-first-self.true
    (front_is _ _ _ _ _ c.self.invariant c.args.list inside))

pub returns-else-first-self-clause-first : goal.returns-else-first-self-clause-first
returns-else-first-self-clause-first c =
    let inside : c.args.list < length (chains c.self.inside.next c.self.inside.cells c.self.inside.cells c.self.inside.lists) = subst
    (λ (v : Chained). c.args.list < length v.lists) (sym c.self.view_is) c.requires in
    rw (← c.self.view_is)
    (leads_out c.self.inside.next c.self.inside.cells (c.self.inside.cells + c.args.list) _ _ c.get-first.ensures c.if-first-self.false
    (front_is _ _ _ _ _ c.self.invariant c.args.list inside))

pub returns-then-first-self-clause-few : goal.returns-then-first-self-clause-few
returns-then-first-self-clause-few c =
    let inside : c.args.list < length (chains c.self.inside.next c.self.inside.cells c.self.inside.cells c.self.inside.lists) = subst
    (λ (v : Chained). c.args.list < length v.lists) (sym c.self.view_is) c.requires in
    rw (← c.self.view_is) (list_length _ _ _ _ _ c.self.invariant c.args.list inside)

pub returns-else-first-self-clause-few : goal.returns-else-first-self-clause-few
returns-else-first-self-clause-few c =
    let inside : c.args.list < length (chains c.self.inside.next c.self.inside.cells c.self.inside.cells c.self.inside.lists) = subst
    (λ (v : Chained). c.args.list < length v.lists) (sym c.self.view_is) c.requires in
    rw (← c.self.view_is) (list_length _ _ _ _ _ c.self.invariant c.args.list inside)
