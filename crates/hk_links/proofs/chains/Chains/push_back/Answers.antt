use Rattle.std.proofs.Common.{ℕ, ◌<◌, ◌≡◌, List, ap, subst, sym, length, false}
use Rattle.hk_links.specs.Chained.{Chained, in_list}
use Rattle.hk_links.specs.Linked.{chains}
use Rattle.hk_links.proofs.Paths.{pushed, length-chains}
use Rattle.hk_links.proofs.chains.Chains.push_back.Goals as goal

pub invariant_of-self : goal.invariant_of-self
invariant_of-self c =
    let low : c.args.cell < c.self.inside.cells = subst (λ (v : Chained). c.args.cell < v.cells) (sym c.self.view_is) c.requires.cell in
    let inside : c.args.list < length (chains c.self.inside.next c.self.inside.cells c.self.inside.cells c.self.inside.lists) = subst
    (λ (v : Chained). c.args.list < length v.lists) (sym c.self.view_is) c.requires.list in
    let lone = subst (λ (v : Chained). (l : ℕ) → l < length v.lists → in_list v.lists l c.args.cell ≡ false) (sym c.self.view_is) c.requires.lone in
    rw (c.set-2.ensures, c.set.ensures, c.set-4.ensures, c.set-3.ensures, c.set-5.ensures)
    (pushed _ _ _ _ _ _ _ _ c.self.invariant (subst (λ (m : ℕ). c.args.list < m)
    (length-chains c.self.inside.next c.self.inside.cells c.self.inside.cells c.self.inside.lists) inside) low c.get-last.ensures lone).0

pub returns : goal.returns
returns c =
    let low : c.args.cell < c.self.inside.cells = subst (λ (v : Chained). c.args.cell < v.cells) (sym c.self.view_is) c.requires.cell in
    let inside : c.args.list < length (chains c.self.inside.next c.self.inside.cells c.self.inside.cells c.self.inside.lists) = subst
    (λ (v : Chained). c.args.list < length v.lists) (sym c.self.view_is) c.requires.list in
    let lone = subst (λ (v : Chained). (l : ℕ) → l < length v.lists → in_list v.lists l c.args.cell ≡ false) (sym c.self.view_is) c.requires.lone in
    rw (← c.self.view_is, c.set-2.ensures, c.set.ensures) (ap (λ (ls : List (List ℕ)). let v : Chained = record { cells = c.self.inside.cells; lists = ls } in v)
    (pushed _ _ _ _ _ _ _ _ c.self.invariant (subst (λ (m : ℕ). c.args.list < m)
    (length-chains c.self.inside.next c.self.inside.cells c.self.inside.cells c.self.inside.lists) inside) low c.get-last.ensures lone).1)
