use Rattle.std.proofs.Common.{ℕ, ◌<◌, List, ap, subst, sym, ◌∙◌}
use Rattle.hk_links.specs.Chained.{Chained}
use Rattle.hk_links.proofs.Paths.{unlinked, popped}
use Rattle.hk_links.proofs.chains.Chains.take_out.Goals as goal

pub invariant_of-self : goal.invariant_of-self
invariant_of-self c =
    let low : c.args.cell < c.self.inside.cells = subst (λ (v : Chained). c.args.cell < v.cells) (sym c.self.view_is) c.requires in
    rw (c.set-2.ensures, c.set.ensures, c.set-4.ensures, c.set-3.ensures, c.set-5.ensures)
    (unlinked _ _ _ _ _ _ _ _ c.self.invariant low c.get-before.ensures c.get-behind.ensures).0

pub returns-clause-lists : goal.returns-clause-lists
returns-clause-lists c =
    let low : c.args.cell < c.self.inside.cells = subst (λ (v : Chained). c.args.cell < v.cells) (sym c.self.view_is) c.requires in
    rw (← c.self.view_is, c.set-2.ensures, c.set.ensures) (ap (λ (ls : List (List ℕ)). let v : Chained = record { cells = c.self.inside.cells; lists = ls } in v)
    (unlinked _ _ _ _ _ _ _ _ c.self.invariant low c.get-before.ensures c.get-behind.ensures).1)

pub returns-clause-first : goal.returns-clause-first
returns-clause-first c =
    let low : c.args.cell < c.self.inside.cells = subst (λ (v : Chained). c.args.cell < v.cells) (sym c.self.view_is) c.requires in
    rw (← c.self.view_is, c.set-2.ensures, c.set.ensures) (λ l xs inside first.
    (unlinked _ _ _ _ _ _ _ _ c.self.invariant low c.get-before.ensures c.get-behind.ensures).1 ∙ popped _ _ _ _ _ c.self.invariant
    l c.args.cell xs inside first)
