use Rattle.std.proofs.Common.{◌<◌, sym, ◌∙◌, subst}
use Rattle.hk_links.specs.Chained.{Chained}
use Rattle.hk_links.proofs.Paths.{owner_is, owned_in, owner_in_range, unowned}
use Rattle.hk_links.proofs.chains.Chains.list_of.Goals as goal

pub returns-clause-some : goal.returns-clause-some
returns-clause-some c =
    let low : c.args.cell < c.self.inside.cells = subst (λ (v : Chained). c.args.cell < v.cells) (sym c.self.view_is) c.requires in
    rw (← c.self.view_is) (λ l inside. (
      λ h. c.get.ensures ∙ owner_is _ _ _ _ _ c.self.invariant l c.args.cell inside h,
      λ h. owned_in _ _ _ _ _ c.self.invariant l
          c.args.cell low (sym c.get.ensures ∙ h),
    ))

pub returns-clause-in_range : goal.returns-clause-in_range
returns-clause-in_range c =
    let low : c.args.cell < c.self.inside.cells = subst (λ (v : Chained). c.args.cell < v.cells) (sym c.self.view_is) c.requires in
    rw (← c.self.view_is) (owner_in_range _ _ _ _ _ c.self.invariant c.args.cell c.get.result low (sym c.get.ensures))

pub returns-clause-none : goal.returns-clause-none
returns-clause-none c =
    let low : c.args.cell < c.self.inside.cells = subst (λ (v : Chained). c.args.cell < v.cells) (sym c.self.view_is) c.requires in
    rw (← c.self.view_is) (unowned _ _ _ _ _ c.self.invariant c.args.cell c.get.result (sym c.get.ensures))
