use Rattle.std.proofs.Common.{◌≡◌, ◌∙◌, Some, sym, ap}
use Rattle.std.proofs.lemmas.Bool.{false≢true}
use Rattle.hk_model.specs.declared.names.Name.{Name}
use Rattle.hk_bound.specs.Taking.{type_of}
use Rattle.hk_bound.specs.Columns.{name_at, cell}
use Rattle.hk_bound.specs.Listed.{changes_in}
use Rattle.hk_bound.proofs.Exact.{in_bound_from, in_bound_to, no_bound}
use Rattle.hk_bound.proofs.bounding.may_change.Goals as goal

pub returns-in-None : goal.returns-in-None
returns-in-None c =
    (λ h. absurd (false≢true h), λ b. absurd (no_bound c.args.world.now c.args.rows.now c.requires.exact c.args.process c.args.name (sym c.get.ensures ∙ c.in-None.is) b))

pub returns-in-Some : goal.returns-in-Some
returns-in-Some c =
    let w = c.args.world.now in
    let rows = c.args.rows.now in
    let at : cell rows c.args.process c.args.name ≡ Some c.in-Some.rights = sym c.get.ensures ∙ c.in-Some.is in
    let e : c.changes.result ≡ changes_in (type_of w (name_at c.args.name)) c.in-Some.rights = c.changes.ensures ∙ ap
    (λ (t : Name). changes_in t c.in-Some.rights) c.type_of.ensures in (
      λ h. in_bound_from w rows c.requires.exact c.args.process c.args.name c.in-Some.rights c.requires.name at (sym e ∙ h),
      λ b. e ∙ in_bound_to w rows c.requires.exact c.args.process c.args.name c.in-Some.rights c.requires.name at b,
    )
