use Rattle.std.proofs.Common.{◌≡◌, ◌∙◌, ℕ, Option, Some, subst, sym}
use Rattle.std.specs.Prelude.{IfSome}
use Rattle.hk_bound.specs.Taking.{type_of}
use Rattle.hk_bound.specs.Columns.{name_at, cell}
use Rattle.hk_bound.specs.Rules.{Passes, through_in}
use Rattle.hk_bound.proofs.Through.{through_passes}
use Rattle.hk_bound.proofs.gaps.Table.take_through.Goals as goal

pub widen-requires-clause-passes : goal.widen-requires-clause-passes
widen-requires-clause-passes c =
    let w = c.args.self.now.world.now in
    let forms = c.args.self.now.forms.now in
    let rows = c.args.self.now.rows.now in
    let is : through_in (type_of w (name_at c.args.name)) (cell rows c.args.process c.args.name) (cell rows c.args.other c.args.name) ≡ Some c.in-Some.by =
    sym c.through_object.ensures ∙ c.in-Some.is in
    subst (λ (o : Option ℕ). IfSome o (Passes w forms c.args.process c.args.other)) is
    (through_passes w forms rows c.args.process c.args.other c.requires.known.follow c.requires.process c.args.name c.requires.name)
