use Rattle.std.proofs.Common.{◌≡◌, ◌∙◌, ◌<◌, ℕ, ◌+◌, Option, Some, get_or, ap, subst, sym}
use Rattle.std.specs.Prelude.{IfSome, slice_get}
use Rattle.hk_bound.specs.Taking.{type_of}
use Rattle.hk_bound.specs.Columns.{name_at, cell, object_count}
use Rattle.hk_bound.specs.Rules.{Passes, HasTakings, through_in, joined_cells}
use Rattle.hk_bound.proofs.Through.{First, read, passes_joined, through_passes, takings_more, takings_all, takings_early}
use Rattle.hk_bound.proofs.gaps.Table.through_objects.Goals as goal

pub loop-name-preserved : goal.loop-name-preserved
loop-name-preserved c =
    let w = c.args.self.now.world.now in
    let forms = c.args.self.now.forms.now in
    let rows = c.args.self.now.rows.now in
    let i = c.loop-name.invariant in
    let at : slice_get c.args.names.now c.loop-name.name-index ≡ Some (get_or c.args.names.now c.loop-name.name-index 0) =
    read c.args.names.now c.loop-name.name-index c.loop-name-test.true in
    let is : c.joined_cells-by.result ≡ joined_cells c.loop-name.by
    (through_in (type_of w (name_at (get_or c.args.names.now c.loop-name.name-index 0)))
    (cell rows c.args.process (get_or c.args.names.now c.loop-name.name-index 0)) (cell rows c.args.other (get_or c.args.names.now c.loop-name.name-index 0))) =
    c.joined_cells-by.ensures ∙ ap (joined_cells c.loop-name.by) c.through_object.ensures in
    record {
      passes = subst (λ (o : Option ℕ). IfSome o (Passes w forms c.args.process c.args.other)) (sym is)
          (passes_joined w forms rows c.args.process c.args.other c.loop-name.by
          (through_in (type_of w (name_at (get_or c.args.names.now c.loop-name.name-index 0)))
          (cell rows c.args.process (get_or c.args.names.now c.loop-name.name-index 0)) (cell rows c.args.other (get_or c.args.names.now c.loop-name.name-index 0))) i.passes
          (through_passes w forms rows c.args.process c.args.other c.requires.known.follow c.requires.process (get_or c.args.names.now c.loop-name.name-index 0)
          (c.requires.names.low c.loop-name.name-index (get_or c.args.names.now c.loop-name.name-index 0) at)));
      all =
          subst (λ (o : Option ℕ). HasTakings w rows c.args.process c.args.other
          (First w forms rows c.args.process c.args.other c.args.names.now (c.loop-name.name-index + 1)) o) (sym is)
          (takings_more w forms rows c.args.process c.args.other c.args.names.now c.loop-name.name-index (get_or c.args.names.now c.loop-name.name-index 0)
          c.loop-name.by at i.all);
    }

pub returns-then-passes_all-clause-passes : goal.returns-then-passes_all-clause-passes
returns-then-passes_all-clause-passes c =
    let w = c.args.self.now.world.now in
    let forms = c.args.self.now.forms.now in
    let rows = c.args.self.now.rows.now in
    let i = c.loop-name.invariant in
    let at : slice_get c.args.names.now c.loop-name.name-index ≡ Some (get_or c.args.names.now c.loop-name.name-index 0) =
    read c.args.names.now c.loop-name.name-index c.loop-name-test.true in
    let is : c.joined_cells-by.result ≡ joined_cells c.loop-name.by
    (through_in (type_of w (name_at (get_or c.args.names.now c.loop-name.name-index 0)))
    (cell rows c.args.process (get_or c.args.names.now c.loop-name.name-index 0)) (cell rows c.args.other (get_or c.args.names.now c.loop-name.name-index 0))) =
    c.joined_cells-by.ensures ∙ ap (joined_cells c.loop-name.by) c.through_object.ensures in
    subst (λ (o : Option ℕ). IfSome o (Passes w forms c.args.process c.args.other)) (sym is)
    (passes_joined w forms rows c.args.process c.args.other c.loop-name.by
    (through_in (type_of w (name_at (get_or c.args.names.now c.loop-name.name-index 0)))
    (cell rows c.args.process (get_or c.args.names.now c.loop-name.name-index 0)) (cell rows c.args.other (get_or c.args.names.now c.loop-name.name-index 0))) i.passes
    (through_passes w forms rows c.args.process c.args.other c.requires.known.follow c.requires.process (get_or c.args.names.now c.loop-name.name-index 0)
    (c.requires.names.low c.loop-name.name-index (get_or c.args.names.now c.loop-name.name-index 0) at)))

pub returns-then-passes_all-clause-all : goal.returns-then-passes_all-clause-all
returns-then-passes_all-clause-all c =
    takings_early c.args.self.now.world.now c.args.self.now.forms.now c.args.self.now.rows.now c.args.process c.args.other (λ name. name < object_count c.args.self.now.world.now)
    c.joined_cells-by.result (sym c.passes_all.ensures ∙ c.if-passes_all.true)

pub returns-clause-all : goal.returns-clause-all
returns-clause-all c =
    takings_all c.args.self.now.world.now c.args.self.now.forms.now c.args.self.now.rows.now c.args.process c.args.other c.args.names.now c.loop-name.name-index
    c.loop-name.by c.requires.names c.loop-name-test.false c.loop-name.invariant.all
