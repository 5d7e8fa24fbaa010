use Rattle.std.proofs.Common.{◌≡◌, ◌∙◌, ℕ, List, Option, None, true, ap, subst}
use Rattle.std.specs.Prelude.{slice_index_or}
use Rattle.hk_model.specs.Walking.{reduced_rights}
use Rattle.hk_bound.specs.Columns.{cell, covers}
use Rattle.hk_bound.specs.Rules.{CellRule}
use Rattle.hk_bound.proofs.FindsLemmas.{finds_none}
use Rattle.hk_bound.proofs.gaps.Table.take_at.Goals as goal

pub returns-then-is_passed : goal.returns-then-is_passed
returns-then-is_passed c =
    let w = c.args.self.now.world.now in
    let forms = c.args.self.now.forms.now in
    let rows = c.args.self.now.rows.now in
    let mine : c.cell_at.result ≡ cell rows c.args.process c.args.column =
    c.cell_at.ensures ∙ ap (λ (row : List (Option ℕ)). slice_index_or row c.args.column None) c.requires.mine in
    let theirs : c.cell_at-2.result ≡ cell rows c.args.other c.args.column =
    c.cell_at-2.ensures ∙ ap (λ (row : List (Option ℕ)). slice_index_or row c.args.column None) c.requires.theirs in
    finds_none w forms rows (CellRule rows c.args.process c.args.other c.args.by c.args.column) c.args.gaps.now.items
    (λ rights at env.
    subst (λ (o : Option ℕ). covers o (reduced_rights c.args.by rights) ≡ true) mine (c.is_passed.ensures c.if-is_passed.true rights (theirs ∙ at) env))
