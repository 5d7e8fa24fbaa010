use Rattle.std.proofs.Common.{◌∙◌, List, Option, subst, sym, ap}
use Rattle.std.specs.Prelude.{ℕ}
use Rattle.hk_bound.specs.declared.gaps.Gap.{Gap}
use Rattle.hk_bound.specs.Columns.{Finds, covers}
use Rattle.hk_bound.specs.Rules.{Offered}
use Rattle.hk_bound.proofs.FindsLemmas.{finds_push}
use Rattle.hk_bound.proofs.gaps.Table.offer.Goals as goal

pub returns-in_ok-push : goal.returns-in_ok-push
returns-in_ok-push c =
    let w = c.args.self.now.world.now in
    let forms = c.args.self.now.forms.now in
    let rows = c.args.self.now.rows.now in
    let g = c.args.gap in
    let x = c.in_ok-push.ensures {u = tt} in
    subst (λ (gaps : List Gap). Finds w forms rows (Offered rows g.process g.column g.rights) c.args.gaps.now.items gaps) (sym x.items)
    (finds_push w forms rows (Offered rows g.process g.column g.rights) c.args.gaps.now.items g (record {
      follows = c.requires.follows;
      process = c.requires.process;
      column = c.requires.column;
      word = c.covers.ensures.word;
      lacking = ap (λ (o : Option ℕ). covers o g.rights) (sym c.get.ensures) ∙ (sym c.covers.ensures.value ∙ c.if-not-covers.true);
    }))
