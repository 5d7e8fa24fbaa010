use Rattle.std.proofs.Common.{◌≡◌, ◌∙◌, ℕ, ◌+◌, length, Some, true, refl, get_or, ap, subst, sym, arith}
use Rattle.std.specs.Prelude.{slice_get}
use Rattle.std.proofs.lemmas.Bool.{true≢false}
use Rattle.std.proofs.lemmas.Option.{slice_get_read}
use Rattle.std.proofs.lemmas.Grind.{common_steps}
use Rattle.hk_rights.specs.Rights.{has, HasAll}
use Rattle.hk_model.specs.Merging.{merged_rights}
use Rattle.std.proofs.Common.{rules}
use Rattle.hk_bound.specs.declared.forms.Form.{Form}
use Rattle.hk_bound.specs.Taking.{Slots}
use Rattle.hk_bound.specs.Columns.{proc_at, cell, CellFollows}
use Rattle.hk_bound.specs.Rules.{env_in, MergeRule, Offered}
use Rattle.hk_bound.proofs.FindsLemmas.{finds_none, finds_more}
use Rattle.hk_bound.proofs.Sources.{merge_follows, word_right, same_some}
use Rattle.hk_bound.proofs.gaps.Table.merge.Goals as goal

pub returns-then-not-has_rights : goal.returns-then-not-has_rights
returns-then-not-has_rights c =
    let w = c.args.self.now.world.now in
    let forms = c.args.self.now.forms.now in
    let rows = c.args.self.now.rows.now in
    let here : slice_get forms c.args.place ≡ Some (get_or c.args.self.now.forms.now c.args.place c.index-self-place.result) = slice_get_read forms (length forms) c.args.place
    c.index-self-place.result refl c.requires.place c.index-self-place.is ∙ ap Some c.index-self-place.is in
    finds_none w forms rows (MergeRule w forms rows c.args.process c.args.name c.args.by c.args.place) c.args.gaps.now.items
    (λ form at type checked env.
    let same : form ≡ (get_or c.args.self.now.forms.now c.args.place c.index-self-place.result) = same_some (sym at ∙ here) in
    let every : HasAll c.args.by (get_or c.args.self.now.forms.now c.args.place c.index-self-place.result).check = λ n h. checked n
    (word_right (get_or c.args.self.now.forms.now c.args.place c.index-self-place.result).check n c.has_rights.ensures.word h)
    (subst (λ (f : Form). has f.check n ≡ true) (sym same) h) in
    absurd (true≢false (sym (c.has_rights.ensures.value.1 every) ∙ c.if-not-has_rights.true)))

pub offer-requires-clause-follows : goal.offer-requires-clause-follows
offer-requires-clause-follows c =
    let w = c.args.self.now.world.now in
    let forms = c.args.self.now.forms.now in
    let rows = c.args.self.now.rows.now in
    let f = (get_or c.args.self.now.forms.now c.args.place c.index-self-place.result) in
    let here : slice_get forms c.args.place ≡ Some (get_or c.args.self.now.forms.now c.args.place c.index-self-place.result) = slice_get_read forms (length forms) c.args.place
    c.index-self-place.result refl c.requires.place c.index-self-place.is ∙ ap Some c.index-self-place.is in
    let is = c.index-self-place.is in let ne = c.ne.ensures in let no = c.if-ne.false in let type : (get_or c.args.self.now.forms.now c.args.place c.index-self-place.result).of
    ≡ c.type_of.result = first_of (search rules, grind (arith, common_steps), cc) in
    subst (λ (s : ℕ). CellFollows w forms (Slots (proc_at c.args.process)) c.args.name s) (sym (c.merged_rights-rights.ensures f.of))
    (merge_follows w forms rows c.requires.known.follow c.args.process c.args.name c.args.by c.args.place (get_or c.args.self.now.forms.now c.args.place c.index-self-place.result)
    c.requires.name c.requires.cell here (type ∙ c.type_of.ensures)
    (c.has_rights.ensures.value.0 c.if-not-has_rights.false)
    (ap (λ (n : ℕ). env_in (cell rows c.args.process (n + c.args.place))) (sym c.thing_count.ensures.value) ∙ (sym c.has_env.ensures ∙ c.if-not-has_env.false)))

pub returns : goal.returns
returns c =
    let w = c.args.self.now.world.now in
    let forms = c.args.self.now.forms.now in
    let rows = c.args.self.now.rows.now in
    let f = (get_or c.args.self.now.forms.now c.args.place c.index-self-place.result) in
    let here : slice_get forms c.args.place ≡ Some (get_or c.args.self.now.forms.now c.args.place c.index-self-place.result) = slice_get_read forms (length forms) c.args.place
    c.index-self-place.result refl c.requires.place c.index-self-place.is ∙ ap Some c.index-self-place.is in
    finds_more w forms rows (Offered rows c.args.process c.args.name c.merged_rights-rights.result) (MergeRule w forms rows c.args.process c.args.name c.args.by c.args.place)
    c.args.gaps.now.items c.offer.new.gaps.items
    (λ offered form at type checked env.
    let same : form ≡ (get_or c.args.self.now.forms.now c.args.place c.index-self-place.result) = same_some (sym at ∙ here) in
    subst (λ (g : Form). Offered rows c.args.process c.args.name (merged_rights c.args.by (Some g.of) g.give)) (sym same)
    (subst (Offered rows c.args.process c.args.name) (c.merged_rights-rights.ensures f.of) offered))
    (c.in_ok-offer.ensures {u = tt})
