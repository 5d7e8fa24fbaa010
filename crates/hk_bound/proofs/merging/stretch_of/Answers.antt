use Rattle.std.proofs.Common.{◌≡◌, length, Some, refl, get_or, ap, subst, sym, ◌∙◌, arith}
use Rattle.std.specs.Prelude.{slice_get}
use Rattle.std.proofs.lemmas.Option.{slice_get_read}
use Rattle.hk_rights.specs.Rights.{HasAll}
use Rattle.hk_bound.proofs.Merges.{asks_more, gives_more}
use Rattle.hk_bound.proofs.merging.stretch_of.Goals as goal

pub loop-place-preserved : goal.loop-place-preserved
loop-place-preserved c =
    let forms = c.args.forms.now in
    let test = c.loop-place-test.true in
    let fits = c.requires in
    let asked : slice_get forms c.loop-place.place ≡ Some (get_or forms c.loop-place.place c.index-forms-place.result) =
    slice_get_read forms (length forms) c.loop-place.place c.index-forms-place.result refl (omega (arith, test, fits)) c.index-forms-place.is ∙ ap Some c.index-forms-place.is in
    let given : slice_get forms c.loop-place.place ≡ Some (get_or forms c.loop-place.place c.index-forms-place-in-loop-place.result) =
    slice_get_read forms (length forms) c.loop-place.place c.index-forms-place-in-loop-place.result refl (omega (arith, test, fits)) c.index-forms-place-in-loop-place.is ∙ ap Some c.index-forms-place-in-loop-place.is in
    record {
      asks = λ k f low high is. subst (HasAll f.check) (sym c.intersection-check.ensures.word)
          (asks_more forms c.args.start c.loop-place.place c.loop-place.check (get_or forms c.loop-place.place c.index-forms-place.result) c.loop-place.invariant.asks asked k f low high is);
      gives = λ k f low high is. subst (λ r. HasAll r f.give) (sym c.union-give.ensures.word)
          (gives_more forms c.args.start c.loop-place.place c.loop-place.give (get_or forms c.loop-place.place c.index-forms-place-in-loop-place.result) c.loop-place.invariant.gives given k f low high is);
    }

pub returns : goal.returns
returns c =
    let end = c.loop-place-test.false in
    record {
      within = c.requires;
      asks = λ k f low high is. c.loop-place.invariant.asks k f low (omega (arith, high, end)) is;
      gives = λ k f low high is. c.loop-place.invariant.gives k f low (omega (arith, high, end)) is;
    }
