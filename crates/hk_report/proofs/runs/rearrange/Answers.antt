use Rattle.std.proofs.Common.{◌≡◌, ◌∙◌, List, ap, refl, rules, sym, subst}
use Rattle.std.specs.Prelude.{filter}
use Rattle.std.specs.List.Sorted.{IsPermutation}
use Rattle.std.proofs.lemmas.Fn.{filter_same}
use Rattle.std.proofs.lemmas.List.Sorted.{answers_always}
use Rattle.hk_report.specs.declared.histories.Span.{Span}
use Rattle.hk_report.specs.Reachable.{can_matter}
use Rattle.hk_report.specs.Runs.{AreByName}
use Rattle.hk_report.proofs.Ordered.{rank, by_name}
use Rattle.hk_report.proofs.runs.rearrange.Goals as goal

pub returns-clause-kept : goal.returns-clause-kept
returns-clause-kept c =
    let matters = can_matter c.args.first in
    let before = c.args.history.now.spans in
    let were : c.into_vec-spans.result.items ≡ before = search rules in
    let left : c.retain.new.self.items ≡ filter matters c.into_vec-spans.result.items =
    filter_same _ matters _ (λ x b q r. (search rules, search rules)) c.into_vec-spans.result.items c.retain.new.self.items c.retain.ensures.filtered in
    record {
      maker_is = refl;
      spans_are =
          subst (λ (spans : List Span). IsPermutation (filter matters before) spans) (sym c.from_vec.ensures)
          (subst (λ (spans : List Span). IsPermutation spans c.sort_unstable_by_key.new.self.items) (left ∙ ap (filter matters) were) c.sort_unstable_by_key.ensures.permutation);
    }

pub returns-clause-ordered : goal.returns-clause-ordered
returns-clause-ordered c =
    subst AreByName (sym c.from_vec.ensures)
    (by_name c.sort_unstable_by_key.new.self.items (c.sort_unstable_by_key.ensures.sorted rank (answers_always _ _ _ (λ f a r g h. search rules))))
