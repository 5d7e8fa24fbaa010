-- Lists whose spans are kept in another order tell the same.
use Rattle.std.proofs.Common.{◌≡◌, ℕ, zero, suc, ◌+◌, ◌<◌, ◌≤◌, List, [], ◌∷◌, ◌++◌, length, Bool, false, Option, Some, None, refl, sym, ◌∙◌, ap, arith, subst}
use Rattle.std.specs.Prelude.{◌⊎◌, slice_index_or}
use mathlib.Core.Logic.{inl, inr}
use Rattle.std.specs.List.Sorted.{IsPermutation}
use Rattle.std.proofs.lemmas.Bool.{cases_lt}
use Rattle.std.proofs.lemmas.List.{get_or_default}
use Rattle.std.proofs.lemmas.List.Sorted.{IsPermutation-sym, Contains-permutation}
use Rattle.hk_model.specs.declared.names.Name.{Name}
use Rattle.hk_model.specs.declared.names.Inc.{Inc}
use Rattle.hk_model.specs.State.{State}
use Rattle.hk_model.proofs.Members.{has_from, contains_from}
use Rattle.hk_report.specs.declared.families.Begun.{Begun}
use Rattle.hk_report.specs.declared.histories.Span.{Span}
use Rattle.hk_report.specs.declared.histories.History.{History}
use Rattle.hk_report.specs.Histories.{no_history, history_of}
use Rattle.hk_report.specs.Hops.{has_begun, is_made}
use Rattle.hk_report.specs.Runs.{AreCut, ends_at, AreRuns, AreRearranged}
use Rattle.hk_report.proofs.Spans.{all_has, has_all, Stood, SpansTell}
use Rattle.hk_report.proofs.HistoryLemmas.{beyond}

-- ---- one list after another is cut

pub record AreCutBelow (histories : List History) (all : List (List ℕ)) (n : ℕ) : Type 0 where
  pub many : length all ≡ n
  pub each : (name : Name) → name.0 < n → AreCut 0 (ends_at all name) (history_of histories name).spans

pub cut_below_none : (histories : List History) (all : List (List ℕ)) → all ≡ [] → AreCutBelow histories all 0
cut_below_none histories all e = record { many = ap length e; each = λ name l. absurd (omega (arith, l)) }

push_same : (all : List (List ℕ)) (xs : List ℕ) (n : ℕ) → length all ≡ n → slice_index_or (all ++ xs ∷ []) n [] ≡ xs
push_same [] xs n e = ap (λ (k : ℕ). slice_index_or (xs ∷ []) k []) (sym e)
push_same (ys ∷ all) xs zero e = absurd (omega (arith, e))
push_same (ys ∷ all) xs (suc n) e = push_same all xs n (omega (arith, e))

push_front : (all : List (List ℕ)) (xs : List ℕ) (n : ℕ) → n < length all → slice_index_or (all ++ xs ∷ []) n [] ≡ slice_index_or all n []
push_front [] xs n l = absurd (omega (arith, l))
push_front (ys ∷ all) xs zero l = refl
push_front (ys ∷ all) xs (suc n) l = push_front all xs n (omega (arith, l))

push_many : (all : List (List ℕ)) (xs : List ℕ) → length (all ++ xs ∷ []) ≡ length all + 1
push_many [] xs = refl
push_many (ys ∷ all) xs = let l = push_many all xs in omega (arith, l)

pub cut_below_more : (histories : List History) (all after : List (List ℕ)) (n : ℕ) (history : History) (spans : List Span) (ends : List ℕ) → AreCutBelow histories all n
    → n < length histories → history ≡ slice_index_or histories n history → spans ≡ history.spans → AreCut 0 ends spans → after ≡ all ++ ends ∷ []
    → AreCutBelow histories after (n + 1)
cut_below_more histories all after n history spans ends h l e s c is = record {
  many = ap length is ∙ push_many all ends ∙ ap (λ (k : ℕ). k + 1) h.many;
  each = λ name m. by name m (cases_lt name.0 n);
}
  where
    here : AreCut 0 ends (slice_index_or histories n no_history).spans
    here = subst (λ (xs : List Span). AreCut 0 ends xs) (s ∙ ap (λ (x : History). x.spans) (e ∙ get_or_default histories n history no_history l)) c

    by : (name : Name) → name.0 < n + 1 → (name.0 < n) ⊎ (n ≤ name.0) → AreCut 0 (ends_at after name) (history_of histories name).spans
    by name m (inl low) =
        let many = h.many in
        subst (λ (xs : List ℕ). AreCut 0 xs (history_of histories name).spans)
        (sym (ap (λ (xs : List (List ℕ)). slice_index_or xs name.0 []) is ∙ push_front all ends name.0 (omega (arith, many, low)))) (h.each name low)
    by name m (inr high) =
        let same : n ≡ name.0 = omega (arith, m, high) in
        subst (λ (k : ℕ). AreCut 0 (slice_index_or after k []) (slice_index_or histories k no_history).spans) same
        (subst (λ (xs : List ℕ). AreCut 0 xs (slice_index_or histories n no_history).spans)
        (sym (ap (λ (xs : List (List ℕ)). slice_index_or xs n []) is ∙ push_same all ends n h.many)) here)

pub cut_below_all : (histories : List History) (all : List (List ℕ)) (n : ℕ) → AreCutBelow histories all n → length histories ≤ n → AreRuns histories all
cut_below_all histories all n h l name = by (cases_lt name.0 n)
  where
    past : (xs : List (List ℕ)) (i : ℕ) → length xs ≤ i → slice_index_or xs i [] ≡ []
    past [] i k = refl
    past (x ∷ xs) zero k = absurd (omega (arith, k))
    past (x ∷ xs) (suc i) k = past xs i (omega (arith, k))

    nothing : AreCut 0 [] no_history.spans
    nothing = omega arith

    by : (name.0 < n) ⊎ (n ≤ name.0) → AreCut 0 (ends_at all name) (history_of histories name).spans
    by (inl low) = h.each name low
    by (inr high) =
        let many = h.many in
        subst (λ (xs : List ℕ). AreCut 0 xs (history_of histories name).spans) (sym (past all name.0 (omega (arith, many, high))))
        (subst (λ (x : History). AreCut 0 [] x.spans) (sym (beyond histories name.0 (omega (arith, l, high)))) nothing)

-- ---- what the search needs of the lists stays

spans_tell : (at : ℕ → State) (end : ℕ) (x : Name) (before after : List Span) → IsPermutation before after → SpansTell at end x before → SpansTell at end x after
spans_tell at end x before after moved tells = record {
  sound = has_all (Stood at end x) after
      (λ span h.
      all_has (Stood at end x) before span tells.sound
      (has_from before span (Contains-permutation after before span (IsPermutation-sym before after moved) (contains_from after span h))));
  complete = λ m index cap late listed.
      let told = tells.complete m index cap late listed in
      record {
        span = told.span;
        is = has_from after told.span (Contains-permutation before after told.span moved (contains_from before told.span told.is));
        index_is = told.index_is;
        cap_is = told.cap_is;
        from = told.from;
        until = told.until;
      };
}

module _ (before after : List History) (same : AreRearranged before after) where
  pub tells_after : (at : ℕ → State) (end : ℕ) → ((x : Name) → SpansTell at end x (history_of before x).spans) → (x : Name) → SpansTell at end x (history_of after x).spans
  tells_after at end tells x = spans_tell at end x (history_of before x).spans (history_of after x).spans (same x).spans_are (tells x)

  pub made_after : (families : List (List Begun)) (begun : Begun) (x : Name) → is_made families begun after x ≡ is_made families begun before x
  made_after families begun x =
      ap (λ (o : Option Inc). elim o as (λ y. Bool) [ None ↦ false | Some inc ↦ has_begun begun (slice_index_or families inc.0 []) ]) (same x).maker_is
