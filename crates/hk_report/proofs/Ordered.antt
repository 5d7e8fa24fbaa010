-- Lists that are sorted by keys that begin with the name stand in the order of the names.
use Rattle.std.proofs.Common.{◌≡◌, ℕ, zero, suc, ◌+◌, ◌<◌, ◌≤◌, List, [], ◌∷◌, length, false, Option, Some, refl, sym, ◌∙◌, ap, arith, subst}
use Rattle.std.specs.Prelude.{◌⊎◌, slice_set, slice_index_or}
use mathlib.Core.Logic.{inl, inr}
use Rattle.std.specs.Cmp.{ranked}
use Rattle.std.specs.Ordering.{nat_cmp, is_lt, ordering_then, MatchOrdering}
use Rattle.std.specs.declared.cmp.Ordering.{Ordering}
use Rattle.std.specs.declared.cmp.Ordering.TheVariants.{Less, Equal, Greater}
use Rattle.std.specs.List.Sorted.{IsSortedByKey}
use Rattle.std.proofs.lemmas.Bool.{true≢false, cases_lt}
use Rattle.std.proofs.lemmas.List.{length-set, get_or_default}
use Rattle.std.proofs.lemmas.List.Sorted.{IsNonDecreasingBy-from_all_adjacent, IsPermutation-refl}
use Rattle.hk_model.specs.declared.names.Name.{Name}
use Rattle.hk_report.specs.declared.histories.Span.{Span}
use Rattle.hk_report.specs.declared.histories.History.{History}
use Rattle.hk_report.specs.Histories.{no_history, history_of}
use Rattle.hk_report.specs.Reachable.{moment_at, IsKept, AreKept}
use Rattle.hk_report.specs.Runs.{AreByName, AreOrdered}
use Rattle.hk_report.proofs.HistoryLemmas.{beyond}

-- ---- one list

abbrev pub Rank : Type 0
Rank = ℕ × ℕ × ℕ × ℕ

abbrev pub rank : Span → Rank
rank s = (s.cap.name.0, s.index, s.cap.rights, s.from)

abbrev pub rank_cmp : Rank → Rank → Ordering
rank_cmp a b = ordering_then (ordering_then (ordering_then (nat_cmp a.0 b.0) (nat_cmp a.1 b.1)) (nat_cmp a.2 b.2)) (nat_cmp a.3 b.3)

pub by_name : (spans : List Span) → IsSortedByKey rank rank_cmp spans → AreByName spans
by_name spans h = IsNonDecreasingBy-from_all_adjacent (λ (s : Span). s.cap.name.0) spans (λ k d l. next (rank (slice_index_or spans (k + 1) d)) (rank (slice_index_or spans k d)) (h k d (omega arith) l))
  where
    next : (b a : Rank) → is_lt (rank_cmp b a) ≡ false → a.0 ≤ b.0
    next b a e = by (nat_cmp b.0 a.0) (ranked b.0 a.0 (nat_cmp b.0 a.0) refl) e
      where
        by : (o : Ordering) → MatchOrdering o (b.0 < a.0) (b.0 ≡ a.0) (a.0 < b.0)
            → is_lt (ordering_then (ordering_then (ordering_then o (nat_cmp b.1 a.1)) (nat_cmp b.2 a.2)) (nat_cmp b.3 a.3)) ≡ false → a.0 ≤ b.0
        by Less l f = absurd (true≢false f)
        by Equal l f = omega (arith, l)
        by Greater l f = omega (arith, l)

-- ---- one list after another

pub record AreOrderedBelow (firsts : List (Option ℕ)) (first histories : List History) (n : ℕ) : Type 0 where
  pub many : length histories ≡ length first
  pub kept : (name : Name) → name.0 < n → IsKept (moment_at firsts name) (history_of first name) (history_of histories name)
  pub left : (name : Name) → n ≤ name.0 → history_of histories name ≡ history_of first name
  pub ordered : (name : Name) → name.0 < n → AreByName (history_of histories name).spans

set_there : (hs : List History) (i : ℕ) (new : History) → i < length hs → slice_index_or (slice_set hs i new) i no_history ≡ new
set_there [] i new l = absurd (omega (arith, l))
set_there (x ∷ hs) zero new l = refl
set_there (x ∷ hs) (suc i) new l = set_there hs i new (omega (arith, l))

set_apart : (hs : List History) (i j : ℕ) (new : History) → (i < j) ⊎ (j < i) → slice_index_or (slice_set hs i new) j no_history ≡ slice_index_or hs j no_history
set_apart [] i j new l = refl
set_apart (x ∷ hs) zero zero new (inl l) = absurd (omega (arith, l))
set_apart (x ∷ hs) zero zero new (inr l) = absurd (omega (arith, l))
set_apart (x ∷ hs) zero (suc j) new l = refl
set_apart (x ∷ hs) (suc i) zero new l = refl
set_apart (x ∷ hs) (suc i) (suc j) new (inl l) = set_apart hs i j new (inl (omega (arith, l)))
set_apart (x ∷ hs) (suc i) (suc j) new (inr l) = set_apart hs i j new (inr (omega (arith, l)))

pub ordered_one : (firsts : List (Option ℕ)) (first before after : List History) (n : ℕ) (old new : History) → AreOrderedBelow firsts first before n → n < length before
    → old ≡ slice_index_or before n old → IsKept (slice_index_or firsts n (Some 0)) old new → AreByName new.spans → after ≡ slice_set before n new
    → AreOrderedBelow firsts first after (n + 1)
ordered_one firsts first before after n old new h l e kept up is = record {
  many = ap length is ∙ length-set before n new ∙ h.many;
  kept = λ name m. kept_by name m (cases_lt name.0 n);
  left = λ name m. apart name (inl (omega (arith, m))) ∙ h.left name (omega (arith, m));
  ordered = λ name m. up_by name m (cases_lt name.0 n);
}
  where
    apart : (name : Name) → (n < name.0) ⊎ (name.0 < n) → history_of after name ≡ history_of before name
    apart name m = ap (λ (hs : List History). history_of hs name) is ∙ set_apart before n name.0 new m

    there : slice_index_or after n no_history ≡ new
    there = ap (λ (hs : List History). slice_index_or hs n no_history) is ∙ set_there before n new l

    was : old ≡ slice_index_or first n no_history
    was = e ∙ get_or_default before n old no_history l ∙ h.left (record { 0 = n }) (omega arith)

    here : IsKept (slice_index_or firsts n (Some 0)) (slice_index_or first n no_history) (slice_index_or after n no_history)
    here = subst (λ (x : History). IsKept (slice_index_or firsts n (Some 0)) x (slice_index_or after n no_history)) was (subst (λ (x : History). IsKept (slice_index_or firsts n (Some 0)) old x) (sym there) kept)

    kept_by : (name : Name) → name.0 < n + 1 → (name.0 < n) ⊎ (n ≤ name.0) → IsKept (moment_at firsts name) (history_of first name) (history_of after name)
    kept_by name m (inl low) = subst (λ (x : History). IsKept (moment_at firsts name) (history_of first name) x) (sym (apart name (inr low))) (h.kept name low)
    kept_by name m (inr high) =
        let same : n ≡ name.0 = omega (arith, m, high) in
        subst (λ (k : ℕ). IsKept (slice_index_or firsts k (Some 0)) (slice_index_or first k no_history) (slice_index_or after k no_history)) same here

    up_by : (name : Name) → name.0 < n + 1 → (name.0 < n) ⊎ (n ≤ name.0) → AreByName (history_of after name).spans
    up_by name m (inl low) = subst (λ (x : History). AreByName x.spans) (sym (apart name (inr low))) (h.ordered name low)
    up_by name m (inr high) =
        let same : n ≡ name.0 = omega (arith, m, high) in
        subst (λ (k : ℕ). AreByName (slice_index_or after k no_history).spans) same (subst (λ (x : History). AreByName x.spans) (sym there) up)

module _ (firsts : List (Option ℕ)) (first histories : List History) (n : ℕ) (h : AreOrderedBelow firsts first histories n) (l : length first ≤ n) where
  beyond_both : (name : Name) → n ≤ name.0 → (history_of first name ≡ no_history) × (history_of histories name ≡ no_history)
  beyond_both name high =
      let none : history_of first name ≡ no_history = beyond first name.0 (omega (arith, l, high)) in
      (none, h.left name high ∙ none)

  pub kept_all : AreKept (moment_at firsts) first histories
  kept_all name = by (cases_lt name.0 n)
    where
      nothing : (first : Option ℕ) → IsKept first no_history no_history
      nothing first = record { maker_is = refl; spans_are = IsPermutation-refl [] }

      by : (name.0 < n) ⊎ (n ≤ name.0) → IsKept (moment_at firsts name) (history_of first name) (history_of histories name)
      by (inl low) = h.kept name low
      by (inr high) =
          let none = beyond_both name high in
          subst (λ (x : History). IsKept (moment_at firsts name) x (history_of histories name)) (sym none.0)
          (subst (λ (x : History). IsKept (moment_at firsts name) no_history x) (sym none.1) (nothing (moment_at firsts name)))

  pub ordered_all : AreOrdered histories
  ordered_all name = by (cases_lt name.0 n)
    where
      nothing : AreByName no_history.spans
      nothing i j d k m = absurd (omega (arith, m))

      by : (name.0 < n) ⊎ (n ≤ name.0) → AreByName (history_of histories name).spans
      by (inl low) = h.ordered name low
      by (inr high) = let none = beyond_both name high in subst (λ (x : History). AreByName x.spans) (sym none.1) nothing
