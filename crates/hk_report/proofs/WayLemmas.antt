-- The ways that are kept are all that matter, as code finds it.
use Rattle.std.proofs.Common.{◌≡◌, ℕ, zero, suc, ◌+◌, ◌<◌, ◌≤◌, List, [], ◌∷◌, length, Bool, true, false, refl, sym, ap, arith, subst, drop}
use Rattle.std.specs.Prelude.{slice_index_or}
use Rattle.std.proofs.lemmas.Bool.{cases_lt}
use mathlib.Core.Logic.{inl, inr}
use Rattle.hk_model.specs.declared.names.Name.{Name}
use Rattle.hk_report.specs.declared.histories.Span.{Span}
use Rattle.hk_report.specs.declared.histories.History.{History}
use Rattle.hk_report.specs.declared.ways.Way.{Way}
use Rattle.hk_report.specs.Histories.{history_of}
use Rattle.hk_report.specs.Fronts.{ways_at, AreMetOver, AreMetOverAll}

-- ---- lists

drop_next : {X : Type 0} (xs : List X) (n : ℕ) (x : X) → n < length xs → x ≡ slice_index_or xs n x → drop n xs ≡ x ∷ drop (n + 1) xs
drop_next xs n x l e =
    let number : suc n ≡ n + 1 = omega arith in
    subst (λ (k : ℕ). drop n xs ≡ x ∷ drop k xs) number (by xs n l e)
  where
    by : (ys : List _) (k : ℕ) → k < length ys → x ≡ slice_index_or ys k x → drop k ys ≡ x ∷ drop (suc k) ys
    by [] k j f = absurd (omega (arith, j))
    by (y ∷ ys) zero j f = ap (λ (z : _). z ∷ ys) (sym f)
    by (y ∷ ys) (suc k) j f = by ys k (omega (arith, j)) f

item_at : {X : Type 0} (lists : List (List X)) (n : ℕ) (xs : List X) → n < length lists → xs ≡ slice_index_or lists n xs → xs ≡ slice_index_or lists n []
item_at [] n xs l e = absurd (omega (arith, l))
item_at (ys ∷ lists) zero xs l e = e
item_at (ys ∷ lists) (suc n) xs l e = item_at lists n xs (omega (arith, l)) e

none_beyond : {X : Type 0} (lists : List (List X)) (n : ℕ) → length lists ≤ n → slice_index_or lists n [] ≡ []
none_beyond [] n l = refl
none_beyond (xs ∷ lists) zero l = absurd (omega (arith, l))
none_beyond (xs ∷ lists) (suc n) l = none_beyond lists n (omega (arith, l))

-- ---- each way with one hop more is met

module _ (all : List (List Way)) (made : Name → Bool) where
  -- it is so with a span and with those behind it
  pub met_next : (ways : List Way) (spans : List Span) (n : ℕ) (span : Span) (under : Bool) → n < length spans → span ≡ slice_index_or spans n span → under ≡ made span.cap.name
      → AreMetOver all false under span ways → AreMetOver all true under span ways → AreMetOverAll all made ways (drop (n + 1) spans) → AreMetOverAll all made ways (drop n spans)
  met_next ways spans n span under l e f by_entry handed h = subst (AreMetOverAll all made ways) (sym (drop_next spans n span l e)) (by, h)
    where
      by : (kind : Bool) → AreMetOver all kind (made span.cap.name) span ways
      by false = subst (λ (b : Bool). AreMetOver all false b span ways) f by_entry
      by true = subst (λ (b : Bool). AreMetOver all true b span ways) f handed

  -- it is so where there is no way
  pub met_none : (spans : List Span) → AreMetOverAll all made [] spans
  met_none [] = tt
  met_none (span ∷ spans) = (λ handed. tt, met_none spans)

  pub met_empty : (ways : List Way) (spans : List Span) → length ways ≤ 0 → AreMetOverAll all made ways spans
  met_empty [] spans l = met_none spans
  met_empty (way ∷ ways) spans l = absurd (omega (arith, l))

  pub met_same : (ways others : List Way) (spans stood : List Span) → ways ≡ others → spans ≡ stood → AreMetOverAll all made ways spans → AreMetOverAll all made others stood
  met_same ways others spans stood e f h = subst (AreMetOverAll all made others) f (subst (λ (ws : List Way). AreMetOverAll all made ws spans) e h)

  -- it is so with the list of the object of this number, and of those below one
  module _ (histories : List History) where
    abbrev IsClosedAt : ℕ → List Way → Type 0
    IsClosedAt n ways = AreMetOverAll all made ways (history_of histories (record { 0 = n })).spans

    abbrev pub AreClosedBelow : ℕ → Type 0
    AreClosedBelow place = (n : ℕ) → n < place → IsClosedAt n (slice_index_or all n [])

    pub closed_next : (place : ℕ) (ways : List Way) → AreClosedBelow place → place < length all → ways ≡ slice_index_or all place ways → IsClosedAt place ways → AreClosedBelow (place + 1)
    closed_next place ways h l e g n k = elim (cases_lt n place) [
      | inl j ↦ h n j
      | inr j ↦
          let same : place ≡ n = omega (arith, j, k) in
          subst (λ (m : ℕ). IsClosedAt m (slice_index_or all m [])) same (subst (IsClosedAt place) (item_at all place ways l e) g)
    ]

    pub closed_all : (place : ℕ) → AreClosedBelow place → length all ≤ place → (name : Name) → AreMetOverAll all made (ways_at all name) (history_of histories name).spans
    closed_all place h l name = elim (cases_lt name.0 place) [
      | inl j ↦ h name.0 j
      | inr j ↦ subst (IsClosedAt name.0) (sym (none_beyond all name.0 (omega (arith, j, l)))) (met_none (history_of histories name).spans)
    ]
