-- A list stands in the order of the names of the objects that it holds. So its hops can be gone over one object after another.
use Rattle.std.proofs.Common.{◌≡◌, ℕ, suc, ◌<◌, ◌≤◌, List, [], ◌∷◌, ◌++◌, length, Bool, true, false, Option, None, refl, sym, ◌∙◌, ap, arith, cond}
use Rattle.std.specs.Prelude.{◌==◌, ◌||◌, ◌⊎◌, filter, not, nat_lt, slice_index_or}
use mathlib.Core.Logic.{inl, inr}
use Rattle.std.specs.List.{AllByRecursion}
use Rattle.std.proofs.lemmas.Bool.{eqb-true, eq-eqb, ne_eqb, lt-ltb, le-ltb, cases_lt}
use Rattle.hk_model.specs.declared.names.Name.{Name}
use Rattle.hk_report.specs.declared.histories.Span.{Span}
use Rattle.hk_report.specs.declared.hops.Arrived.{Arrived}
use Rattle.hk_report.specs.declared.hops.Latest.{Latest}
use Rattle.hk_report.specs.declared.hops.Onward.{Onward}
use Rattle.hk_report.specs.Hops.{alone, no_latest, earlier, onward_below, onward_over, first_from}
use Rattle.hk_report.specs.Runs.{AreByName}
use Rattle.hk_report.proofs.HistoryLemmas.{name_is}
use Rattle.hk_report.proofs.Raising.{none_onward}
use Rattle.hk_report.proofs.RunHops.{earlier_none, first_append}

-- ---- names that rise, each above a number

abbrev pub AreAbove : ℕ → List Name → Type 0
AreAbove low [] = Unit {0}
AreAbove low (x ∷ xs) = (low ≤ x.0) × AreAbove (suc x.0) xs

abbrev pub is_among : Name → List Name → Bool
is_among y [] = false
is_among y (x ∷ xs) = y.0 == x.0 || is_among y xs

not_among : (low : ℕ) (y : Name) (xs : List Name) → AreAbove low xs → y.0 < low → is_among y xs ≡ false
not_among low y [] h l = refl
not_among low y (x ∷ xs) h l =
    let m = h.0 in
    ap (λ (b : Bool). b || is_among y xs) (ne_eqb y.0 x.0 (λ e. omega (arith, e, m, l))) ∙ not_among (suc x.0) y xs h.1 (omega (arith, l, m))

-- ---- spans of one object, and of those from a number on

abbrev is_for : Name → Span → Bool
is_for x s = s.cap.name.0 == x.0

abbrev is_from : ℕ → Span → Bool
is_from low s = not (nat_lt s.cap.name.0 low)

from_yes : (low : ℕ) (s : Span) → low ≤ s.cap.name.0 → is_from low s ≡ true
from_yes low s l = ap not (le-ltb s.cap.name.0 low l)

from_no : (low : ℕ) (s : Span) → s.cap.name.0 < low → is_from low s ≡ false
from_no low s l = ap not (lt-ltb s.cap.name.0 low l)

abbrev IsRising : List Span → Type 0
IsRising [] = Unit {0}
IsRising (s ∷ ss) = AllByRecursion (λ (t : Span). s.cap.name.0 ≤ t.cap.name.0) ss × IsRising ss

rising : (spans : List Span) → AreByName spans → IsRising spans
rising [] h = tt
rising (s ∷ ss) h = (above ss (λ k d l. h 0 (suc k) d (omega arith) (omega (arith, l))), rising ss (λ i j d l m. h (suc i) (suc j) d (omega (arith, l)) (omega (arith, m))))
  where
    above : (ts : List Span) → ((k : ℕ) (d : Span) → k < length ts → s.cap.name.0 ≤ (slice_index_or ts k d).cap.name.0)
        → AllByRecursion (λ (t : Span). s.cap.name.0 ≤ t.cap.name.0) ts
    above [] f = tt
    above (t ∷ ts) f = (f 0 t (omega arith), above ts (λ k d l. f (suc k) d (omega (arith, l))))

none_for : (x : Name) (s : Span) (ss : List Span) → x.0 < s.cap.name.0 → AllByRecursion (λ (t : Span). s.cap.name.0 ≤ t.cap.name.0) ss → filter (is_for x) ss ≡ []
none_for x s [] l h = refl
none_for x s (t ∷ ss) l h =
    let m = h.0 in
    ap (λ (b : Bool). cond b (t ∷ filter (is_for x) ss) (filter (is_for x) ss)) (ne_eqb t.cap.name.0 x.0 (λ e. omega (arith, e, l, m))) ∙ none_for x s ss l h.1

-- those of an object stand before those of the objects that come later
parted : (x : Name) (spans : List Span) → IsRising spans → filter (is_from x.0) spans ≡ filter (is_for x) spans ++ filter (is_from (suc x.0)) spans
parted x [] h = refl
parted x (s ∷ ss) h = split (parted x ss h.1) (cases_lt s.cap.name.0 x.0)
  where
    here : List Span
    here = filter (is_from x.0) ss

    its : List Span
    its = filter (is_for x) ss

    rest : List Span
    rest = filter (is_from (suc x.0)) ss

    at : (a b c : Bool) → is_from x.0 s ≡ a → is_for x s ≡ b → is_from (suc x.0) s ≡ c → cond a (s ∷ here) here ≡ cond b (s ∷ its) its ++ cond c (s ∷ rest) rest
        → cond (is_from x.0 s) (s ∷ here) here ≡ cond (is_for x s) (s ∷ its) its ++ cond (is_from (suc x.0) s) (s ∷ rest) rest
    at a b c e f g is =
        ap (λ (o : Bool). cond o (s ∷ here) here) e ∙ is ∙ sym (ap (λ (o : Bool). cond o (s ∷ its) its ++ cond (is_from (suc x.0) s) (s ∷ rest) rest) f
        ∙ ap (λ (o : Bool). cond b (s ∷ its) its ++ cond o (s ∷ rest) rest) g)

    later : here ≡ its ++ rest → x.0 < s.cap.name.0 → s ∷ here ≡ its ++ s ∷ rest
    later more l =
        let none : its ≡ [] = none_for x s ss l h.0 in
        ap (λ (xs : List Span). s ∷ xs) (more ∙ ap (λ (xs : List Span). xs ++ rest) none) ∙ sym (ap (λ (xs : List Span). xs ++ s ∷ rest) none)

    split : here ≡ its ++ rest → (s.cap.name.0 < x.0) ⊎ (x.0 ≤ s.cap.name.0)
        → cond (is_from x.0 s) (s ∷ here) here ≡ cond (is_for x s) (s ∷ its) its ++ cond (is_from (suc x.0) s) (s ∷ rest) rest
    split more (inl low) =
        at false false false (from_no x.0 s low) (ne_eqb s.cap.name.0 x.0 (λ e. omega (arith, e, low))) (from_no (suc x.0) s (omega (arith, low))) more
    split more (inr high) = same (cases_lt x.0 s.cap.name.0)
      where
        same : (x.0 < s.cap.name.0) ⊎ (s.cap.name.0 ≤ x.0) → cond (is_from x.0 s) (s ∷ here) here ≡ cond (is_for x s) (s ∷ its) its ++ cond (is_from (suc x.0) s) (s ∷ rest) rest
        same (inl above) =
            at true false true (from_yes x.0 s high) (ne_eqb s.cap.name.0 x.0 (λ e. omega (arith, e, above))) (from_yes (suc x.0) s (omega (arith, above))) (later more above)
        same (inr less) =
            at true true false (from_yes x.0 s high) (eq-eqb s.cap.name.0 x.0 (omega (arith, high, less))) (from_no (suc x.0) s (omega (arith, less)))
            (ap (λ (xs : List Span). s ∷ xs) more)

whole : (spans : List Span) → filter (is_from 0) spans ≡ spans
whole [] = refl
whole (s ∷ ss) =
    ap (λ (b : Bool). cond b (s ∷ filter (is_from 0) ss) (filter (is_from 0) ss)) (from_yes 0 s (omega arith)) ∙ ap (λ (xs : List Span). s ∷ xs) (whole ss)

-- ---- the hops over them

module _ (made : Name → Bool) (level : Name → Latest) (from : Arrived) where
  -- a span whose object has no bounds gives none
  idle : (first : Option Onward) (s : Span) (spans : List Span) (b : Bool) → level s.cap.name ≡ no_latest
      → first_from made level from first (cond b (s ∷ spans) spans) ≡ first_from made level from first spans
  idle first s spans true e =
      ap (λ (o : Option Onward). first_from made level from (earlier first o) spans) (sym (none_onward made level from s no_latest (sym e) refl refl))
      ∙ ap (λ (o : Option Onward). first_from made level from o spans) (earlier_none first)
  idle first s spans false e = refl

  -- two choices of spans give the same where they differ in such spans alone
  sifted : (p q : Span → Bool) → ((s : Span) → (p s ≡ q s) ⊎ (level s.cap.name ≡ no_latest)) → (first : Option Onward) (spans : List Span)
      → first_from made level from first (filter p spans) ≡ first_from made level from first (filter q spans)
  sifted p q f first [] = refl
  sifted p q f first (s ∷ ss) = by (λ o. sifted p q f o ss) (f s)
    where
      AreSame : Option Onward → Type 0
      AreSame o = first_from made level from o (filter p ss) ≡ first_from made level from o (filter q ss)

      same : ((o : Option Onward) → AreSame o) → (b : Bool)
          → first_from made level from first (cond b (s ∷ filter p ss) (filter p ss)) ≡ first_from made level from first (cond b (s ∷ filter q ss) (filter q ss))
      same more true = more (earlier first (onward_over made level from s))
      same more false = more first

      by : ((o : Option Onward) → AreSame o) → (p s ≡ q s) ⊎ (level s.cap.name ≡ no_latest)
          → first_from made level from first (cond (p s) (s ∷ filter p ss) (filter p ss)) ≡ first_from made level from first (cond (q s) (s ∷ filter q ss) (filter q ss))
      by more (inl e) = ap (λ (b : Bool). first_from made level from first (cond b (s ∷ filter p ss) (filter p ss))) e ∙ same more (q s)
      by more (inr e) = idle first s (filter p ss) (p s) e ∙ more first ∙ sym (idle first s (filter q ss) (q s) e)

  sifted_out : (spans : List Span) → filter (λ (s : Span). false) spans ≡ []
  sifted_out [] = refl
  sifted_out (s ∷ ss) = sifted_out ss

  -- the bounds of one object are those of its spans
  its_own : (x : Name) (first : Option Onward) (spans : List Span)
      → first_from made (alone x (level x)) from first spans ≡ first_from made level from first (filter (is_for x) spans)
  its_own x first [] = refl
  its_own x first (s ∷ ss) = by (λ o. its_own x o ss) (s.cap.name.0 == x.0) refl
    where
      below : Latest → Option Onward
      below latest = earlier first (onward_below latest (made s.cap.name) from s)

      one : Name → Latest
      one = alone x (level x)

      rest : List Span
      rest = filter (is_for x) ss

      by : ((o : Option Onward) → first_from made one from o ss ≡ first_from made level from o rest) → (b : Bool) → (s.cap.name.0 == x.0) ≡ b
          → first_from made one from (below (cond (s.cap.name.0 == x.0) (level x) no_latest)) ss
          ≡ first_from made level from first (cond (s.cap.name.0 == x.0) (s ∷ rest) rest)
      by more true e =
          ap (λ (l : Latest). first_from made one from (below l) ss)
          (ap (λ (b : Bool). cond b (level x) no_latest) e ∙ ap level (sym (name_is s.cap.name x (eqb-true s.cap.name.0 x.0 e))))
          ∙ more (below (level s.cap.name)) ∙ sym (ap (λ (b : Bool). first_from made level from first (cond b (s ∷ rest) rest)) e)
      by more false e =
          ap (λ (l : Latest). first_from made one from (below l) ss) (ap (λ (b : Bool). cond b (level x) no_latest) e)
          ∙ ap (λ (o : Option Onward). first_from made one from (earlier first o) ss) (sym (none_onward made (λ y. no_latest) from s no_latest refl refl refl))
          ∙ ap (λ (o : Option Onward). first_from made one from o ss) (earlier_none first) ∙ more first
          ∙ sym (ap (λ (b : Bool). first_from made level from first (cond b (s ∷ rest) rest)) e)

  module _ (spans : List Span) where
    -- of a hop, and of those over the spans of one object after another
    abbrev pub over_objects : Option Onward → List Name → Option Onward
    over_objects first [] = first
    over_objects first (x ∷ xs) = over_objects (first_from made (alone x (level x)) from first spans) xs

    up_from : IsRising spans → (low : ℕ) (first : Option Onward) (xs : List Name) → AreAbove low xs
        → ((y : Name) → low ≤ y.0 → is_among y xs ≡ false → level y ≡ no_latest) → over_objects first xs ≡ first_from made level from first (filter (is_from low) spans)
    up_from up low first [] h none =
        sym (sifted (is_from low) (λ (s : Span). false) each first spans ∙ ap (first_from made level from first) (sifted_out spans))
      where
        each : (s : Span) → (is_from low s ≡ false) ⊎ (level s.cap.name ≡ no_latest)
        each s = split (cases_lt s.cap.name.0 low)
          where
            split : (s.cap.name.0 < low) ⊎ (low ≤ s.cap.name.0) → (is_from low s ≡ false) ⊎ (level s.cap.name ≡ no_latest)
            split (inl l) = inl (from_no low s l)
            split (inr l) = inr (none s.cap.name l refl)
    up_from up low first (x ∷ xs) h none =
        up_from up (suc x.0) (first_from made (alone x (level x)) from first spans) xs h.1 others
        ∙ ap (λ (o : Option Onward). first_from made level from o (filter (is_from (suc x.0)) spans)) (its_own x first spans)
        ∙ sym (first_append made level from first (filter (is_for x) spans) (filter (is_from (suc x.0)) spans))
        ∙ ap (first_from made level from first) (sym (parted x spans up)) ∙ sifted (is_from x.0) (is_from low) each first spans
      where
        least : low ≤ x.0
        least = h.0

        others : (y : Name) → suc x.0 ≤ y.0 → is_among y xs ≡ false → level y ≡ no_latest
        others y l e = none y (omega (arith, l, least)) (ap (λ (b : Bool). b || is_among y xs) (ne_eqb y.0 x.0 (λ f. omega (arith, f, l))) ∙ e)

        each : (s : Span) → (is_from x.0 s ≡ is_from low s) ⊎ (level s.cap.name ≡ no_latest)
        each s = split (cases_lt s.cap.name.0 x.0)
          where
            between : s.cap.name.0 < x.0 → (s.cap.name.0 < low) ⊎ (low ≤ s.cap.name.0) → (is_from x.0 s ≡ is_from low s) ⊎ (level s.cap.name ≡ no_latest)
            between m (inl l) = inl (from_no x.0 s m ∙ sym (from_no low s l))
            between m (inr l) = inr (none s.cap.name l (not_among x.0 s.cap.name (x ∷ xs) (here, h.1) m))
              where
                here : x.0 ≤ x.0
                here = omega arith

            split : (s.cap.name.0 < x.0) ⊎ (x.0 ≤ s.cap.name.0) → (is_from x.0 s ≡ is_from low s) ⊎ (level s.cap.name ≡ no_latest)
            split (inl m) = between m (cases_lt s.cap.name.0 low)
            split (inr m) = inl (from_yes x.0 s m ∙ sym (from_yes low s (omega (arith, m, least))))

    -- where no object besides these has bounds, those over all spans
    pub objects_all : AreByName spans → (xs : List Name) → AreAbove 0 xs → ((y : Name) → is_among y xs ≡ false → level y ≡ no_latest)
        → over_objects None xs ≡ first_from made level from None spans
    objects_all up xs h none = up_from (rising spans up) 0 None xs h (λ y l e. none y e) ∙ ap (first_from made level from None) (whole spans)
