-- What is kept for an object holds it, and all that ever held it is kept.
use Rattle.std.proofs.Common.{◌≡◌, ℕ, zero, suc, ◌+◌, ◌-◌, ◌<◌, ◌≤◌, List, [], ◌∷◌, length, true, Option, Some, None, refl, sym, ◌∙◌, ap, arith, subst, take, slice_get}
use Rattle.std.specs.Prelude.{◌⊎◌, drop, filter, slice_index_or}
use mathlib.Core.Logic.{inl, inr}
use Rattle.std.specs.List.{AllByRecursion, between}
use Rattle.std.proofs.lemmas.Bool.{eqb-true, eq-eqb, cases_lt}
use Rattle.std.proofs.lemmas.Option.{slice_get_within}
use Rattle.hk_model.specs.declared.names.Name.{Name}
use Rattle.hk_model.specs.declared.entries.Cap.{Cap}
use Rattle.hk_model.proofs.Members.{Has, has_left, has_right, has_cases, has_filtered, has_filter}
use Rattle.hk_report.specs.declared.histories.Span.{Span}
use Rattle.hk_report.specs.declared.histories.History.{History}
use Rattle.hk_report.specs.declared.holders.Stretch.{Stretch}
use Rattle.hk_report.specs.Histories.{history_of}
use Rattle.hk_report.specs.Runs.{precedes, IsRun, AreCut, ends_at, AreRuns}
use Rattle.hk_report.specs.Holders.{stretch_at, stretches, holds, held_at, HoldsAlone, stretches_of, stretches_below, numbered, AreHolders}
use Rattle.hk_report.proofs.HistoryLemmas.{beyond}
use Rattle.hk_report.proofs.RunLemmas.{precedes_so}

-- ---- lists

option_same : {X : Type 0} {x y : X} → Some x ≡ Some y → x ≡ y
option_same h = cc

module _ {X : Type 0} where
  pub each_all : (P : X → Type 0) (xs : List X) → ((x : X) → Has xs x → P x) → AllByRecursion P xs
  each_all P [] f = tt
  each_all P (x ∷ xs) f = (f x (inl refl), each_all P xs (λ y h. f y (inr h)))

  pub all_each : (P : X → Type 0) (xs : List X) (x : X) → AllByRecursion P xs → Has xs x → P x
  all_each P [] x h g = absurd g
  all_each P (y ∷ xs) x h (inl e) = subst P e h.0
  all_each P (y ∷ xs) x h (inr g) = all_each P xs x h.1 g

  pub got_has : (xs : List X) (i : ℕ) (x : X) → slice_get xs i ≡ Some x → Has xs x
  got_has [] i x h = absurd (cc)
  got_has (y ∷ xs) zero x h = inl (option_same h)
  got_has (y ∷ xs) (suc i) x h = inr (got_has xs i x h)

  pub has_place : (xs : List X) (x : X) → Has xs x → (i : ℕ) × (slice_get xs i ≡ Some x)
  has_place [] x h = absurd h
  has_place (y ∷ xs) x (inl e) = (0, ap Some e)
  has_place (y ∷ xs) x (inr h) = let f = has_place xs x h in (suc f.0, f.1)

  get_take : (n : ℕ) (xs : List X) (i : ℕ) (x : X) → slice_get (take n xs) i ≡ Some x → slice_get xs i ≡ Some x
  get_take zero [] i x h = h
  get_take zero (y ∷ xs) i x h = absurd (cc)
  get_take (suc n) [] i x h = h
  get_take (suc n) (y ∷ xs) zero x h = h
  get_take (suc n) (y ∷ xs) (suc i) x h = get_take n xs i x h

  take_get : (n : ℕ) (xs : List X) (i : ℕ) → i < n → slice_get (take n xs) i ≡ slice_get xs i
  take_get zero xs i l = absurd (omega (arith, l))
  take_get (suc n) [] i l = refl
  take_get (suc n) (y ∷ xs) zero l = refl
  take_get (suc n) (y ∷ xs) (suc i) l = take_get n xs i (omega (arith, l))

  get_drop : (n : ℕ) (xs : List X) (i : ℕ) → slice_get (drop n xs) i ≡ slice_get xs (n + i)
  get_drop zero [] i = refl
  get_drop zero (y ∷ xs) i =
      let same : i ≡ 0 + i = omega arith in
      ap (slice_get (y ∷ xs)) same
  get_drop (suc n) [] i = refl
  get_drop (suc n) (y ∷ xs) i =
      let same : suc (n + i) ≡ suc n + i = omega arith in
      get_drop n xs i ∙ ap (slice_get (y ∷ xs)) same

  -- what stands between two places
  get_between : (xs : List X) (first end i : ℕ) (x : X) → slice_get (between first end xs) i ≡ Some x → slice_get xs (first + i) ≡ Some x
  get_between xs first end i x h = sym (get_drop first xs i) ∙ get_take (end - first) (drop first xs) i x h

  pub between_get : (xs : List X) (first end place : ℕ) (x : X) → first ≤ place → place < end → slice_get xs place ≡ Some x → slice_get (between first end xs) (place - first) ≡ Some x
  between_get xs first end place x l m h =
      let same : first + (place - first) ≡ place = omega (arith, l) in
      take_get (end - first) (drop first xs) (place - first) (omega (arith, l, m))
      ∙ get_drop first xs (place - first) ∙ ap (slice_get xs) same ∙ h

  pub has_between : (xs : List X) (first end : ℕ) (x : X) → Has (between first end xs) x → Has xs x
  has_between xs first end x h = let f = has_place (between first end xs) x h in got_has xs (first + f.0) x (get_between xs first end f.0 x f.1)

-- ---- a run is of one capability

run_alike : (run : List Span) (span : Span) → IsRun run → ((x : Span) → slice_get run 0 ≡ Some x → x ≡ span) → AllByRecursion (λ (s : Span). s.cap ≡ span.cap) run
run_alike [] span h f = tt
run_alike (s ∷ run) span h f =
    let same = ap (λ (x : Span). x.cap) (f s refl) in
    (same, each_all (λ (x : Span). x.cap ≡ span.cap) run (λ x g. let p = precedes_so s x (all_each (λ (y : Span). precedes s y ≡ true) run x h.0 g) in sym p.cap_is ∙ same))

-- and of no span that began before the first
run_begun : (run : List Span) (span : Span) → IsRun run → ((x : Span) → slice_get run 0 ≡ Some x → x ≡ span) → AllByRecursion (λ (s : Span). span.from ≤ s.from) run
run_begun [] span h f = tt
run_begun (s ∷ run) span h f = (first, each_all (λ (x : Span). span.from ≤ x.from) run (λ x g. next x (all_each (λ (y : Span). precedes s y ≡ true) run x h.0 g)))
  where
    same : s.from ≡ span.from
    same = ap (λ (x : Span). x.from) (f s refl)

    first : span.from ≤ s.from
    first = let e = same in omega (arith, e)

    next : (x : Span) → precedes s x ≡ true → span.from ≤ x.from
    next x g =
        let p = precedes_so s x g in
        let stood = p.stood in
        let gone = p.gone in
        let e = same in
        omega (arith, stood, gone, e)

-- a stretch of these spans
record IsStretchOf (by : Name) (spans : List Span) (s : Stretch) : Type 0 where
  by_is : s.by ≡ by
  begins : s.first ≤ s.end
  ends : s.end ≤ length spans
  run : IsRun (between s.first s.end spans)
  alike : AllByRecursion (λ (span : Span). span.cap ≡ s.cap) (between s.first s.end spans)
  begun : AllByRecursion (λ (span : Span). s.from ≤ span.from) (between s.first s.end spans)

pub between_alike : (spans : List Span) (first end : ℕ) (span : Span) → slice_get spans first ≡ Some span → IsRun (between first end spans)
    → AllByRecursion (λ (s : Span). s.cap ≡ span.cap) (between first end spans)
between_alike spans first end span e h =
    run_alike (between first end spans) span h (λ x g. option_same (sym (get_between spans first end 0 x g) ∙ ap (slice_get spans) plain ∙ e))
  where
    plain : first + 0 ≡ first
    plain = omega arith

between_begun : (spans : List Span) (first end : ℕ) (span : Span) → slice_get spans first ≡ Some span → IsRun (between first end spans)
    → AllByRecursion (λ (s : Span). span.from ≤ s.from) (between first end spans)
between_begun spans first end span e h =
    run_begun (between first end spans) span h (λ x g. option_same (sym (get_between spans first end 0 x g) ∙ ap (slice_get spans) plain ∙ e))
  where
    plain : first + 0 ≡ first
    plain = omega arith

each_stretch : (by : Name) (spans : List Span) (first : ℕ) (ends : List ℕ) (s : Stretch) → AreCut first ends spans → Has (stretches by spans first ends) s → IsStretchOf by spans s
each_stretch by spans first [] s cut h = absurd h
each_stretch by spans first (end ∷ ends) s cut h =
    choose (each_stretch by spans end ends s cut.1.1.1) (has_cases (stretch_at by first end (slice_get spans first)) (stretches by spans end ends) s h)
  where
    one : (o : Option Span) → slice_get spans first ≡ o → Has (stretch_at by first end o) s → IsStretchOf by spans s
    one None e g = absurd g
    one (Some span) e (inl is) =
        subst (IsStretchOf by spans) is
        (record {
          by_is = refl;
          begins = cut.0;
          ends = cut.1.0;
          run = cut.1.1.0;
          alike = between_alike spans first end span e cut.1.1.0;
          begun = between_begun spans first end span e cut.1.1.0;
        })
    one (Some span) e (inr none) = absurd none

    choose : (Has (stretches by spans end ends) s → IsStretchOf by spans s)
        → Has (stretch_at by first end (slice_get spans first)) s ⊎ Has (stretches by spans end ends) s → IsStretchOf by spans s
    choose more (inl g) = one (slice_get spans first) refl g
    choose more (inr g) = more g

-- a span stands in one of them
record IsWithin (by : Name) (spans : List Span) (first : ℕ) (ends : List ℕ) (place : ℕ) (span : Span) : Type 0 where
  stretch : Stretch
  has : Has (stretches by spans first ends) stretch
  by_is : stretch.by ≡ by
  from : stretch.first ≤ place
  until : place < stretch.end
  cap_is : span.cap ≡ stretch.cap

each_within : (by : Name) (spans : List Span) (first : ℕ) (ends : List ℕ) (place : ℕ) (span : Span) → AreCut first ends spans → first ≤ place → slice_get spans place ≡ Some span
    → IsWithin by spans first ends place span
each_within by spans first [] place span cut l e = absurd (let m = slice_get_within spans place span e in omega (arith, m, l, cut))
each_within by spans first (end ∷ ends) place span cut l e = choose (λ m. each_within by spans end ends place span cut.1.1.1 m e) (cases_lt place end)
  where
    here : place < end → (o : Option Span) → slice_get spans first ≡ o → IsWithin by spans first (end ∷ ends) place span
    here m None f = absurd (missing (slice_get_within spans place span e) (cases_lt first (length spans)))
      where
        got : (xs : List Span) (n : ℕ) → n < length xs → slice_get xs n ≡ None → ⊥
        got [] n k g = omega (arith, k)
        got (x ∷ xs) zero k g = absurd (cc)
        got (x ∷ xs) (suc n) k g = got xs n (omega (arith, k)) g

        missing : place < length spans → (first < length spans) ⊎ (length spans ≤ first) → ⊥
        missing k (inl i) = got spans first i f
        missing k (inr i) = omega (arith, k, i, l)
    here m (Some head) f =
        let s : Stretch = record { by = by; cap = head.cap; from = head.from; first = first; end = end } in
        let run = cut.1.1.0 in
        record {
          stretch = s;
          has = has_left (stretch_at by first end (slice_get spans first)) (stretches by spans end ends) s
              (subst (λ (o : Option Span). Has (stretch_at by first end o) s) (sym f) (inl refl));
          by_is = refl;
          from = l;
          until = m;
          cap_is = all_each (λ (x : Span). x.cap ≡ head.cap) (between first end spans) span (between_alike spans first end head f run)
              (got_has (between first end spans) (place - first) span (between_get spans first end place span l m e));
        }

    choose : (end ≤ place → IsWithin by spans end ends place span) → (place < end) ⊎ (end ≤ place) → IsWithin by spans first (end ∷ ends) place span
    choose more (inl m) = here m (slice_get spans first) refl
    choose more (inr m) =
        let rest = more m in
        record {
          stretch = rest.stretch;
          has = has_right (stretch_at by first end (slice_get spans first)) (stretches by spans end ends) rest.stretch rest.has;
          by_is = rest.by_is;
          from = rest.from;
          until = rest.until;
          cap_is = rest.cap_is;
        }

-- a span of a list stands in a stretch that is kept for its object
pub record IsHeld (all : List (List Stretch)) (by : Name) (place : ℕ) (span : Span) : Type 0 where
  pub stretch : Stretch
  pub kept : Has (held_at all span.cap.name) stretch
  pub by_is : stretch.by ≡ by
  pub from : stretch.first ≤ place
  pub until : place < stretch.end

-- ---- of all lists

module _ (histories : List History) (runs : List (List ℕ)) (cut : AreRuns histories runs) where
  of_below : (n : ℕ) (s : Stretch) → Has (stretches_below histories runs n) s → (by : Name) × Has (stretches_of histories runs by) s
  of_below zero s h = absurd h
  of_below (suc n) s h = choose (of_below n s) (has_cases (stretches_below histories runs n) (stretches_of histories runs (numbered n)) s h)
    where
      choose : (Has (stretches_below histories runs n) s → (by : Name) × Has (stretches_of histories runs by) s)
          → Has (stretches_below histories runs n) s ⊎ Has (stretches_of histories runs (numbered n)) s → (by : Name) × Has (stretches_of histories runs by) s
      choose more (inl g) = more g
      choose more (inr g) = (numbered n, g)

  below_of : (n : ℕ) (by : Name) (s : Stretch) → by.0 < n → Has (stretches_of histories runs by) s → Has (stretches_below histories runs n) s
  below_of zero by s l h = absurd (omega (arith, l))
  below_of (suc n) by s l h = choose (λ m. below_of n by s m h) (cases_lt by.0 n)
    where
      choose : (by.0 < n → Has (stretches_below histories runs n) s) → (by.0 < n) ⊎ (n ≤ by.0) → Has (stretches_below histories runs (suc n)) s
      choose more (inl m) = has_left (stretches_below histories runs n) (stretches_of histories runs (numbered n)) s (more m)
      choose more (inr m) =
          let same : by.0 ≡ n = omega (arith, l, m) in
          has_right (stretches_below histories runs n) (stretches_of histories runs (numbered n)) s
          (subst (λ (k : ℕ). Has (stretches_of histories runs (numbered k)) s) same h)

  alone : (name : Name) (s : Stretch) → Has (filter (holds name) (stretches_below histories runs (length histories))) s → HoldsAlone histories name s
  alone name s h =
      let f = has_filtered (holds name) (stretches_below histories runs (length histories)) s h in
      let g = of_below (length histories) s f.0 in
      let of = each_stretch g.0 (history_of histories g.0).spans 0 (ends_at runs g.0) s (cut g.0) g.1 in
      let back = sym of.by_is in
      record {
        begins = of.begins;
        ends = subst (λ (x : Name). s.end ≤ length (history_of histories x).spans) back of.ends;
        run = subst (λ (x : Name). IsRun (between s.first s.end (history_of histories x).spans)) back of.run;
        alike = subst (λ (x : Name). AllByRecursion (λ (span : Span). span.cap ≡ s.cap) (between s.first s.end (history_of histories x).spans)) back of.alike;
        begun = subst (λ (x : Name). AllByRecursion (λ (span : Span). s.from ≤ span.from) (between s.first s.end (history_of histories x).spans)) back of.begun;
        name_is = name_same s.cap.name name (eqb-true s.cap.name.0 name.0 f.1);
      }
    where
      name_same : (x y : Name) → x.0 ≡ y.0 → x ≡ y
      name_same x y e = ap (λ (n : ℕ). let z : Name = record { 0 = n } in z) e

  there : (by : Name) (place : ℕ) (span : Span) → slice_get (history_of histories by).spans place ≡ Some span → by.0 < length histories
  there by place span e = choose (cases_lt by.0 (length histories))
    where
      choose : (by.0 < length histories) ⊎ (length histories ≤ by.0) → by.0 < length histories
      choose (inl l) = l
      choose (inr l) =
          let clash : None ≡ Some span = ap (λ (h : History). slice_get h.spans place) (sym (beyond histories by.0 l)) ∙ e in
          absurd (cc)

  module _ (all : List (List Stretch)) (are : AreHolders histories runs all) where
    pub alone_each : (name : Name) (s : Stretch) → Has (held_at all name) s → HoldsAlone histories name s
    alone_each name s h = alone name s (subst (λ (xs : List Stretch). Has xs s) (are name) h)

    pub held_one : (by : Name) (place : ℕ) (span : Span) → slice_get (history_of histories by).spans place ≡ Some span → IsHeld all by place span
    held_one by place span e =
        let w = each_within by (history_of histories by).spans 0 (ends_at runs by) place span (cut by) (omega arith) e in
        let same : w.stretch.cap.name.0 ≡ span.cap.name.0 = sym (ap (λ (cap : Cap). cap.name.0) w.cap_is) in
        record {
          stretch = w.stretch;
          kept = subst (λ (xs : List Stretch). Has xs w.stretch) (sym (are span.cap.name))
              (has_filter (holds span.cap.name) (stretches_below histories runs (length histories)) w.stretch
              (below_of (length histories) by w.stretch (there by place span e) w.has) (eq-eqb w.stretch.cap.name.0 span.cap.name.0 same));
          by_is = w.by_is;
          from = w.from;
          until = w.until;
        }

    pub alone_at : (name : Name) (helds : List Stretch) (n : ℕ) (s : Stretch) → helds ≡ held_at all name → n < length helds → s ≡ slice_index_or helds n s → HoldsAlone histories name s
    alone_at name helds n s e l is = alone_each name s (subst (λ (xs : List Stretch). Has xs s) e (index_has helds n s l is))
      where
        index_has : (xs : List Stretch) (i : ℕ) (x : Stretch) → i < length xs → x ≡ slice_index_or xs i x → Has xs x
        index_has [] i x m f = absurd (omega (arith, m))
        index_has (y ∷ xs) zero x m f = inl (sym f)
        index_has (y ∷ xs) (suc i) x m f = inr (index_has xs i x (omega (arith, m)) f)
