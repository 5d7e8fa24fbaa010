-- Of the runs that hold an object, those in one list stand together, and no other run of the list leads to it.
use Rattle.std.proofs.Common.{◌≡◌, ℕ, zero, suc, ◌+◌, ◌-◌, ◌<◌, ◌≤◌, List, [], ◌∷◌, ◌++◌, length, Bool, true, false, Option, Some, None, refl, sym, ◌∙◌, ap, arith, cond, subst, take, slice_get}
use Rattle.std.specs.Prelude.{◌==◌, ◌⊎◌, drop, filter, nat_lt, nat_le, slice_index_or}
use mathlib.Core.Logic.{inl, inr}
use Rattle.std.specs.List.{AllByRecursion, between}
use Rattle.std.specs.List.Sorted.{IsNonDecreasingBy, IsPartitionPoint}
use Rattle.std.proofs.lemmas.Bool.{true≢false, eqb-true, eq-eqb, ne_eqb, ltb-true, ltb-false, lt-ltb, le-ltb, leb-true, le-leb, cases_lt}
use Rattle.std.proofs.lemmas.List.{get_or-drop}
use Rattle.std.proofs.lemmas.List.Elements.{filter-append}
use Rattle.hk_model.specs.declared.names.Name.{Name}
use Rattle.hk_model.proofs.Members.{Has, has_filtered}
use Rattle.hk_report.specs.declared.histories.Span.{Span}
use Rattle.hk_report.specs.declared.histories.History.{History}
use Rattle.hk_report.specs.declared.holders.Stretch.{Stretch}
use Rattle.hk_report.specs.declared.hops.Arrived.{Arrived}
use Rattle.hk_report.specs.declared.hops.Latest.{Latest}
use Rattle.hk_report.specs.declared.hops.Onward.{Onward}
use Rattle.hk_report.specs.Histories.{history_of}
use Rattle.hk_report.specs.Hops.{alone, first_from, latest_end, next_latest, ends_before, no_latest}
use Rattle.hk_report.specs.Runs.{AreCut, ends_at, AreRuns}
use Rattle.hk_report.specs.Holders.{spans_in, stretch_at, stretches, holds, held_at, stands_in, held_in, numbered, stretches_of, stretches_below, AreHolders, HoldsAlone, joined, latest_within, raised_at, raised_over}
use Rattle.hk_report.proofs.HistoryLemmas.{name_is, beyond}
use Rattle.hk_report.proofs.HolderLemmas.{drop_more, drop_done}
use Rattle.hk_report.proofs.Raising.{end_next}
use Rattle.hk_report.proofs.RunHops.{first_append, cut_off, none_left}
use Rattle.hk_report.proofs.RunSkips.{skipped}
use Rattle.hk_report.proofs.Stretches.{between_alike, alone_each}

-- ---- they are kept by rising names

abbrev pub IsRising : List Stretch → Type 0
IsRising [] = Unit {0}
IsRising (s ∷ ss) = AllByRecursion (λ (t : Stretch). s.by.0 ≤ t.by.0) ss × IsRising ss

all_filter : (P : Stretch → Type 0) (p : Stretch → Bool) (xs : List Stretch) → AllByRecursion P xs → AllByRecursion P (filter p xs)
all_filter P p [] h = tt
all_filter P p (x ∷ xs) h = by (all_filter P p xs h.1) (p x)
  where
    by : AllByRecursion P (filter p xs) → (b : Bool) → AllByRecursion P (cond b (x ∷ filter p xs) (filter p xs))
    by rest true = (h.0, rest)
    by rest false = rest

rising_filter : (p : Stretch → Bool) (xs : List Stretch) → IsRising xs → IsRising (filter p xs)
rising_filter p [] h = tt
rising_filter p (x ∷ xs) h = by (rising_filter p xs h.1) (p x)
  where
    by : IsRising (filter p xs) → (b : Bool) → IsRising (cond b (x ∷ filter p xs) (filter p xs))
    by rest true = (all_filter (λ (t : Stretch). x.by.0 ≤ t.by.0) p xs h.0, rest)
    by rest false = rest

all_append : (P : Stretch → Type 0) (xs ys : List Stretch) → AllByRecursion P xs → AllByRecursion P ys → AllByRecursion P (xs ++ ys)
all_append P [] ys h g = g
all_append P (x ∷ xs) ys h g = (h.0, all_append P xs ys h.1 g)

all_through : (P Q : Stretch → Type 0) (xs : List Stretch) → ((s : Stretch) → P s → Q s) → AllByRecursion P xs → AllByRecursion Q xs
all_through P Q [] f h = tt
all_through P Q (x ∷ xs) f h = (f x h.0, all_through P Q xs f h.1)

rising_append : (n : ℕ) (xs ys : List Stretch) → IsRising xs → AllByRecursion (λ (s : Stretch). s.by.0 < n) xs → IsRising ys → AllByRecursion (λ (s : Stretch). s.by.0 ≡ n) ys
    → IsRising (xs ++ ys)
rising_append n [] ys h f g e = g
rising_append n (x ∷ xs) ys h f g e = (
  all_append (λ (t : Stretch). x.by.0 ≤ t.by.0) xs ys h.0
      (all_through (λ (s : Stretch). s.by.0 ≡ n) (λ (t : Stretch). x.by.0 ≤ t.by.0) ys (λ s is. let low = f.0 in omega (arith, is, low)) e),
  rising_append n xs ys h.1 f.1 g e,
)

rising_same : (n : ℕ) (xs : List Stretch) → AllByRecursion (λ (s : Stretch). s.by.0 ≡ n) xs → IsRising xs
rising_same n [] h = tt
rising_same n (x ∷ xs) h = (
  all_through (λ (s : Stretch). s.by.0 ≡ n) (λ (t : Stretch). x.by.0 ≤ t.by.0) xs (λ s is. let same = h.0 in omega (arith, is, same)) h.1,
  rising_same n xs h.1,
)

all_by : (by : Name) (spans : List Span) (first : ℕ) (ends : List ℕ) → AllByRecursion (λ (s : Stretch). s.by.0 ≡ by.0) (stretches by spans first ends)
all_by by spans first [] = tt
all_by by spans first (end ∷ ends) =
    all_append (λ (s : Stretch). s.by.0 ≡ by.0) (stretch_at by first end (slice_get spans first)) (stretches by spans end ends) (one (slice_get spans first))
    (all_by by spans end ends)
  where
    one : (o : Option Span) → AllByRecursion (λ (s : Stretch). s.by.0 ≡ by.0) (stretch_at by first end o)
    one None = tt
    one (Some span) = (refl, tt)

-- by their places
rising_at : (xs : List Stretch) → IsRising xs → IsNonDecreasingBy (λ (s : Stretch). s.by.0) xs
rising_at [] h i j d l m = absurd (omega (arith, m))
rising_at (x ∷ xs) h zero zero d l m = omega arith
rising_at (x ∷ xs) h zero (suc j) d l m = above xs j h.0 (omega (arith, m))
  where
    above : (ys : List Stretch) (k : ℕ) → AllByRecursion (λ (t : Stretch). x.by.0 ≤ t.by.0) ys → k < length ys → x.by.0 ≤ (slice_index_or ys k d).by.0
    above [] k g n = absurd (omega (arith, n))
    above (y ∷ ys) zero g n = g.0
    above (y ∷ ys) (suc k) g n = above ys k g.1 (omega (arith, n))
rising_at (x ∷ xs) h (suc i) zero d l m = absurd (omega (arith, l))
rising_at (x ∷ xs) h (suc i) (suc j) d l m = rising_at xs h.1 i j d (omega (arith, l)) (omega (arith, m))

module _ (histories : List History) (runs : List (List ℕ)) where
  all_below : (n : ℕ) → AllByRecursion (λ (s : Stretch). s.by.0 < n) (stretches_below histories runs n)
  all_below zero = tt
  all_below (suc n) =
      all_append (λ (s : Stretch). s.by.0 < suc n) (stretches_below histories runs n) (stretches_of histories runs (numbered n))
      (all_through (λ (s : Stretch). s.by.0 < n) (λ (s : Stretch). s.by.0 < suc n) (stretches_below histories runs n) (λ s l. omega (arith, l)) (all_below n))
      (all_through (λ (s : Stretch). s.by.0 ≡ n) (λ (s : Stretch). s.by.0 < suc n) (stretches_of histories runs (numbered n)) (λ s e. omega (arith, e))
      (all_by (numbered n) (history_of histories (numbered n)).spans 0 (ends_at runs (numbered n))))

  rising_below : (n : ℕ) → IsRising (stretches_below histories runs n)
  rising_below zero = tt
  rising_below (suc n) =
      let here = all_by (numbered n) (history_of histories (numbered n)).spans 0 (ends_at runs (numbered n)) in
      rising_append n (stretches_below histories runs n) (stretches_of histories runs (numbered n)) (rising_below n) (all_below n)
      (rising_same n (stretches_of histories runs (numbered n)) here) here

  pub held_up : (all : List (List Stretch)) → AreHolders histories runs all → (name : Name) (helds : List Stretch) → helds ≡ held_at all name → IsRising helds
  held_up all are name helds e =
      subst IsRising (sym (e ∙ are name)) (rising_filter (holds name) (stretches_below histories runs (length histories)) (rising_below (length histories)))

  pub held_rising : (all : List (List Stretch)) → AreHolders histories runs all → (name : Name) (helds : List Stretch) → helds ≡ held_at all name
      → IsNonDecreasingBy (λ (s : Stretch). s.by.0) helds
  held_rising all are name helds e = rising_at helds (held_up all are name helds e)

dropped : (i : ℕ) (xs : List Stretch) (j : ℕ) → j < length (drop i xs) → i + j < length xs
dropped zero [] j m = absurd (omega (arith, m))
dropped zero (x ∷ xs) j m = omega (arith, m)
dropped (suc i) [] j m = absurd (omega (arith, m))
dropped (suc i) (x ∷ xs) j m = let r = dropped i xs j m in omega (arith, r)

pub rising_behind : (helds : List Stretch) (n : ℕ) → IsNonDecreasingBy (λ (s : Stretch). s.by.0) helds → IsNonDecreasingBy (λ (s : Stretch). s.by.0) (drop n helds)
rising_behind helds n up i j d l m =
    subst (λ (t : Stretch). t.by.0 ≤ (slice_index_or (drop n helds) j d).by.0) (sym (get_or-drop n helds i d))
    (subst (λ (t : Stretch). (slice_index_or helds (n + i) d).by.0 ≤ t.by.0) (sym (get_or-drop n helds j d))
    (up (n + i) (n + j) d (omega (arith, l)) (dropped n helds j m)))

-- ---- halving finds those in one list

module _ {X : Type 0} (p : X → Bool) where
  filter_none : (xs : List X) → ((k : ℕ) (d : X) → k < length xs → p (slice_index_or xs k d) ≡ false) → filter p xs ≡ []
  filter_none [] f = refl
  filter_none (x ∷ xs) f =
      ap (λ (b : Bool). cond b (x ∷ filter p xs) (filter p xs)) (f 0 x (omega arith)) ∙ filter_none xs (λ k d l. f (suc k) d (omega (arith, l)))

  filter_skip : (n : ℕ) (xs : List X) → ((k : ℕ) (d : X) → k < n → k < length xs → p (slice_index_or xs k d) ≡ false) → filter p (drop n xs) ≡ filter p xs
  filter_skip zero [] f = refl
  filter_skip zero (x ∷ xs) f = refl
  filter_skip (suc n) [] f = refl
  filter_skip (suc n) (x ∷ xs) f =
      filter_skip n xs (λ k d l m. f (suc k) d (omega (arith, l)) (omega (arith, m)))
      ∙ sym (ap (λ (b : Bool). cond b (x ∷ filter p xs) (filter p xs)) (f 0 x (omega arith) (omega arith)))

  filter_front : (n : ℕ) (xs : List X) → ((k : ℕ) (d : X) → k < n → k < length xs → p (slice_index_or xs k d) ≡ true)
      → ((k : ℕ) (d : X) → n ≤ k → k < length xs → p (slice_index_or xs k d) ≡ false) → take n xs ≡ filter p xs
  filter_front zero [] f g = refl
  filter_front zero (x ∷ xs) f g = sym (filter_none (x ∷ xs) (λ k d l. g k d (omega arith) l))
  filter_front (suc n) [] f g = refl
  filter_front (suc n) (x ∷ xs) f g =
      ap (λ (ys : List X). x ∷ ys) (filter_front n xs (λ k d l m. f (suc k) d (omega (arith, l)) (omega (arith, m))) (λ k d l m. g (suc k) d (omega (arith, l)) (omega (arith, m))))
      ∙ sym (ap (λ (b : Bool). cond b (x ∷ filter p xs) (filter p xs)) (f 0 x (omega arith) (omega arith)))

abbrev pub stands_before : Name → Stretch → Bool
stands_before by s = nat_lt s.by.0 by.0

abbrev pub stands_by : Name → Stretch → Bool
stands_by by s = nat_le s.by.0 by.0

pub halved : (by : Name) (helds : List Stretch) (start count : ℕ) → IsPartitionPoint (λ s. stands_before by s ≡ true) (λ s. stands_before by s ≡ false) helds start
    → IsPartitionPoint (λ s. stands_by by s ≡ true) (λ s. stands_by by s ≡ false) (drop start helds) count
    → take count (drop start helds) ≡ filter (stands_in by) helds
halved by helds start count first last =
    filter_front (stands_in by) count (drop start helds) there behind
    ∙ filter_skip (stands_in by) start helds (λ k d m n. before k d m)
  where
    before : (k : ℕ) (d : Stretch) → k < start → stands_in by (slice_index_or helds k d) ≡ false
    before k d m =
        let s = slice_index_or helds k d in
        let low = ltb-true s.by.0 by.0 (first.0 k d (omega arith) m) in
        ne_eqb s.by.0 by.0 (λ e. omega (arith, e, low))

    there : (k : ℕ) (d : Stretch) → k < count → k < length (drop start helds) → stands_in by (slice_index_or (drop start helds) k d) ≡ true
    there k d m n =
        let s = slice_index_or (drop start helds) k d in
        let high = leb-true s.by.0 by.0 (last.0 k d (omega arith) m) in
        let low = ltb-false s.by.0 by.0
        (subst (λ (t : Stretch). stands_before by t ≡ false) (sym (get_or-drop start helds k d)) (first.1 (start + k) d (omega arith) (dropped start helds k n))) in
        eq-eqb s.by.0 by.0 (omega (arith, high, low))

    behind : (k : ℕ) (d : Stretch) → count ≤ k → k < length (drop start helds) → stands_in by (slice_index_or (drop start helds) k d) ≡ false
    behind k d m n =
        let s = slice_index_or (drop start helds) k d in
        let high = past s (last.1 k d m n) in
        ne_eqb s.by.0 by.0 (λ e. omega (arith, e, high))
      where
        past : (s : Stretch) → stands_by by s ≡ false → by.0 < s.by.0
        past s e = split (cases_lt by.0 s.by.0)
          where
            split : (by.0 < s.by.0) ⊎ (s.by.0 ≤ by.0) → by.0 < s.by.0
            split (inl less) = less
            split (inr more) = absurd (true≢false (sym (le-leb s.by.0 by.0 more) ∙ e))

-- what stands from a place on
pub all_behind : {X : Type 0} (n : ℕ) (xs : List X) → take (length xs - n) (drop n xs) ≡ drop n xs
all_behind {X = X} zero xs =
    let many : length xs - 0 ≡ length xs = omega arith in
    ap (λ (k : ℕ). take k (drop 0 xs)) many ∙ from xs
  where
    whole : (ys : List X) → take (length ys) ys ≡ ys
    whole [] = refl
    whole (y ∷ ys) = ap (λ (zs : List X). y ∷ zs) (whole ys)

    from : (ys : List X) → take (length ys) (drop 0 ys) ≡ drop 0 ys
    from [] = refl
    from (y ∷ ys) = whole (y ∷ ys)
all_behind {X = X} (suc n) [] =
    let none : 0 - suc n ≡ 0 = omega arith in
    ap (λ (k : ℕ). take k (drop (suc n) (let nothing : List X = [] in nothing))) none
all_behind {X = X} (suc n) (x ∷ xs) =
    let many : suc (length xs) - suc n ≡ length xs - n = omega arith in
    ap (λ (k : ℕ). take k (drop n xs)) many ∙ all_behind n xs

-- ---- those in one list are the runs of the list that hold the object

filter_all : {X : Type 0} (p : X → Bool) (xs : List X) → AllByRecursion (λ (x : X). p x ≡ true) xs → filter p xs ≡ xs
filter_all {X = X} p [] h = refl
filter_all {X = X} p (x ∷ xs) h = ap (λ (b : Bool). cond b (x ∷ filter p xs) (filter p xs)) h.0 ∙ ap (λ (ys : List X). x ∷ ys) (filter_all p xs h.1)

filter_off : {X : Type 0} (p : X → Bool) (xs : List X) → AllByRecursion (λ (x : X). p x ≡ false) xs → filter p xs ≡ []
filter_off {X = X} p [] h = refl
filter_off {X = X} p (x ∷ xs) h = ap (λ (b : Bool). cond b (x ∷ filter p xs) (filter p xs)) h.0 ∙ filter_off p xs h.1

module _ (histories : List History) (runs : List (List ℕ)) (name by : Name) where
  abbrev kept : List Stretch → List Stretch
  kept xs = filter (stands_in by) (filter (holds name) xs)

  kept_of : (n : ℕ) → kept (stretches_of histories runs (numbered n)) ≡ cond (n == by.0) (filter (holds name) (stretches_of histories runs by)) []
  kept_of n = split (n == by.0) refl
    where
      here : List Stretch
      here = stretches_of histories runs (numbered n)

      ids : AllByRecursion (λ (s : Stretch). s.by.0 ≡ n) here
      ids = all_by (numbered n) (history_of histories (numbered n)).spans 0 (ends_at runs (numbered n))

      split : (b : Bool) → (n == by.0) ≡ b → kept here ≡ cond b (filter (holds name) (stretches_of histories runs by)) []
      split true e =
          let same = eqb-true n by.0 e in
          filter_all (stands_in by) (filter (holds name) here)
          (all_filter (λ (s : Stretch). stands_in by s ≡ true) (holds name) here
          (all_through (λ (s : Stretch). s.by.0 ≡ n) (λ (s : Stretch). stands_in by s ≡ true) here (λ s is. eq-eqb s.by.0 by.0 (omega (arith, is, same))) ids))
          ∙ ap (λ (x : Name). filter (holds name) (stretches_of histories runs x)) (name_is (numbered n) by same)
      split false e =
          filter_off (stands_in by) (filter (holds name) here)
          (all_filter (λ (s : Stretch). stands_in by s ≡ false) (holds name) here
          (all_through (λ (s : Stretch). s.by.0 ≡ n) (λ (s : Stretch). stands_in by s ≡ false) here
          (λ s is. ap (λ (k : ℕ). k == by.0) is ∙ e) ids))

  kept_below : (n : ℕ) → kept (stretches_below histories runs n) ≡ cond (nat_lt by.0 n) (filter (holds name) (stretches_of histories runs by)) []
  kept_below zero = ap (λ (b : Bool). cond b (filter (holds name) (stretches_of histories runs by)) []) (sym (le-ltb by.0 0 (omega arith)))
  kept_below (suc n) =
      ap (filter (stands_in by)) (filter-append (holds name) (stretches_below histories runs n) (stretches_of histories runs (numbered n)))
      ∙ filter-append (stands_in by) (filter (holds name) (stretches_below histories runs n)) (filter (holds name) (stretches_of histories runs (numbered n)))
      ∙ ap (λ (xs : List Stretch). xs ++ kept (stretches_of histories runs (numbered n))) (kept_below n)
      ∙ ap (λ (xs : List Stretch). cond (nat_lt by.0 n) there [] ++ xs) (kept_of n)
      ∙ split (cases_lt by.0 n)
    where
      there : List Stretch
      there = filter (holds name) (stretches_of histories runs by)

      nil : (xs : List Stretch) → xs ++ [] ≡ xs
      nil [] = refl
      nil (x ∷ xs) = ap (λ (ys : List Stretch). x ∷ ys) (nil xs)

      at : (a b c : Bool) → nat_lt by.0 n ≡ a → (n == by.0) ≡ b → nat_lt by.0 (suc n) ≡ c → cond a there [] ++ cond b there [] ≡ cond c there []
          → cond (nat_lt by.0 n) there [] ++ cond (n == by.0) there [] ≡ cond (nat_lt by.0 (suc n)) there []
      at a b c e f g h =
          ap (λ (x : Bool). cond x there [] ++ cond (n == by.0) there []) e ∙ ap (λ (x : Bool). cond a there [] ++ cond x there []) f ∙ h
          ∙ ap (λ (x : Bool). cond x there []) (sym g)

      split : (by.0 < n) ⊎ (n ≤ by.0) → cond (nat_lt by.0 n) there [] ++ cond (n == by.0) there [] ≡ cond (nat_lt by.0 (suc n)) there []
      split (inl l) = at true false true (lt-ltb by.0 n l) (ne_eqb n by.0 (λ e. omega (arith, e, l))) (lt-ltb by.0 (suc n) (omega (arith, l))) (nil there)
      split (inr l) = same (cases_lt n by.0)
        where
          same : (n < by.0) ⊎ (by.0 ≤ n) → cond (nat_lt by.0 n) there [] ++ cond (n == by.0) there [] ≡ cond (nat_lt by.0 (suc n)) there []
          same (inl m) = at false false false (le-ltb by.0 n l) (ne_eqb n by.0 (λ e. omega (arith, e, m))) (le-ltb by.0 (suc n) (omega (arith, m))) refl
          same (inr m) = at false true true (le-ltb by.0 n l) (eq-eqb n by.0 (omega (arith, l, m))) (lt-ltb by.0 (suc n) (omega (arith, m))) refl

-- each holds the object
pub alone_in : (histories : List History) (runs : List (List ℕ)) (cut : AreRuns histories runs) (all : List (List Stretch)) (are : AreHolders histories runs all) (name by : Name)
    (helds : List Stretch) (n : ℕ) (s : Stretch) → helds ≡ held_in all name by → n < length helds → s ≡ slice_index_or helds n s → HoldsAlone histories name s
alone_in histories runs cut all are name by helds n s e l is =
    alone_each histories runs cut all are name s
    (has_filtered (stands_in by) (held_at all name) s (subst (λ (xs : List Stretch). Has xs s) e (placed helds n l is))).0
  where
    placed : (xs : List Stretch) (i : ℕ) → i < length xs → s ≡ slice_index_or xs i s → Has xs s
    placed [] i m f = absurd (omega (arith, m))
    placed (y ∷ xs) zero m f = inl (sym f)
    placed (y ∷ xs) (suc i) m f = inr (placed xs i (omega (arith, m)) f)

-- ---- the hops over them are those over the list

module _ (made : Name → Bool) (level : Name → Latest) (from : Arrived) (histories : List History) where
  -- of a hop, and of all over these runs
  abbrev pub over_runs : Option Onward → List Stretch → Option Onward
  over_runs first [] = first
  over_runs first (s ∷ ss) = over_runs (first_from made level from first (spans_in histories s)) ss

  module _ (name : Name) (none : (x : Name) → (x.0 == name.0) ≡ false → level x ≡ no_latest) (by : Name) where
    abbrev spans : List Span
    spans = (history_of histories by).spans

    list_is : (first : Option Onward) (start : ℕ) (ends : List ℕ) → AreCut start ends spans
        → over_runs first (filter (holds name) (stretches by spans start ends)) ≡ first_from made level from first (drop start spans)
    list_is first start [] cut = ap (λ (xs : List Span). first_from made level from first xs) (sym (none_left made level from spans start cut))
    list_is first start (end ∷ ends) cut =
        ap (over_runs first) (filter-append (holds name) (stretch_at by start end (slice_get spans start)) (stretches by spans end ends))
        ∙ one (slice_get spans start) refl
        ∙ list_is (first_from made level from first (between start end spans)) end ends cut.1.1.1
        ∙ sym (first_append made level from first (between start end spans) (drop end spans))
        ∙ ap (λ (xs : List Span). first_from made level from first xs) (sym (cut_off made level from start end spans cut.0))
      where
        rest : List Stretch
        rest = filter (holds name) (stretches by spans end ends)

        run : List Span
        run = between start end spans

        past : (xs : List Span) (n : ℕ) → slice_get xs n ≡ None → drop n xs ≡ []
        past [] zero e = refl
        past [] (suc n) e = refl
        past (x ∷ xs) zero e = absurd (cc)
        past (x ∷ xs) (suc n) e = past xs n e

        empty : (n : ℕ) (xs : List Span) → xs ≡ [] → take n xs ≡ []
        empty zero xs e = refl
        empty (suc n) xs e = ap (take (suc n)) e

        one : (o : Option Span) → slice_get spans start ≡ o
            → over_runs first (filter (holds name) (stretch_at by start end o) ++ rest) ≡ over_runs (first_from made level from first run) rest
        one None e =
            ap (λ (xs : List Span). over_runs (first_from made level from first xs) rest) (sym (empty (end - start) (drop start spans) (past spans start e)))
        one (Some span) e = split (span.cap.name.0 == name.0) refl
          where
            s : Stretch
            s = record { by = by; cap = span.cap; from = span.from; first = start; end = end }

            split : (b : Bool) → (span.cap.name.0 == name.0) ≡ b
                → over_runs first (cond b (s ∷ []) [] ++ rest) ≡ over_runs (first_from made level from first run) rest
            split true f = refl
            split false f =
                ap (λ (o : Option Onward). over_runs o rest)
                (sym (skipped made level from span.cap (none span.cap.name f) first run (between_alike spans start end span e cut.1.1.0)))

pub whole_over : (made : Name → Bool) (level : Name → Latest) (from : Arrived) (histories : List History) (first : Option Onward) (helds : List Stretch)
    → over_runs made level from histories first (drop 0 helds) ≡ over_runs made level from histories first helds
whole_over made level from histories first [] = refl
whole_over made level from histories first (s ∷ ss) = refl

pub all_over : (made : Name → Bool) (from : Arrived) (histories : List History) (runs : List (List ℕ)) (all : List (List Stretch)) (name by : Name) (latest : Latest) → AreRuns histories runs
    → AreHolders histories runs all → (first : Option Onward)
    → over_runs made (alone name latest) from histories first (held_in all name by) ≡ first_from made (alone name latest) from first (history_of histories by).spans
all_over made from histories runs all name by latest cut are first =
    ap (λ (xs : List Stretch). over_runs made level from histories first (filter (stands_in by) xs)) (are name)
    ∙ ap (over_runs made level from histories first) (kept_below histories runs name by (length histories))
    ∙ split (nat_lt by.0 (length histories)) refl
  where
    level : Name → Latest
    level = alone name latest

    whole : (xs : List Span) → drop 0 xs ≡ xs
    whole [] = refl
    whole (x ∷ xs) = refl

    split : (b : Bool) → nat_lt by.0 (length histories) ≡ b
        → over_runs made level from histories first (cond b (filter (holds name) (stretches_of histories runs by)) [])
        ≡ first_from made level from first (history_of histories by).spans
    split true e =
        list_is made level from histories name (λ x f. ap (λ (b : Bool). cond b latest no_latest) f) by first 0 (ends_at runs by) (cut by)
        ∙ ap (λ (xs : List Span). first_from made level from first xs) (whole (history_of histories by).spans)
    split false e =
        ap (λ (h : History). first_from made level from first h.spans) (sym (beyond histories by.0 (ltb-false by.0 (length histories) e)))

-- ---- what they give to the object of the list

module _ (histories : List History) (latest : Latest) (made : Bool) where
  abbrev pub joined_all : Latest → List Stretch → Latest
  joined_all all [] = all
  joined_all all (held ∷ more) = joined_all (joined all (latest_within (spans_in histories held) latest made)) more

  pub raised_is : (level : Name → Latest) (helds : List Stretch) (x : Name) → raised_over histories latest made level helds x ≡ joined_all (level x) (filter (stands_in x) helds)
  raised_is level [] x = refl
  raised_is level (held ∷ more) x = raised_is (raised_at level held.by given) more x ∙ by (held.by.0 == x.0)
    where
      given : Latest
      given = latest_within (spans_in histories held) latest made

      by : (b : Bool) → joined_all (cond b (joined (level x) given) (level x)) (filter (stands_in x) more)
          ≡ joined_all (level x) (cond b (held ∷ filter (stands_in x) more) (filter (stands_in x) more))
      by true = refl
      by false = refl

-- the run at a place gives, and those behind it
pub joined_more : (histories : List History) (latest : Latest) (made : Bool) (all after : Latest) (helds : List Stretch) (k : ℕ) (held : Stretch) (whole : Latest) → k < length helds
    → held ≡ slice_index_or helds k held → after ≡ joined all (latest_within (spans_in histories held) latest made)
    → joined_all histories latest made all (drop k helds) ≡ whole → joined_all histories latest made after (drop (k + 1) helds) ≡ whole
joined_more histories latest made all after helds k held whole l is step h =
    ap (λ (a : Latest). joined_all histories latest made a (drop (k + 1) helds)) step
    ∙ ap (joined_all histories latest made all) (sym (drop_more helds k held l is)) ∙ h

pub near_is : (made : Name → Bool) (histories : List History) (runs : List (List ℕ)) (all : List (List Stretch)) (name x : Name) (before : ℕ) → AreRuns histories runs
    → AreHolders histories runs all
    → joined_all histories (ends_before before) (made name) no_latest (held_in all name x) ≡ next_latest made histories (latest_end name before) x
near_is made histories runs all name x before cut are =
    sym (raised_is histories (ends_before before) (made name) (λ y. no_latest) (held_at all name) x)
    ∙ ap (λ (level : Name → Latest). level x) (end_next made histories runs all name before cut are)

pub near_found : (made : Name → Bool) (histories : List History) (runs : List (List ℕ)) (all : List (List Stretch)) (name x : Name) (before : ℕ) → AreRuns histories runs
    → AreHolders histories runs all → (latest found : Latest) (m : Bool) (helds : List Stretch) (k : ℕ) → latest ≡ ends_before before → m ≡ made name → helds ≡ held_in all name x
    → length helds ≤ k → joined_all histories latest m found (drop k helds) ≡ joined_all histories latest m no_latest helds
    → found ≡ next_latest made histories (latest_end name before) x
near_found made histories runs all name x before cut are latest found m helds k l e same done h =
    sym (ap (joined_all histories latest m found) (drop_done helds k done)) ∙ h
    ∙ ap (λ (a : Latest). joined_all histories a m no_latest helds) l ∙ ap (λ (b : Bool). joined_all histories (ends_before before) b no_latest helds) e
    ∙ ap (joined_all histories (ends_before before) (made name) no_latest) same ∙ near_is made histories runs all name x before cut are

pub first_found : (made : Name → Bool) (from : Arrived) (histories : List History) (runs : List (List ℕ)) (all : List (List Stretch)) (name by : Name) (latest : Latest) → AreRuns histories runs
    → AreHolders histories runs all → (start first : Option Onward) (helds : List Stretch) (k : ℕ) → helds ≡ held_in all name by → length helds ≤ k
    → over_runs made (alone name latest) from histories first (drop k helds) ≡ over_runs made (alone name latest) from histories start helds
    → first ≡ first_from made (alone name latest) from start (history_of histories by).spans
first_found made from histories runs all name by latest cut are start first helds k same done h =
    sym (ap (over_runs made (alone name latest) from histories first) (drop_done helds k done)) ∙ h
    ∙ ap (over_runs made (alone name latest) from histories start) same ∙ all_over made from histories runs all name by latest cut are start

pub alone_at : (name : Name) (latest : Latest) → latest ≡ alone name latest name
alone_at name latest = ap (λ (b : Bool). cond b latest no_latest) (sym (eq-eqb name.0 name.0 refl))
