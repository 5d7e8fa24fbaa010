-- Runs of spans, how a list is cut into them, and what halving finds in one.
use Rattle.std.proofs.Common.{◌≡◌, ℕ, zero, suc, ◌+◌, ◌-◌, ◌<◌, ◌≤◌, List, [], ◌∷◌, ◌++◌, length, Bool, true, false, Option, Some, None, refl, sym, ◌∙◌, ap, arith, cond, subst, take, slice_get, append_assoc, MatchOption, Bor}
use Rattle.std.specs.Prelude.{◌==◌, ◌&&◌, ◌⊎◌, drop, nat_lt, nat_le, slice_index_or}
use mathlib.Core.Logic.{inl, inr}
use Rattle.std.specs.Option.{option_copied}
use Rattle.std.specs.List.{AllByRecursion, between, find}
use Rattle.std.specs.List.Sorted.{IsPartitionedBy, IsPartitionPoint}
use Rattle.std.specs.Cmp.{first_so, second_so}
use Rattle.std.proofs.lemmas.Bool.{true≢false, lt-ltb, ltb-true, le-ltb, ltb-false, leb-true, le-leb, eqb-true, eq-eqb, cases_lt}
use Rattle.std.proofs.lemmas.List.{append-nil, length-drop, get_or-drop, get_or_default}
use Rattle.std.proofs.lemmas.Option.{slice_get_past}
use Rattle.hk_model.specs.declared.entries.Cap.{Cap}
use Rattle.hk_report.specs.declared.histories.Span.{Span}
use Rattle.hk_report.specs.Histories.{same_cap}
use Rattle.hk_report.specs.Hops.{greater, lesser, from_on}
use Rattle.hk_report.specs.Runs.{precedes, IsRun, AreCut, is_open}
use Rattle.hk_report.specs.Holders.{most_on}
use Rattle.hk_report.proofs.Relists.{cap_is}

-- ---- one span before another

pub record Precedes (a b : Span) : Type 0 where
  pub index_is : a.index ≡ b.index
  pub cap_is : a.cap ≡ b.cap
  pub stood : a.from < a.until
  pub gone : a.until ≤ b.from
  pub stands : b.from < b.until

pub precedes_so : (a b : Span) → precedes a b ≡ true → Precedes a b
precedes_so a b h =
    let until = nat_le a.until b.from && nat_lt b.from b.until in
    let from = nat_lt a.from a.until && until in
    let cap = same_cap a.cap b.cap && from in
    let caps = second_so (a.index == b.index) cap h in
    let froms = second_so (same_cap a.cap b.cap) from caps in
    let untils = second_so (nat_lt a.from a.until) until froms in
    record {
      index_is = eqb-true a.index b.index (first_so (a.index == b.index) cap h);
      cap_is = cap_is a.cap b.cap (first_so (same_cap a.cap b.cap) from caps);
      stood = ltb-true a.from a.until (first_so (nat_lt a.from a.until) until froms);
      gone = leb-true a.until b.from (first_so (nat_le a.until b.from) (nat_lt b.from b.until) untils);
      stands = ltb-true b.from b.until (second_so (nat_le a.until b.from) (nat_lt b.from b.until) untils);
    }

and_so : (a b : Bool) → a ≡ true → b ≡ true → (a && b) ≡ true
and_so true b h g = g
and_so false b h g = absurd (true≢false (sym h))

precedes_yes : (a b : Span) → Precedes a b → precedes a b ≡ true
precedes_yes a b h =
    let names = ap (λ (cap : Cap). cap.name.0) h.cap_is in
    let rights = ap (λ (cap : Cap). cap.rights) h.cap_is in
    and_so (a.index == b.index) (same_cap a.cap b.cap && (nat_lt a.from a.until && (nat_le a.until b.from && nat_lt b.from b.until))) (eq-eqb a.index b.index h.index_is)
    (and_so (same_cap a.cap b.cap) (nat_lt a.from a.until && (nat_le a.until b.from && nat_lt b.from b.until))
    (and_so (a.cap.name.0 == b.cap.name.0) (a.cap.rights == b.cap.rights) (eq-eqb a.cap.name.0 b.cap.name.0 names) (eq-eqb a.cap.rights b.cap.rights rights))
    (and_so (nat_lt a.from a.until) (nat_le a.until b.from && nat_lt b.from b.until) (lt-ltb a.from a.until h.stood)
    (and_so (nat_le a.until b.from) (nat_lt b.from b.until) (le-leb a.until b.from h.gone) (lt-ltb b.from b.until h.stands))))

through : (a b c : Span) → Precedes a b → Precedes b c → Precedes a c
through a b c f g =
    let x = f.gone in
    let y = f.stands in
    let z = g.gone in
    record { index_is = f.index_is ∙ g.index_is; cap_is = f.cap_is ∙ g.cap_is; stood = f.stood; gone = omega (arith, x, y, z); stands = g.stands }

-- ---- runs by their places

abbrev pub at : List Span → ℕ → Span → Span
at spans i d = slice_index_or spans i d

abbrev pub RunTo : List Span → ℕ → ℕ → Type 0
RunTo spans first end = (i j : ℕ) (d : Span) → first ≤ i → i < j → j < end → Precedes (at spans i d) (at spans j d)

head_all : (span : Span) (more : List Span) (n : ℕ) → n ≤ length more → ((j : ℕ) (d : Span) → j < n → Precedes span (at more j d)) → AllByRecursion (λ (later : Span). precedes span later ≡ true) (take n more)
head_all span [] zero l f = tt
head_all span [] (suc n) l f = tt
head_all span (s ∷ more) zero l f = tt
head_all span (s ∷ more) (suc n) l f = (precedes_yes span s (f 0 s (omega arith)), head_all span more n (omega (arith, l)) (λ j d m. f (suc j) d (omega (arith, m))))

run_front : (spans : List Span) (n : ℕ) → n ≤ length spans → ((i j : ℕ) (d : Span) → i < j → j < n → Precedes (at spans i d) (at spans j d)) → IsRun (take n spans)
run_front [] zero l f = tt
run_front [] (suc n) l f = tt
run_front (s ∷ spans) zero l f = tt
run_front (s ∷ spans) (suc n) l f = (
  head_all s spans n (omega (arith, l)) (λ j d m. f 0 (suc j) d (omega arith) (omega (arith, m))),
  run_front spans n (omega (arith, l)) (λ i j d m k. f (suc i) (suc j) d (omega (arith, m)) (omega (arith, k))),
)

run_between : (spans : List Span) (first end : ℕ) → first ≤ end → end ≤ length spans → RunTo spans first end → IsRun (between first end spans)
run_between spans first end b e f =
    let many = length-drop first spans in
    run_front (drop first spans) (end - first) (omega (arith, many, b, e))
    (λ i j d m k.
    subst (λ (x : Span). Precedes x (at (drop first spans) j d)) (sym (get_or-drop first spans i d))
    (subst (λ (y : Span). Precedes (at spans (first + i) d) y) (sym (get_or-drop first spans j d))
    (f (first + i) (first + j) d (omega arith) (omega (arith, m)) (omega (arith, k, b)))))

-- ---- a list that is cut place by place: the places so far, and the run that is not at its end

pub record Cutting (spans : List Span) (ends : List ℕ) (place : ℕ) : Type 0 where
  pub start : ℕ
  pub before : start < place
  pub inside : start ≤ length spans
  pub run : RunTo spans start place
  pub so_far : (rest : List ℕ) → AreCut start rest spans → AreCut 0 (ends ++ rest) spans

pub cut_begun : (spans : List Span) (ends : List ℕ) → ends ≡ [] → Cutting spans ends 1
cut_begun spans ends e = record {
  start = 0;
  before = omega arith;
  inside = omega arith;
  run = λ i j d l m k. absurd (omega (arith, m, k));
  so_far = λ rest h. subst (λ (xs : List ℕ). AreCut 0 (xs ++ rest) spans) (sym e) h;
}

-- a span stands in the run
pub cut_more : (spans : List Span) (ends : List ℕ) (place : ℕ) (a b : Span) → Cutting spans ends place → place < length spans → a ≡ at spans (place - 1) a → b ≡ at spans place b
    → precedes a b ≡ true → Cutting spans ends (place + 1)
cut_more spans ends place a b cutting l e f h =
    let some = cutting.before in
    record {
      start = cutting.start;
      before = omega (arith, some);
      inside = cutting.inside;
      run = λ i j d x y z. by i j d x y (cases_lt j place) z;
      so_far = cutting.so_far;
    }
  where
    step : (d : Span) → Precedes (at spans (place - 1) d) (at spans place d)
    step d =
        let some = cutting.before in
        subst (λ (y : Span). Precedes (at spans (place - 1) d) y) (f ∙ get_or_default spans place b d l)
        (subst (λ (x : Span). Precedes x b) (e ∙ get_or_default spans (place - 1) a d (omega (arith, l, some))) (precedes_so a b h))

    last : (i : ℕ) (d : Span) → cutting.start ≤ i → (i < place - 1) ⊎ (place - 1 ≤ i) → i < place → Precedes (at spans i d) (at spans place d)
    last i d x (inl early) y =
        let some = cutting.before in
        through (at spans i d) (at spans (place - 1) d) (at spans place d) (cutting.run i (place - 1) d x early (omega (arith, some))) (step d)
    last i d x (inr late) y =
        let same : place - 1 ≡ i = omega (arith, late, y) in
        subst (λ (n : ℕ). Precedes (at spans n d) (at spans place d)) same (step d)

    by : (i j : ℕ) (d : Span) → cutting.start ≤ i → i < j → (j < place) ⊎ (place ≤ j) → j < place + 1 → Precedes (at spans i d) (at spans j d)
    by i j d x y (inl early) z = cutting.run i j d x y early
    by i j d x y (inr late) z =
        let same : place ≡ j = omega (arith, late, z) in
        subst (λ (n : ℕ). Precedes (at spans i d) (at spans n d)) same (last i d x (cases_lt i (place - 1)) (omega (arith, y, z)))

-- what was cut is a run
ended : (spans : List Span) (ends : List ℕ) (place : ℕ) → Cutting spans ends place → place ≤ length spans → (rest : List ℕ) → AreCut place rest spans → AreCut 0 ((ends ++ place ∷ []) ++ rest) spans
ended spans ends place cutting l rest h =
    let some = cutting.before in
    let low : cutting.start ≤ place = omega (arith, some) in
    subst (λ (xs : List ℕ). AreCut 0 xs spans) (sym (append_assoc ends (place ∷ []) rest))
    (cutting.so_far (place ∷ rest) (low, (l, (run_between spans cutting.start place low l cutting.run, h))))

-- it begins a run
pub cut_new : (spans : List Span) (ends after : List ℕ) (place : ℕ) → Cutting spans ends place → place < length spans → after ≡ ends ++ place ∷ [] → Cutting spans after (place + 1)
cut_new spans ends after place cutting l e = record {
  start = place;
  before = omega arith;
  inside = omega (arith, l);
  run = λ i j d x y z. absurd (omega (arith, x, y, z));
  so_far = λ rest h. subst (λ (xs : List ℕ). AreCut 0 (xs ++ rest) spans) (sym e) (ended spans ends place cutting (omega (arith, l)) rest h);
}

-- the last run ends behind the last span
pub cut_all : (spans : List Span) (ends after : List ℕ) (place : ℕ) → Cutting spans ends place → length spans ≤ place → after ≡ ends ++ length spans ∷ [] → AreCut 0 after spans
cut_all spans ends after place cutting l e =
    let low = cutting.inside in
    subst (λ (xs : List ℕ). AreCut 0 xs spans) (sym e)
    (cutting.so_far (length spans ∷ []) (low, (omega arith, (run, omega arith))))
  where
    run : IsRun (between cutting.start (length spans) spans)
    run = run_between spans cutting.start (length spans) cutting.inside (omega arith) (λ i j d x y z. cutting.run i j d x y (omega (arith, z, l)))

pub cut_none : (spans : List Span) (ends : List ℕ) (place : ℕ) → Cutting spans ends place → length spans ≡ 0 → AreCut 0 ends spans
cut_none spans ends place cutting e =
    subst (λ (xs : List ℕ). AreCut 0 xs spans) (append-nil ends) (cutting.so_far [] (omega (arith, e)))

-- ---- what halving finds

all_at : (P : Span → Type 0) (spans : List Span) (i : ℕ) (d : Span) → AllByRecursion P spans → i < length spans → P (at spans i d)
all_at P [] i d h l = absurd (omega (arith, l))
all_at P (s ∷ spans) zero d h l = h.0
all_at P (s ∷ spans) (suc i) d h l = all_at P spans i d h.1 (omega (arith, l))

later_at : (s : Span) (spans : List Span) (i : ℕ) (d : Span) → AllByRecursion (λ (later : Span). precedes s later ≡ true) spans → i < length spans → Precedes s (at spans i d)
later_at s spans i d h l = precedes_so s (at spans i d) (all_at (λ (later : Span). precedes s later ≡ true) spans i d h l)

pub run_at : (spans : List Span) (i j : ℕ) (d : Span) → IsRun spans → i < j → j < length spans → Precedes (at spans i d) (at spans j d)
run_at [] i j d h l m = absurd (omega (arith, m))
run_at (s ∷ spans) zero zero d h l m = absurd (omega (arith, l))
run_at (s ∷ spans) zero (suc j) d h l m = later_at s spans j d h.0 (omega (arith, m))
run_at (s ∷ spans) (suc i) zero d h l m = absurd (omega (arith, l))
run_at (s ∷ spans) (suc i) (suc j) d h l m = run_at spans i j d h.1 (omega (arith, l)) (omega (arith, m))

-- what has ended by a moment stands first, and so does what has begun
abbrev pub has_ended : ℕ → Span → Bool
has_ended moment span = nat_le span.until moment

abbrev pub has_started : ℕ → Span → Bool
has_started bound span = nat_lt span.from bound

pub ended_first : (run : List Span) (moment : ℕ) → IsRun run → IsPartitionedBy (has_ended moment) run
ended_first run moment h i j d l m e = by (cases_lt i j)
  where
    by : (i < j) ⊎ (j ≤ i) → has_ended moment (at run i d) ≡ true
    by (inl less) =
        let p = run_at run i j d h less m in
        let x = p.gone in
        let y = p.stands in
        let z = leb-true (at run j d).until moment e in
        le-leb (at run i d).until moment (omega (arith, x, y, z))
    by (inr late) =
        let same : j ≡ i = omega (arith, l, late) in
        subst (λ (n : ℕ). has_ended moment (at run n d) ≡ true) same e

pub started_first : (run : List Span) (bound : ℕ) → IsRun run → IsPartitionedBy (has_started bound) run
started_first run bound h i j d l m e = by (cases_lt i j)
  where
    by : (i < j) ⊎ (j ≤ i) → has_started bound (at run i d) ≡ true
    by (inl less) =
        let p = run_at run i j d h less m in
        let x = p.stood in
        let y = p.gone in
        let z = ltb-true (at run j d).from bound e in
        lt-ltb (at run i d).from bound (omega (arith, x, y, z))
    by (inr late) =
        let same : j ≡ i = omega (arith, l, late) in
        subst (λ (n : ℕ). has_started bound (at run n d) ≡ true) same e

find_there : (p : Span → Bool) (run : List Span) (n : ℕ) → n ≤ length run → ((k : ℕ) (d : Span) → k < n → p (at run k d) ≡ false)
    → ((d : Span) → n < length run → p (at run n d) ≡ true) → slice_get run n ≡ find p run
find_there p [] zero l f g = refl
find_there p [] (suc n) l f g = absurd (omega (arith, l))
find_there p (s ∷ run) zero l f g = sym (ap (λ (b : Bool). cond b (Some s) (find p run)) (g s (omega arith)))
find_there p (s ∷ run) (suc n) l f g =
    find_there p run n (omega (arith, l)) (λ k d m. f (suc k) d (omega (arith, m))) (λ d m. g d (omega (arith, m)))
    ∙ sym (ap (λ (b : Bool). cond b (Some s) (find p run)) (f 0 s (omega arith)))

pub open_found : (run : List Span) (moment n : ℕ) → n ≤ length run
    → IsPartitionPoint (λ s. has_ended moment s ≡ true) (λ s. has_ended moment s ≡ false) run n → slice_get run n ≡ find (is_open moment) run
open_found run moment n l point =
    find_there (is_open moment) run n l
    (λ k d m. let x = leb-true (at run k d).until moment (point.0 k d (omega arith) m) in le-ltb moment (at run k d).until x)
    (λ d m. later (at run n d) (point.1 n d (omega arith) m))
  where
    later : (s : Span) → has_ended moment s ≡ false → is_open moment s ≡ true
    later s e = by (cases_lt moment s.until)
      where
        by : (moment < s.until) ⊎ (s.until ≤ moment) → is_open moment s ≡ true
        by (inl less) = lt-ltb moment s.until less
        by (inr late) = absurd (true≢false (sym (le-leb s.until moment late) ∙ e))

pub open_first : (run : List Span) (moment : ℕ) (span : Span) → Some span ≡ slice_get run 0 → moment < span.until → Some span ≡ find (is_open moment) run
open_first [] moment span e l = absurd (cc)
open_first (s ∷ run) moment span e l =
    let same : span ≡ s = cc in
    e ∙ sym (ap (λ (b : Bool). cond b (Some s) (find (is_open moment) run)) (lt-ltb moment s.until (subst (λ (x : Span). moment < x.until) same l)))

-- ---- the last span of a run that has begun

from_on_none : (span : Span) (bound : ℕ) → bound ≤ span.from → from_on span bound ≡ 0
from_on_none span bound l =
    ap (λ (b : Bool). cond b (lesser span.until bound) 0) (le-ltb span.from (lesser span.until bound) (low (nat_lt span.until bound) refl))
  where
    low : (o : Bool) → nat_lt span.until bound ≡ o → cond o span.until bound ≤ span.from
    low true e = let x = ltb-true span.until bound e in omega (arith, x, l)
    low false e = l

from_on_until : (span : Span) (bound : ℕ) → from_on span bound ≤ span.until
from_on_until span bound = by (nat_lt span.from (lesser span.until bound)) (nat_lt span.until bound) refl
  where
    by : (b o : Bool) → nat_lt span.until bound ≡ o → cond b (cond o span.until bound) 0 ≤ span.until
    by true true e = omega arith
    by true false e = ltb-false span.until bound e
    by false o e = omega arith

from_on_some : (span : Span) (bound : ℕ) → span.from < bound → span.from < span.until → span.from < from_on span bound
from_on_some span bound l m = by (nat_lt span.until bound)
  where
    by : (o : Bool) → span.from < cond (nat_lt span.from (cond o span.until bound)) (cond o span.until bound) 0
    by true = subst (λ (b : Bool). span.from < cond b span.until 0) (sym (lt-ltb span.from span.until m)) m
    by false = subst (λ (b : Bool). span.from < cond b bound 0) (sym (lt-ltb span.from bound l)) l

greater_none : (a : ℕ) → greater a 0 ≡ a
greater_none a = ap (λ (b : Bool). cond b 0 a) (le-ltb a 0 (omega arith))

greater_second : (a b : ℕ) → a < b → greater a b ≡ b
greater_second a b l = ap (λ (o : Bool). cond o b a) (lt-ltb a b l)

none_on : (run : List Span) (bound : ℕ) → ((k : ℕ) (d : Span) → k < length run → bound ≤ (at run k d).from) → most_on run bound ≡ 0
none_on [] bound f = refl
none_on (s ∷ run) bound f =
    ap (λ (n : ℕ). greater n (most_on run bound)) (from_on_none s bound (f 0 s (omega arith)))
    ∙ ap (λ (n : ℕ). greater 0 n) (none_on run bound (λ k d l. f (suc k) d (omega (arith, l))))

most_last : (run : List Span) (bound n : ℕ) (d : Span) → IsRun run → n < length run → ((k : ℕ) (e : Span) → k ≤ n → (at run k e).from < bound)
    → ((k : ℕ) (e : Span) → n < k → k < length run → bound ≤ (at run k e).from) → most_on run bound ≡ from_on (at run n d) bound
most_last [] bound n d h l f g = absurd (omega (arith, l))
most_last (s ∷ run) bound zero d h l f g =
    ap (λ (n : ℕ). greater (from_on s bound) n) (none_on run bound (λ k e m. g (suc k) e (omega arith) (omega (arith, m)))) ∙ greater_none (from_on s bound)
most_last (s ∷ run) bound (suc n) d h l f g =
    let inside : n < length run = omega (arith, l) in
    let p = later_at s run n d h.0 inside in
    let x = from_on_until s bound in
    let y = p.gone in
    let z = from_on_some (at run n d) bound (f (suc n) d (omega arith)) p.stands in
    ap (λ (k : ℕ). greater (from_on s bound) k)
    (most_last run bound n d h.1 inside (λ k e m. f (suc k) e (omega (arith, m))) (λ k e m i. g (suc k) e (omega (arith, m)) (omega (arith, i))))
    ∙ greater_second (from_on s bound) (from_on (at run n d) bound) (omega (arith, x, y, z))

starts_late : (s : Span) (bound : ℕ) → has_started bound s ≡ false → bound ≤ s.from
starts_late s bound e = ltb-false s.from bound e

pub none_begun : (run : List Span) (bound n : ℕ) → n ≡ 0 → IsPartitionPoint (λ s. has_started bound s ≡ true) (λ s. has_started bound s ≡ false) run n
    → 0 ≡ most_on run bound
none_begun run bound n e point =
    sym (none_on run bound (λ k d l. starts_late (at run k d) bound (point.1 k d (omega (arith, e)) l)))

pub last_begun : (run : List Span) (bound n : ℕ) (span : Span) → IsRun run → n ≤ length run → (n ≡ 0 → ⊥)
    → IsPartitionPoint (λ s. has_started bound s ≡ true) (λ s. has_started bound s ≡ false) run n → span ≡ at run (n - 1) span
    → from_on span bound ≡ most_on run bound
last_begun run bound n span h l some point e =
    ap (λ (s : Span). from_on s bound) e
    ∙ sym (most_last run bound (n - 1) span h inside
    (λ k d m. ltb-true (at run k d).from bound (point.0 k d (omega arith) (below k m)))
    (λ k d m i. starts_late (at run k d) bound (point.1 k d (above k m) i)))
  where
    positive : (m : ℕ) → (m ≡ 0 → ⊥) → 0 < m
    positive zero f = absurd (f refl)
    positive (suc m) f = omega arith

    inside : n - 1 < length run
    inside = let p = positive n some in omega (arith, p, l)

    below : (k : ℕ) → k ≤ n - 1 → k < n
    below k m = let p = positive n some in omega (arith, p, m)

    above : (k : ℕ) → n - 1 < k → n ≤ k
    above k m = omega (arith, m)

pub all_begun : (run : List Span) (bound : ℕ) (span : Span) → IsRun run → Some span ≡ slice_get run (length run - 1) → span.from < bound → from_on span bound ≡ most_on run bound
all_begun run bound span h e l =
    let place = got run (length run - 1) e in
    ap (λ (s : Span). from_on s bound) place.1
    ∙ sym (most_last run bound (length run - 1) span h place.0
    (λ k d m.
    ltb-true (at run k d).from bound
    (started_first run bound h k (length run - 1) d m place.0
    (lt-ltb (at run (length run - 1) d).from bound
    (subst (λ (s : Span). s.from < bound) (place.1 ∙ get_or_default run (length run - 1) span d place.0) l))))
    (λ k d m i. absurd (omega (arith, m, i))))
  where
    got : (xs : List Span) (n : ℕ) → Some span ≡ slice_get xs n → (n < length xs) × (span ≡ at xs n span)
    got [] n f = absurd (cc)
    got (x ∷ xs) zero f = (omega arith, same f)
      where
        same : Some span ≡ Some x → span ≡ x
        same g = cc
    got (x ∷ xs) (suc n) f = let g = got xs n f in let m = g.0 in (omega (arith, m), g.1)

pub on_nothing : (run : List Span) (bound : ℕ) → bound ≡ 0 → 0 ≡ most_on run bound
on_nothing run bound e = sym (none_on run bound (λ k d l. omega (arith, e)))

-- ---- what a place of a list gives

pub got_is : (spans : List Span) (i : ℕ) (r : Option (Bor Span)) → MatchOption r (length spans ≤ i) (λ x. (i < length spans) × ((d : Span) → x.now ≡ at spans i d))
    → option_copied r ≡ slice_get spans i
got_is spans i None h = sym (slice_get_past spans i h)
got_is spans i (Some x) h = sym (some_at spans i x.now h.0 (h.1 x.now))
  where
    some_at : (xs : List Span) (n : ℕ) (y : Span) → n < length xs → y ≡ at xs n y → slice_get xs n ≡ Some y
    some_at [] n y l e = absurd (omega (arith, l))
    some_at (z ∷ xs) zero y l e = ap Some (sym e)
    some_at (z ∷ xs) (suc n) y l e = some_at xs n y (omega (arith, l)) e
