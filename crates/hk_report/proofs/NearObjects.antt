-- One hop before an object those alone have bounds in whose lists it stood. And those alone have bounds for which a level keeps some.
use Rattle.std.proofs.Common.{◌≡◌, ℕ, suc, ◌+◌, ◌<◌, ◌≤◌, List, [], ◌∷◌, length, Bool, true, false, Option, Some, None, refl, sym, ◌∙◌, ap, arith, cond, subst}
use Rattle.std.specs.Prelude.{◌==◌, ◌||◌, ◌⊎◌, drop, filter, is_some, not, slice_index_or}
use mathlib.Core.Logic.{inl, inr}
use Rattle.std.specs.List.{AllByRecursion, list_any}
use Rattle.std.specs.List.Sorted.{IsStrictlySortedBy}
use Rattle.std.specs.Option.{unwrap_or}
use Rattle.std.specs.Cmp.{ranked}
use Rattle.std.specs.Ordering.{nat_cmp, eq_by_cmp, MatchOrdering}
use Rattle.std.specs.declared.cmp.Ordering.{Ordering}
use Rattle.std.specs.declared.cmp.Ordering.TheVariants.{Less, Equal, Greater}
use Rattle.std.proofs.lemmas.Bool.{true≢false, eqb-true, eq-eqb, ne_eqb, cases_lt}
use Rattle.hk_model.specs.declared.names.Name.{Name}
use Rattle.hk_model.specs.State.{name_cmp}
use Rattle.hk_report.specs.declared.histories.Span.{Span}
use Rattle.hk_report.specs.declared.histories.History.{History}
use Rattle.hk_report.specs.declared.holders.Stretch.{Stretch}
use Rattle.hk_report.specs.declared.hops.Arrived.{Arrived}
use Rattle.hk_report.specs.declared.hops.Latest.{Latest}
use Rattle.hk_report.specs.declared.hops.Onward.{Onward}
use Rattle.hk_report.specs.Histories.{history_of}
use Rattle.hk_report.specs.Hops.{alone, ends_before, first_from, latest_end, next_latest, no_latest}
use Rattle.hk_report.specs.Runs.{AreByName, AreOrdered, AreRuns}
use Rattle.hk_report.specs.Holders.{AreHolders, held_at, held_in, is_other, stands_in}
use Rattle.hk_report.proofs.ByObjects.{AreAbove, is_among, objects_all, over_objects}
use Rattle.hk_report.proofs.HeldIn.{IsRising, held_up, joined_all, near_is}
use Rattle.hk_report.proofs.HolderLemmas.{drop_more, drop_done}
use Rattle.hk_report.proofs.Raising.{same_equal}

-- ---- the objects in whose lists runs stand, each once, where the last of those before them is this

abbrev pub objects_of : Option Name → List Stretch → List Name
objects_of last [] = []
objects_of last (held ∷ more) = cond (is_other last held.by) (held.by ∷ objects_of (Some held.by) more) (objects_of last more)

above_last : (last : Name) (helds : List Stretch) → IsRising helds → AllByRecursion (λ (t : Stretch). last.0 ≤ t.by.0) helds → AreAbove (suc last.0) (objects_of (Some last) helds)
above_last last [] up h = tt
above_last last (held ∷ more) up h = split (above_last held.by more up.1 up.0) (above_last last more up.1 h.1) (cases_lt last.0 held.by.0)
  where
    at : (b : Bool) → is_other (Some last) held.by ≡ b → AreAbove (suc last.0) (cond b (held.by ∷ objects_of (Some held.by) more) (objects_of (Some last) more))
        → AreAbove (suc last.0) (cond (is_other (Some last) held.by) (held.by ∷ objects_of (Some held.by) more) (objects_of (Some last) more))
    at b e is = subst (λ (o : Bool). AreAbove (suc last.0) (cond o (held.by ∷ objects_of (Some held.by) more) (objects_of (Some last) more))) (sym e) is

    split : AreAbove (suc held.by.0) (objects_of (Some held.by) more) → AreAbove (suc last.0) (objects_of (Some last) more) → (last.0 < held.by.0) ⊎ (held.by.0 ≤ last.0)
        → AreAbove (suc last.0) (cond (is_other (Some last) held.by) (held.by ∷ objects_of (Some held.by) more) (objects_of (Some last) more))
    split above below (inl less) =
        let next : suc last.0 ≤ held.by.0 = omega (arith, less) in
        at true (ap not (ne_eqb last.0 held.by.0 (λ e. omega (arith, e, less)))) (next, above)
    split above below (inr same) =
        let low = h.0 in
        at false (ap not (eq-eqb last.0 held.by.0 (omega (arith, low, same)))) below

above_none : (helds : List Stretch) → IsRising helds → AreAbove 0 (objects_of None helds)
above_none [] up = tt
above_none (held ∷ more) up =
    let low : 0 ≤ held.by.0 = omega arith in
    (low, above_last held.by more up.1 up.0)

-- an object that is not among them has none of the runs
abbrev IsApart : Name → Option Name → Type 0
IsApart y None = Unit {0}
IsApart y (Some last) = (y.0 == last.0) ≡ false

none_in : (y : Name) (last : Option Name) (helds : List Stretch) → IsApart y last → is_among y (objects_of last helds) ≡ false → filter (stands_in y) helds ≡ []
none_in y last [] apart h = refl
none_in y last (held ∷ more) apart h = by (λ o a g. none_in y o more a g) last apart (is_other last held.by) refl h
  where
    More : Type 0
    More = (o : Option Name) → IsApart y o → is_among y (objects_of o more) ≡ false → filter (stands_in y) more ≡ []

    off : More → (o : Option Name) → IsApart y o → is_among y (objects_of o more) ≡ false → (y.0 == held.by.0) ≡ false
        → cond (held.by.0 == y.0) (held ∷ filter (stands_in y) more) (filter (stands_in y) more) ≡ []
    off rest o a g e =
        ap (λ (b : Bool). cond b (held ∷ filter (stands_in y) more) (filter (stands_in y) more))
        (ne_eqb held.by.0 y.0 (λ f. true≢false (sym (eq-eqb y.0 held.by.0 (sym f)) ∙ e)))
        ∙ rest o a g

    first_no : (a b : Bool) → (a || b) ≡ false → a ≡ false
    first_no true b e = absurd (true≢false e)
    first_no false b e = refl

    second_no : (a b : Bool) → (a || b) ≡ false → b ≡ false
    second_no true b e = absurd (true≢false e)
    second_no false b e = e

    by : More → (o : Option Name) → IsApart y o → (b : Bool) → is_other o held.by ≡ b
        → is_among y (cond b (held.by ∷ objects_of (Some held.by) more) (objects_of o more)) ≡ false
        → cond (held.by.0 == y.0) (held ∷ filter (stands_in y) more) (filter (stands_in y) more) ≡ []
    by rest o a true e g =
        let here = first_no (y.0 == held.by.0) (is_among y (objects_of (Some held.by) more)) g in
        off rest (Some held.by) here (second_no (y.0 == held.by.0) (is_among y (objects_of (Some held.by) more)) g) here
    by rest None a false e g = absurd (true≢false e)
    by rest (Some l) a false e g = off rest (Some l) a g (ap (λ (n : ℕ). y.0 == n) (sym (same (l.0 == held.by.0) refl e)) ∙ a)
      where
        same : (b : Bool) → (l.0 == held.by.0) ≡ b → not b ≡ false → l.0 ≡ held.by.0
        same true f q = eqb-true l.0 held.by.0 f
        same false f q = absurd (true≢false q)

module _ (made : Name → Bool) (from : Arrived) (spans : List Span) where
  module _ (level : Name → Latest) where
    abbrev next : List Stretch → ℕ → Stretch → Option Name → Bool → List Name
    next helds k held last b = cond b (held.by ∷ objects_of (Some held.by) (drop (k + 1) helds)) (objects_of last (drop (k + 1) helds))

    stepped : (helds : List Stretch) (k : ℕ) (held : Stretch) (last : Option Name) (first whole : Option Onward) (b : Bool) → k < length helds
        → held ≡ slice_index_or helds k held → over_objects made level from spans first (objects_of last (drop k helds)) ≡ whole → is_other last held.by ≡ b
        → over_objects made level from spans first (next helds k held last b) ≡ whole
    stepped helds k held last first whole b l is h other =
        sym (ap (λ (o : Bool). over_objects made level from spans first (next helds k held last o)) other)
        ∙ ap (λ (xs : List Stretch). over_objects made level from spans first (objects_of last xs)) (sym (drop_more helds k held l is)) ∙ h

    pub one_more : (helds : List Stretch) (k : ℕ) (held : Stretch) (last now : Option Name) (first after whole : Option Onward) → k < length helds
        → held ≡ slice_index_or helds k held → over_objects made level from spans first (objects_of last (drop k helds)) ≡ whole → is_other last held.by ≡ true
        → now ≡ Some held.by → after ≡ first_from made (alone held.by (level held.by)) from first spans
        → over_objects made level from spans after (objects_of now (drop (k + 1) helds)) ≡ whole
    one_more helds k held last now first after whole l is h other at step =
        ap (λ (o : Option Onward). over_objects made level from spans o (objects_of now (drop (k + 1) helds))) step
        ∙ ap (λ (o : Option Name). over_objects made level from spans (first_from made (alone held.by (level held.by)) from first spans) (objects_of o (drop (k + 1) helds))) at
        ∙ stepped helds k held last first whole true l is h other

    pub same_one : (helds : List Stretch) (k : ℕ) (held : Stretch) (last now : Option Name) (first after whole : Option Onward) → k < length helds
        → held ≡ slice_index_or helds k held → over_objects made level from spans first (objects_of last (drop k helds)) ≡ whole → is_other last held.by ≡ false
        → now ≡ last → after ≡ first → over_objects made level from spans after (objects_of now (drop (k + 1) helds)) ≡ whole
    same_one helds k held last now first after whole l is h other at step =
        ap (λ (o : Option Onward). over_objects made level from spans o (objects_of now (drop (k + 1) helds))) step
        ∙ ap (λ (o : Option Name). over_objects made level from spans first (objects_of o (drop (k + 1) helds))) at
        ∙ stepped helds k held last first whole false l is h other

  -- ---- the objects that a level keeps bounds for

  above_sorted : (low : ℕ) (xs : List Name) → IsStrictlySortedBy name_cmp xs → AllByRecursion (λ (y : Name). low ≤ y.0) xs → AreAbove low xs
  unfolding IsStrictlySortedBy
  above_sorted low [] up h = tt
  above_sorted low (x ∷ xs) up h = (h.0, above_sorted (suc x.0) xs up.1 (below xs up.0))
    where
      less : (y : Name) (o : Ordering) → MatchOrdering o (x.0 < y.0) (x.0 ≡ y.0) (y.0 < x.0) → o ≡ Less → suc x.0 ≤ y.0
      less y Less l e = omega (arith, l)
      less y Equal l e = absurd (cc)
      less y Greater l e = absurd (cc)

      below : (ys : List Name) → AllByRecursion (λ (y : Name). name_cmp x y ≡ Less) ys → AllByRecursion (λ (y : Name). suc x.0 ≤ y.0) ys
      below [] g = tt
      below (y ∷ ys) g = (less y (nat_cmp x.0 y.0) (ranked x.0 y.0 (nat_cmp x.0 y.0) refl) g.0, below ys g.1)

  low_all : (xs : List Name) → AllByRecursion (λ (y : Name). 0 ≤ y.0) xs
  low_all [] = tt
  low_all (x ∷ xs) =
      let low : 0 ≤ x.0 = omega arith in
      (low, low_all xs)

  among_is : (y : Name) (xs : List Name) → list_any (eq_by_cmp name_cmp y) xs ≡ is_among y xs
  among_is y [] = refl
  among_is y (x ∷ xs) =
      ap (λ (b : Bool). b || list_any (eq_by_cmp name_cmp y) xs) (same_equal y.0 x.0) ∙ ap (λ (b : Bool). y.0 == x.0 || b) (among_is y xs)

  pub behind_all : (kept : Name → Option Latest) (xs : List Name) → AreByName spans → IsStrictlySortedBy name_cmp xs
      → ((y : Name) → is_some (kept y) ≡ list_any (eq_by_cmp name_cmp y) xs)
      → over_objects made (λ y. unwrap_or (kept y) no_latest) from spans None xs ≡ first_from made (λ y. unwrap_or (kept y) no_latest) from None spans
  behind_all kept xs up sorted has = objects_all made (λ y. unwrap_or (kept y) no_latest) from spans up xs (above_sorted 0 xs sorted (low_all xs)) none
    where
      nothing : (o : Option Latest) → is_some o ≡ false → unwrap_or o no_latest ≡ no_latest
      nothing None e = refl
      nothing (Some l) e = absurd (true≢false e)

      none : (y : Name) → is_among y xs ≡ false → unwrap_or (kept y) no_latest ≡ no_latest
      none y e = nothing (kept y) (has y ∙ among_is y xs ∙ e)

-- ---- those one hop before an object

near_all : (made : Name → Bool) (from : Arrived) (histories : List History) (runs : List (List ℕ)) (all : List (List Stretch)) (name by : Name) (before : ℕ) → AreRuns histories runs
    → AreHolders histories runs all → AreOrdered histories → (helds : List Stretch) → helds ≡ held_at all name
    → over_objects made (next_latest made histories (latest_end name before)) from (history_of histories by).spans None (objects_of None helds)
    ≡ first_from made (next_latest made histories (latest_end name before)) from None (history_of histories by).spans
near_all made from histories runs all name by before cut are ordered helds same =
    objects_all made (next_latest made histories (latest_end name before)) from (history_of histories by).spans (ordered by) (objects_of None helds)
    (above_none helds (held_up histories runs all are name helds same)) none
  where
    none : (y : Name) → is_among y (objects_of None helds) ≡ false → next_latest made histories (latest_end name before) y ≡ no_latest
    none y e =
        let nothing : held_in all name y ≡ [] = ap (filter (stands_in y)) (sym same) ∙ none_in y None helds tt e in
        sym (near_is made histories runs all name y before cut are) ∙ ap (joined_all histories (ends_before before) (made name) no_latest) nothing

pub near_done : (made : Name → Bool) (from : Arrived) (histories : List History) (runs : List (List ℕ)) (all : List (List Stretch)) (name by : Name) (before : ℕ) → AreRuns histories runs
    → AreHolders histories runs all → AreOrdered histories → (helds : List Stretch) (k : ℕ) (first : Option Onward) (last : Option Name) → helds ≡ held_at all name → length helds ≤ k
    → over_objects made (next_latest made histories (latest_end name before)) from (history_of histories by).spans first (objects_of last (drop k helds))
    ≡ over_objects made (next_latest made histories (latest_end name before)) from (history_of histories by).spans None (objects_of None helds)
    → first ≡ first_from made (next_latest made histories (latest_end name before)) from None (history_of histories by).spans
near_done made from histories runs all name by before cut are ordered helds k first last same done h =
    sym (ap (λ (xs : List Stretch). over_objects made (next_latest made histories (latest_end name before)) from (history_of histories by).spans first (objects_of last xs)) (drop_done helds k done))
    ∙ h ∙ near_all made from histories runs all name by before cut are ordered helds same
