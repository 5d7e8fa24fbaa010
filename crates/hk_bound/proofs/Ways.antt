-- Gaps that are found of a cell that has grown, and the ways by which processes take.
use Rattle.std.proofs.Common.{◌≡◌, ℕ, zero, suc, ◌+◌, ◌<◌, ◌≤◌, List, [], ◌∷◌, ◌++◌, length, true, false, Option, Some, None, refl, sym, ◌∙◌, ap, subst, arith, bit_or}
use Rattle.std.specs.Prelude.{◌⊎◌, slice_get, slice_index_or}
use Rattle.std.proofs.lemmas.Bool.{true≢false}
use mathlib.Core.Logic.{inl, inr}
use Rattle.hk_model.specs.WorldValue.{WorldValue}
use Rattle.hk_bound.specs.declared.forms.Form.{Form}
use Rattle.hk_bound.specs.declared.gaps.Gap.{Gap}
use Rattle.hk_bound.specs.Each.{Each, Among}
use Rattle.hk_bound.specs.Taking.{type_of}
use Rattle.hk_bound.specs.Columns.{name_at, object_count, cell, joined, joined_rows, Finds, empty_rows}
use Rattle.hk_bound.specs.Rules.{Passes, stores_in, AreStored}
use Rattle.hk_bound.specs.Filled.{AreWays, Gains, AddsStored, Stored, NotStored}
use Rattle.hk_bound.proofs.Growth.{joined_at, joined_count, nothing, empty_count}
use Rattle.hk_bound.proofs.Passing.{passes_or}
use Rattle.hk_bound.proofs.Filling.{last_or}
use Rattle.hk_bound.proofs.Exact.{push_keeps, push_last}

module _ (w : WorldValue) (forms : List Form) where
  module _ (rows : List (List (Option ℕ))) where
    pub gains_none : (xs : List Gap) → Gains w forms rows xs xs
    gains_none xs h = h

    pub gains_then : (xs ys zs : List Gap) → Gains w forms rows xs ys → Gains w forms rows ys zs → Gains w forms rows xs zs
    gains_then xs ys zs f g h = g (f h)

    pub gains_of : (Rule : Type 0) (xs ys : List Gap) → Finds w forms rows Rule xs ys → Gains w forms rows xs ys
    gains_of Rule xs ys f = f.gaps

  -- ---- ways

  pub ways_joined : (ways new : List (List (Option ℕ))) (p q by : ℕ) → AreWays w forms ways → Passes w forms p q by → new ≡ joined_rows ways p q by → AreWays w forms new
  ways_joined ways new p q by are passes e = subst (AreWays w forms) (sym e) (record {
    count = joined_count ways p q by ∙ are.count;
    passes = λ i j r at. case i j r at (joined_at ways p q by i j);
  })
    where
      here : (o : Option ℕ) (r : ℕ) → cell ways p q ≡ o → joined o by ≡ Some r → Passes w forms p q r
      here None r f g = let same : by ≡ r = cc in subst (Passes w forms p q) same passes
      here (Some a) r f g = let same : bit_or a by ≡ r = cc in subst (Passes w forms p q) same (passes_or w forms p q a by (are.passes p q a f) passes)

      case : (i j r : ℕ) → cell (joined_rows ways p q by) i j ≡ Some r
          → ((p ≡ i) × (q ≡ j) × (cell (joined_rows ways p q by) i j ≡ joined (cell ways p q) by)) ⊎ (cell (joined_rows ways p q by) i j ≡ cell ways i j)
          → Passes w forms i j r
      case i j r at (inl g) =
          subst (λ (n : ℕ). Passes w forms n j r) g.0 (subst (λ (n : ℕ). Passes w forms p n r) g.1 (here (cell ways p q) r refl (sym g.2 ∙ at)))
      case i j r at (inr g) = are.passes i j r (sym g ∙ at)

  -- only a process has a way
  pub way_runs : (ways : List (List (Option ℕ))) (p q by : ℕ) → AreWays w forms ways → cell ways p q ≡ Some by → p < length w.tasks
  way_runs ways p q by are at = let low = within ways p at in let count = are.count in omega (arith, low, count)
    where
      none_there : (q : ℕ) → slice_index_or [] q None ≡ Some by → ⊥
      none_there zero e = absurd (cc)
      none_there (suc q) e = absurd (cc)

      within : (rows : List (List (Option ℕ))) (p : ℕ) → cell rows p q ≡ Some by → p < length rows
      within [] zero e = absurd (none_there q e)
      within [] (suc p) e = absurd (none_there q e)
      within (row ∷ rows) zero e = omega arith
      within (row ∷ rows) (suc p) e = let low = within rows p e in omega (arith, low)

  pub ways_none : (count width : ℕ) → count ≡ length w.tasks → AreWays w forms (empty_rows count width)
  ways_none count width e = record {
    count = empty_count count width ∙ e;
    passes = λ p q by at. absurd (let none = nothing count width p q in let clash : None ≡ Some by = sym none ∙ at in cc);
  }

-- ---- the objects into which a process stores, found one after another

module _ (w : WorldValue) (rows : List (List (Option ℕ))) (q : ℕ) where
  pub record Storing (n : ℕ) (names : List ℕ) : Type 0 where
    pub low : Each (λ name. name < object_count w) names
    pub all : (name : ℕ) → name < n → stores_in (type_of w (name_at name)) (cell rows q name) ≡ true → Among names name

  or_last : (k n : ℕ) → k < n + 1 → (k < n) ⊎ (k ≡ n)
  or_last k n h = grind arith

  pub storing_none : (names : List ℕ) → names ≡ [] → Storing 0 names
  storing_none names e =
      subst (Storing 0) (sym e) (record { low = λ k x at. absurd (nowhere k x at); all = λ name low is. absurd (omega (arith, low)) })
    where
      nowhere : (k x : ℕ) → slice_get [] k ≡ Some x → ⊥
      nowhere zero x at = absurd (cc)
      nowhere (suc k) x at = absurd (cc)

  storing_skip : (n : ℕ) (names : List ℕ) → stores_in (type_of w (name_at n)) (cell rows q n) ≡ false → Storing n names → Storing (n + 1) names
  storing_skip n names none h = record { low = h.low; all = λ name low is. by name is (or_last name n low) }
    where
      by : (name : ℕ) → stores_in (type_of w (name_at name)) (cell rows q name) ≡ true → (name < n) ⊎ (name ≡ n) → Among names name
      by name is (inl less) = h.all name less is
      by name is (inr same) = absurd (true≢false (sym is ∙ (ap (λ (k : ℕ). stores_in (type_of w (name_at k)) (cell rows q k)) same ∙ none)))

  storing_push : (n : ℕ) (names : List ℕ) → n < object_count w → Storing n names → Storing (n + 1) (names ++ n ∷ [])
  storing_push n names within h = record {
    low = λ k x at. elim (last_or names n x k at) [ inl earlier ↦ h.low k x earlier | inr same ↦ subst (λ (m : ℕ). m < object_count w) same within ];
    all = λ name low is. by name is (or_last name n low);
  }
    where
      by : (name : ℕ) → stores_in (type_of w (name_at name)) (cell rows q name) ≡ true → (name < n) ⊎ (name ≡ n) → Among (names ++ n ∷ []) name
      by name is (inl less) = let a = h.all name less is in record { place = a.place; is = push_keeps names n name a.place a.is }
      by name is (inr same) = record { place = length names; is = push_last names n ∙ ap Some (sym same) }

  pub storing_more : (n : ℕ) (names after : List ℕ) → n < object_count w → Storing n names → AddsStored w rows q n names after → Storing (n + 1) after
  storing_more n names after within h (Stored is e) = subst (Storing (n + 1)) (sym e) (storing_push n names within h)
  storing_more n names after within h (NotStored isnt e) = subst (Storing (n + 1)) (sym e) (storing_skip n names isnt h)

  pub storing_all : (n : ℕ) (names : List ℕ) → object_count w ≤ n → Storing n names → AreStored w rows q names
  storing_all n names end h = record { low = h.low; all = λ name low is. h.all name (omega (arith, end, low)) is }
