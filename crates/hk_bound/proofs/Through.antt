-- The rights through which a process takes what another stores, object by object.
use Rattle.std.proofs.Common.{◌≡◌, ℕ, zero, suc, ◌+◌, ◌<◌, ◌≤◌, List, [], ◌∷◌, length, get_or, Bool, true, false, Option, Some, None, refl, sym, ◌∙◌, ap, subst, arith, bit_or}
use Rattle.std.specs.Prelude.{IfSome, ◌⊎◌, slice_get}
use mathlib.Core.Logic.{inl, inr}
use Rattle.std.proofs.lemmas.Bool.{false≢true}
use Rattle.std.proofs.lemmas.Option.{slice_get_within}
use Rattle.hk_rights.specs.Rights.{has, all_rights, HasAll, unconf_right, env_right}
use Rattle.hk_model.specs.declared.names.Name.{Name}
use Rattle.hk_rights.proofs.Sets.{has-bit_or, or_right, left_of, right_of}
use Rattle.hk_model.specs.WorldValue.{WorldValue}
use Rattle.hk_bound.specs.declared.forms.Form.{Form}
use Rattle.hk_bound.specs.declared.gaps.Taking.{Taking}
use Rattle.hk_bound.specs.Taking.{type_of}
use Rattle.hk_bound.specs.Columns.{name_at, object_count, cell, RowsFollow}
use Rattle.hk_bound.specs.Rules.{Passes, stores_in, taking_of, through_in, joined_cells, passes_all, Reaches, AreStored, HasTakings, PassedRule, StoredRule, share_made}
use Rattle.hk_bound.proofs.Passing.{passes_or}
use Rattle.hk_bound.proofs.Sources.{taking_passes, same_some}

-- the item at a place of a list of numbers
pub read : (names : List ℕ) (n : ℕ) → n < length names → slice_get names n ≡ Some (get_or names n 0)
read [] n h = absurd (omega (arith, h))
read (name ∷ names) zero h = refl
read (name ∷ names) (suc n) h = read names n (omega (arith, h))

more_left : (a b : ℕ) → HasAll (bit_or a b) a
more_left a b n h = rw (has-bit_or a b n, h) refl

more_right : (a b : ℕ) → HasAll (bit_or a b) b
more_right a b n h = rw (has-bit_or a b n, h) (or_right (has a n) true refl)

module _ (w : WorldValue) (forms : List Form) (rows : List (List (Option ℕ))) (p q : ℕ) where
  pub passes_joined : (o m : Option ℕ) → IfSome o (Passes w forms p q) → IfSome m (Passes w forms p q) → IfSome (joined_cells o m) (Passes w forms p q)
  passes_joined o None f g = f
  passes_joined None (Some b) f g = g
  passes_joined (Some a) (Some b) f g = passes_or w forms p q a b f g

  pub through_passes : RowsFollow w forms rows → p < length w.tasks → (name : ℕ) → name < object_count w
      → IfSome (through_in (type_of w (name_at name)) (cell rows p name) (cell rows q name)) (Passes w forms p q)
  through_passes follow runs name low = by (stores_in (type_of w (name_at name)) (cell rows q name)) (taking_of (type_of w (name_at name)) (cell rows p name)) refl refl
    where
      by : (s : Bool) (t : Option Taking) → stores_in (type_of w (name_at name)) (cell rows q name) ≡ s → taking_of (type_of w (name_at name)) (cell rows p name) ≡ t
          → IfSome (through_in (type_of w (name_at name)) (cell rows p name) (cell rows q name)) (Passes w forms p q)
      by false t e f = rw e tt
      by true None e f = rw (e, f) tt
      by true (Some t) e f = rw (e, f) (taking_passes w forms rows follow p q name t runs low e f)

  -- the first of these names
  abbrev pub First : List ℕ → ℕ → ℕ → Type 0
  First names n name = (k : ℕ) × (k < n) × (slice_get names k ≡ Some name)

  pub takings_none : (names : List ℕ) → HasTakings w rows p q (First names 0) None
  takings_none names name more is e = absurd (let low = is.1 in omega (arith, low))

  pub takings_more : (names : List ℕ) (n name : ℕ) (by : Option ℕ) → slice_get names n ≡ Some name → HasTakings w rows p q (First names n) by
      → HasTakings w rows p q (First names (n + 1)) (joined_cells by (through_in (type_of w (name_at name)) (cell rows p name) (cell rows q name)))
  takings_more names n name by at h other more is e = cases (or_last is.0 n is.1)
    where
      or_last : (k n : ℕ) → k < n + 1 → (k < n) ⊎ (k ≡ n)
      or_last k n h = grind arith

      grow : (o m : Option ℕ) → (all : ℕ) × (o ≡ Some all) × Reaches all more → (all : ℕ) × (joined_cells o m ≡ Some all) × Reaches all more
      grow o None g = g
      grow None (Some b) g = absurd (let clash = g.1 in cc)
      grow (Some a) (Some b) g =
          let same : a ≡ g.0 = same_some g.1 in
          let r : Reaches a more = subst (λ (x : ℕ). Reaches x more) (sym same) g.2 in
          (bit_or a b, refl, (λ there. more_left a b unconf_right (r.0 there), λ there. more_left a b env_right (r.1 there)))

      newest : (o : Option ℕ) → (all : ℕ) × (joined_cells o (Some more) ≡ Some all) × Reaches all more
      newest None = (more, refl, (λ there. there, λ there. there))
      newest (Some a) = (bit_or a more, refl, (more_right a more unconf_right, more_right a more env_right))

      cases : (is.0 < n) ⊎ (is.0 ≡ n)
          → (all : ℕ) × (joined_cells by (through_in (type_of w (name_at name)) (cell rows p name) (cell rows q name)) ≡ Some all) × Reaches all more
      cases (inl less) = grow by (through_in (type_of w (name_at name)) (cell rows p name) (cell rows q name)) (h other more (is.0, less, is.2) e)
      cases (inr same) =
          let last : other ≡ name = same_some (sym is.2 ∙ (ap (slice_get names) same ∙ at)) in
          let here : through_in (type_of w (name_at name)) (cell rows p name) (cell rows q name) ≡ Some more = subst
          (λ (k : ℕ). through_in (type_of w (name_at k)) (cell rows p k) (cell rows q k) ≡ Some more) last e in
          rw here (newest by)

  stores_there : (of : Name) (mine theirs : Option ℕ) (more : ℕ) → through_in of mine theirs ≡ Some more → stores_in of theirs ≡ true
  stores_there of mine theirs more e = by (stores_in of theirs) refl
    where
      by : (s : Bool) → stores_in of theirs ≡ s → stores_in of theirs ≡ true
      by true f = f
      by false f = absurd (let none : through_in of mine theirs ≡ None = rw f refl in let clash : None ≡ Some more = sym none ∙ e in cc)

  pub takings_all : (names : List ℕ) (n : ℕ) (by : Option ℕ) → AreStored w rows q names → length names ≤ n → HasTakings w rows p q (First names n) by
      → HasTakings w rows p q (λ name. name < object_count w) by
  takings_all names n by are end h name more low e =
      let a = are.all name low (stores_there (type_of w (name_at name)) (cell rows p name) (cell rows q name) more e) in
      let within = slice_get_within names a.place name a.is in
      h name more (a.place, omega (arith, end, within), a.is) e

  pub takings_early : (Is : ℕ → Type 0) (by : Option ℕ) → passes_all by ≡ true → HasTakings w rows p q Is by
  takings_early Is None e name more is f = absurd (false≢true e)
  takings_early Is (Some by) e name more is f =
      (by, refl, (λ there. left_of (has by unconf_right) (has by env_right) e, λ there. right_of (has by unconf_right) (has by env_right) e))

  pub stored_rule : (o : Option ℕ) (by : ℕ) → o ≡ Some by → (share_made w rows p q ≡ true → o ≡ Some all_rights)
      → (share_made w rows p q ≡ false → HasTakings w rows p q (λ name. name < object_count w) o) → PassedRule w forms rows p q by → StoredRule w forms rows p q
  stored_rule o by e made all h = record {
    made = λ share. subst (λ (x : ℕ). PassedRule w forms rows p q x) (same_some (sym e ∙ made share)) h;
    stored = λ apart name more low through.
        let t = all apart name more low through in
        let same : t.0 ≡ by = same_some (sym t.1 ∙ e) in
        (by, subst (λ (x : ℕ). Reaches x more) same t.2, h);
  }
