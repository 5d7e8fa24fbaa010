-- Gaps that are found one after another.
use Rattle.std.proofs.Common.{◌≡◌, ℕ, zero, suc, ◌+◌, ◌<◌, ◌≤◌, List, [], ◌∷◌, ◌++◌, length, Option, Some, sym, subst, arith, length-append}
use Rattle.std.specs.Prelude.{slice_get, ◌⊎◌}
use mathlib.Core.Logic.{inl, inr}
use Rattle.hk_model.specs.WorldValue.{WorldValue}
use Rattle.hk_bound.specs.declared.forms.Form.{Form}
use Rattle.hk_bound.specs.declared.gaps.Gap.{Gap}
use Rattle.hk_bound.specs.Each.{Each, EachBelow}
use Rattle.hk_bound.specs.Columns.{IsGap, Finds}
use Rattle.hk_bound.proofs.EachLemmas.{each_more, each_none, each_all}

pub push_cases : {A : Type 0} (xs : List A) (y x : A) (k : ℕ) → slice_get (xs ++ y ∷ []) k ≡ Some x → (slice_get xs k ≡ Some x) ⊎ (y ≡ x)
push_cases [] y x zero e = inr (let same : y ≡ x = cc in same)
push_cases [] y x (suc zero) e = absurd (cc)
push_cases [] y x (suc (suc k)) e = absurd (cc)
push_cases (z ∷ xs) y x zero e = inl e
push_cases (z ∷ xs) y x (suc k) e = push_cases xs y x k e

module _ (w : WorldValue) (forms : List Form) (rows : List (List (Option ℕ))) where
  pub finds_none : (P : Type 0) (xs : List Gap) → P → Finds w forms rows P xs xs
  finds_none P xs p = record { more = omega arith; gaps = λ h. h; none = λ e. p }

  pub finds_push : (P : Type 0) (xs : List Gap) (gap : Gap) → IsGap w forms rows gap → Finds w forms rows P xs (xs ++ gap ∷ [])
  finds_push P xs gap is = record {
    more = omega (arith, length-append xs (gap ∷ []));
    gaps = λ h k x e. elim (push_cases xs gap x k e) [ inl before ↦ h k x before | inr same ↦ subst (IsGap w forms rows) same is ];
    none = λ e. absurd (omega (arith, length-append xs (gap ∷ []), e));
  }

  pub finds_then : (P Q : Type 0) (xs ys zs : List Gap) → Finds w forms rows P xs ys → Finds w forms rows Q ys zs → Finds w forms rows (P × Q) xs zs
  finds_then P Q xs ys zs f g = let a = f.more in let b = g.more in record {
    more = omega (arith, a, b);
    gaps = λ h. g.gaps (f.gaps h);
    none = λ e. (f.none (omega (arith, a, b, e)), g.none (omega (arith, a, b, e)));
  }

  pub finds_more : (P Q : Type 0) (xs ys : List Gap) → (P → Q) → Finds w forms rows P xs ys → Finds w forms rows Q xs ys
  finds_more P Q xs ys f h = record { more = h.more; gaps = h.gaps; none = λ e. f (h.none e) }

  -- one item of a list more
  pub finds_item : {A : Type 0} (P : A → Type 0) (items : List A) (n : ℕ) (x : A) (xs ys zs : List Gap) → slice_get items n ≡ Some x
      → Finds w forms rows (EachBelow n P items) xs ys → Finds w forms rows (P x) ys zs → Finds w forms rows (EachBelow (n + 1) P items) xs zs
  finds_item {A} P items n x xs ys zs at f g =
      finds_more (EachBelow n P items × P x) (EachBelow (n + 1) P items) xs zs (λ h. each_more P items n x h.0 at h.1) (finds_then (EachBelow n P items) (P x) xs ys zs f g)

  pub finds_start : {A : Type 0} (P : A → Type 0) (items : List A) (xs : List Gap) → Finds w forms rows (EachBelow 0 P items) xs xs
  finds_start P items xs = finds_none (EachBelow 0 P items) xs (each_none P items)

  pub finds_end : {A : Type 0} (P : A → Type 0) (items : List A) (n : ℕ) (xs ys : List Gap) → length items ≤ n → Finds w forms rows (EachBelow n P items) xs ys
      → Finds w forms rows (Each P items) xs ys
  finds_end P items n xs ys end f = finds_more (EachBelow n P items) (Each P items) xs ys (λ h. each_all P items n h end) f

  -- one number more
  abbrev pub Below : ℕ → (ℕ → Type 0) → Type 0
  Below n P = (k : ℕ) → k < n → P k

  below_more : (P : ℕ → Type 0) (n : ℕ) → Below n P → P n → Below (n + 1) P
  below_more P n below here k h = by (or_last k n h)
    where
      or_last : (k n : ℕ) → k < n + 1 → (k < n) ⊎ (k ≡ n)
      or_last k n h = grind arith

      by : (k < n) ⊎ (k ≡ n) → P k
      by (inl less) = below k less
      by (inr same) = subst P (sym same) here

  pub finds_number : (P : ℕ → Type 0) (n : ℕ) (xs ys zs : List Gap) → Finds w forms rows (Below n P) xs ys → Finds w forms rows (P n) ys zs
      → Finds w forms rows (Below (n + 1) P) xs zs
  finds_number P n xs ys zs f g = finds_more (Below n P × P n) (Below (n + 1) P) xs zs (λ h. below_more P n h.0 h.1) (finds_then (Below n P) (P n) xs ys zs f g)

  pub finds_from : (P : ℕ → Type 0) (xs : List Gap) → Finds w forms rows (Below 0 P) xs xs
  finds_from P xs = finds_none (Below 0 P) xs (λ k h. absurd (omega (arith, h)))

  pub finds_four : (P Q R S : Type 0) (a b c d e : List Gap) → Finds w forms rows P a b → Finds w forms rows Q b c → Finds w forms rows R c d → Finds w forms rows S d e
      → Finds w forms rows ((P × Q) × (R × S)) a e
  finds_four P Q R S a b c d e f g h i = finds_then (P × Q) (R × S) a c e (finds_then P Q a b c f g) (finds_then R S c d e h i)
