-- Places of a list: what one reads there after an element was replaced or put behind.
use Rattle.std.proofs.Common.{◌≡◌, ◌≢◌, ℕ, zero, suc, ◌+◌, ◌<◌, ◌≤◌, List, [], ◌∷◌, ◌++◌, length, set, sym, refl, ap, ◌∙◌, subst, ⊎_elim, ◌⊎◌, inl, inr, arith}
use mathlib.Core.Option.{some, some-ne-none, some-injective}
use lib.ListN.{get_elem?}
use Rattle.atomic_table.proofs.Lists.{at_set}
use Rattle.hk_turn.specs.Rule.{total}

module _ {V : Type 0} where
  -- the sum after one element was replaced
  pub total_set : (f : V → ℕ) (vs : List V) (i : ℕ) (v w : V) → get_elem? vs i ≡ some v → total f (set vs i w) + f v ≡ total f vs + f w
  total_set f [] i v w e = absurd (some-ne-none v (sym e))
  total_set f (x ∷ vs) zero v w e = let h : f x ≡ f v = ap f (some-injective x v e) in omega arith
  total_set f (x ∷ vs) (suc i) v w e = let h = total_set f vs i v w e in omega arith

  -- the sum with one element more
  pub total_snoc : (f : V → ℕ) (vs : List V) (v : V) → total f (vs ++ v ∷ []) ≡ total f vs + f v
  total_snoc f [] v = omega arith
  total_snoc f (x ∷ vs) v = let h = total_snoc f vs v in omega arith

  -- one element is at most the sum
  pub total_one : (f : V → ℕ) (vs : List V) (i : ℕ) (v : V) → get_elem? vs i ≡ some v → f v ≤ total f vs
  total_one f [] i v e = absurd (some-ne-none v (sym e))
  total_one f (x ∷ vs) zero v e = let h : f x ≡ f v = ap f (some-injective x v e) in omega arith
  total_one f (x ∷ vs) (suc i) v e = let h = total_one f vs i v e in omega arith

  -- so are two at different places
  pub total_two : (f : V → ℕ) (vs : List V) (i j : ℕ) (v w : V) → i ≢ j → get_elem? vs i ≡ some v → get_elem? vs j ≡ some w → f v + f w ≤ total f vs
  total_two f [] i j v w ne e e' = absurd (some-ne-none v (sym e))
  total_two f (x ∷ vs) zero zero v w ne e e' = absurd (ne refl)
  total_two f (x ∷ vs) zero (suc j) v w ne e e' = let h : f x ≡ f v = ap f (some-injective x v e) in let t = total_one f vs j w e' in omega arith
  total_two f (x ∷ vs) (suc i) zero v w ne e e' = let h : f x ≡ f w = ap f (some-injective x w e') in let t = total_one f vs i v e in omega arith
  total_two f (x ∷ vs) (suc i) (suc j) v w ne e e' = let t = total_two f vs i j v w (λ h. ne (ap suc h)) e e' in omega arith

  -- what is read at one place is one value
  pub one_there : (vs : List V) (i j : ℕ) (v w : V) → i ≡ j → get_elem? vs i ≡ some v → get_elem? vs j ≡ some w → v ≡ w
  one_there vs i j v w is e e' = some-injective v w (sym e ∙ (ap (λ (k : ℕ). get_elem? vs k) is ∙ e'))

  -- a place that has an element is within the list
  pub within : (vs : List V) (i : ℕ) (v : V) → get_elem? vs i ≡ some v → i < length vs
  within [] i v e = absurd (some-ne-none v (sym e))
  within (x ∷ vs) zero v e = omega arith
  within (x ∷ vs) (suc i) v e = let h = within vs i v e in omega arith

  -- an element of a list that one was put behind
  pub at_new : (vs : List V) (w v : V) (j : ℕ) → get_elem? (vs ++ w ∷ []) j ≡ some v → (get_elem? vs j ≡ some v) ⊎ ((j ≡ length vs) × (w ≡ v))
  at_new [] w v zero e = inr (refl, some-injective w v e)
  at_new [] w v (suc j) e = absurd (some-ne-none v (sym e))
  at_new (x ∷ vs) w v zero e = inl e
  at_new (x ∷ vs) w v (suc j) e = ⊎_elim (λ h. inl h) (λ t. inr (ap suc t.0, t.1)) (at_new vs w v j e)

  -- what holds of each element, after one was replaced
  pub each_set : (P : ℕ → V → Type 0) (vs : List V) (i : ℕ) (w : V) → P i w → ((j : ℕ) (u : V) → j ≢ i → get_elem? vs j ≡ some u → P j u) → (j : ℕ) (u : V)
      → get_elem? (set vs i w) j ≡ some u → P j u
  each_set P vs i w mine others j u e = ⊎_elim (λ (x : (j ≡ i) × (w ≡ u)). subst (λ (y : ℕ × V). P y.0 y.1) (λ k. (sym x.0 k, x.1 k)) mine)
      (λ (x : (j ≢ i) × (get_elem? vs j ≡ some u)). others j u x.0 x.1) (at_set vs i j w u e)
