-- What a list has, by recursion.
use Rattle.std.proofs.Common.{◌≡◌, zero, suc, List, [], ◌∷◌, ◌++◌, Bool, true, false, map, refl, cond, arith}
use Rattle.std.specs.Prelude.{◌⊎◌, filter}
use Rattle.std.specs.List.{Contains}
use mathlib.Core.Logic.{inl, inr}

module _ {X : Type 0} where
  abbrev pub Has : List X → X → Type 0
  Has [] x = ⊥
  Has (y ∷ ys) x = (y ≡ x) ⊎ Has ys x

  pub has_left : (xs ys : List X) (x : X) → Has xs x → Has (xs ++ ys) x
  has_left [] ys x h = absurd h
  has_left (y ∷ xs) ys x (inl e) = inl e
  has_left (y ∷ xs) ys x (inr h) = inr (has_left xs ys x h)

  pub has_right : (xs ys : List X) (x : X) → Has ys x → Has (xs ++ ys) x
  has_right [] ys x h = h
  has_right (y ∷ xs) ys x h = inr (has_right xs ys x h)

  pub has_cases : (xs ys : List X) (x : X) → Has (xs ++ ys) x → Has xs x ⊎ Has ys x
  has_cases [] ys x h = inr h
  has_cases (y ∷ xs) ys x (inl e) = inl (inl e)
  has_cases (y ∷ xs) ys x (inr h) = by (has_cases xs ys x h)
    where
      by : Has xs x ⊎ Has ys x → Has (y ∷ xs) x ⊎ Has ys x
      by (inl g) = inl (inr g)
      by (inr g) = inr g

  pub has_filtered : (p : X → Bool) (xs : List X) (x : X) → Has (filter p xs) x → Has xs x × (p x ≡ true)
  has_filtered p [] x h = absurd h
  has_filtered p (y ∷ xs) x h = by (p y) refl h (has_filtered p xs x)
    where
      by : (b : Bool) → p y ≡ b → Has (cond b (y ∷ filter p xs) (filter p xs)) x → (Has (filter p xs) x → Has xs x × (p x ≡ true)) → Has (y ∷ xs) x × (p x ≡ true)
      by true e (inl same) later = (inl same, rw (← same) e)
      by true e (inr g) later = let f = later g in (inr f.0, f.1)
      by false e g later = let f = later g in (inr f.0, f.1)

  pub has_filter : (p : X → Bool) (xs : List X) (x : X) → Has xs x → p x ≡ true → Has (filter p xs) x
  has_filter p [] x h e = absurd h
  has_filter p (y ∷ xs) x h e = by (p y) refl h (λ g. has_filter p xs x g e)
    where
      by : (b : Bool) → p y ≡ b → Has (y ∷ xs) x → (Has xs x → Has (filter p xs) x) → Has (cond b (y ∷ filter p xs) (filter p xs)) x
      by true f (inl same) later = inl same
      by true f (inr g) later = inr (later g)
      by false f (inl same) later = let clash : p x ≡ false = rw (← same) f in absurd (cc)
      by false f (inr g) later = later g

  pub has_from : (xs : List X) (x : X) → Contains xs x → Has xs x
  has_from [] x h = let lt = h.1 in absurd (omega (arith, lt))
  has_from (y ∷ ys) x (zero, lt, e) = inl e
  has_from (y ∷ ys) x (suc i, lt, e) = inr (has_from ys x (i, omega (arith, lt), e))

  pub contains_from : (xs : List X) (x : X) → Has xs x → Contains xs x
  contains_from [] x h = absurd h
  contains_from (y ∷ ys) x (inl e) = (0, omega arith, e)
  contains_from (y ∷ ys) x (inr h) = let c = contains_from ys x h in let lt = c.1 in (suc c.0, omega (arith, lt), c.2)

module _ {X Y : Type 0} where
  pub has_mapped : (f : X → Y) (xs : List X) (y : Y) → Has (map f xs) y → (x : X) × (Has xs x × (f x ≡ y))
  has_mapped f [] y h = absurd h
  has_mapped f (x ∷ xs) y (inl e) = (x, (inl refl, e))
  has_mapped f (x ∷ xs) y (inr h) = let g = has_mapped f xs y h in (g.0, (inr g.1.0, g.1.1))

  pub has_map : (f : X → Y) (xs : List X) (x : X) → Has xs x → Has (map f xs) (f x)
  has_map f [] x h = absurd h
  has_map f (z ∷ xs) x (inl e) = inl (rw e refl)
  has_map f (z ∷ xs) x (inr h) = inr (has_map f xs x h)
