-- Lists cut at a byte, and joined again.
use Rattle.std.proofs.Common.{◌≡◌, ℕ, ◌+◌, Bool, true, false, cond, List, [], ◌∷◌, ◌++◌, refl, sym, ap, ◌∙◌, arith, ◌||◌, not, take}
use Rattle.std.specs.List.{list_all, list_any, slice_split, before_first, position_or_len, filter, join_with_byte, onto_first}
use Rattle.std.proofs.lemmas.Bool.{and_parts, and_from, false≢true}
use Rattle.std.proofs.lemmas.List.Folds.{list_all-append}
use Rattle.std.proofs.Math.Numerals.{one-add}

pub all_weaker : {X : Type 0} (p q : X → Bool) → ((x : X) → p x ≡ true → q x ≡ true) → (xs : List X) → list_all p xs ≡ true → list_all q xs ≡ true
all_weaker p q weaker [] h = refl
all_weaker p q weaker (x ∷ xs) h =
    let parts = and_parts (p x) (list_all p xs) h in
    and_from _ _ (weaker x parts.0) (all_weaker p q weaker xs parts.1)

pub all_both : {X : Type 0} (p : X → Bool) (xs ys : List X) → list_all p xs ≡ true → list_all p ys ≡ true → list_all p (xs ++ ys) ≡ true
all_both p xs ys hx hy = list_all-append p xs ys ∙ and_from _ _ hx hy

pub none_of : {X : Type 0} (p q : X → Bool) → ((x : X) → p x ≡ true → q x ≡ false) → (xs : List X) → list_all p xs ≡ true → list_any q xs ≡ false
none_of p q apart [] h = refl
none_of p q apart (x ∷ xs) h =
    let parts = and_parts (p x) (list_all p xs) h in
    rw (apart x parts.0) (none_of p q apart xs parts.1)

pub split_none : {X : Type 0} (p : X → Bool) (xs : List X) → list_any p xs ≡ false → slice_split p xs ≡ xs ∷ []
split_none p [] h = refl
split_none p (x ∷ xs) h = go (p x) h (split_none p xs)
  where
    go : (b : Bool) → (b || list_any p xs) ≡ false → (list_any p xs ≡ false → slice_split p xs ≡ xs ∷ [])
        → cond b ([] ∷ slice_split p xs) (onto_first x (slice_split p xs)) ≡ (x ∷ xs) ∷ []
    go true e rest = absurd (false≢true (sym e))
    go false e rest = rw (rest e)

pub split_at : {X : Type 0} (p : X → Bool) (xs : List X) (y : X) (ys : List X) → list_any p xs ≡ false → p y ≡ true → slice_split p (xs ++ y ∷ ys) ≡ xs ∷ slice_split p ys
split_at p [] y ys h e = rw e
split_at p (x ∷ xs) y ys h e = go (p x) h (λ k. split_at p xs y ys k e)
  where
    go : (b : Bool) → (b || list_any p xs) ≡ false → (list_any p xs ≡ false → slice_split p (xs ++ y ∷ ys) ≡ xs ∷ slice_split p ys)
        → cond b ([] ∷ slice_split p (xs ++ y ∷ ys)) (onto_first x (slice_split p (xs ++ y ∷ ys))) ≡ (x ∷ xs) ∷ slice_split p ys
    go true e rest = absurd (false≢true (sym e))
    go false e rest = rw (rest e)

pub before_none : {X : Type 0} (p : X → Bool) (xs : List X) → list_any p xs ≡ false → before_first p xs ≡ xs
before_none p [] h = refl
before_none p (x ∷ xs) h = go (p x) h (before_none p xs)
  where
    go : (b : Bool) → (b || list_any p xs) ≡ false → (list_any p xs ≡ false → before_first p xs ≡ xs) → take (cond (not b) (1 + position_or_len p xs) 0) (x ∷ xs) ≡ x ∷ xs
    go true e rest = absurd (false≢true (sym e))
    go false e rest = rw one-add (ap (λ t. x ∷ t) (rest e))

-- parts with no such byte, joined by such a byte, are cut there again
pub split_joined : (p : ℕ → Bool) (c : ℕ) (x : List ℕ) (xs : List (List ℕ)) → list_all (λ t. not (list_any p t)) (x ∷ xs) ≡ true → p c ≡ true
    → slice_split p (join_with_byte c (x ∷ xs)) ≡ x ∷ xs
split_joined p c x [] h e = split_none p x (grind arith)
split_joined p c x (y ∷ more) h e =
    let parts = and_parts (not (list_any p x)) (list_all (λ t. not (list_any p t)) (y ∷ more)) h in
    split_at p x c (join_with_byte c (y ∷ more)) (grind arith) e ∙ ap (λ t. x ∷ t) (split_joined p c y more parts.1 e)

-- a test that each part and the byte between pass
pub all_joined : (q : ℕ → Bool) (c : ℕ) (xs : List (List ℕ)) → list_all (list_all q) xs ≡ true → q c ≡ true → list_all q (join_with_byte c xs) ≡ true
all_joined q c [] h e = refl
all_joined q c (x ∷ []) h e = (and_parts (list_all q x) true h).0
all_joined q c (x ∷ y ∷ more) h e =
    let parts = and_parts (list_all q x) (list_all (list_all q) (y ∷ more)) h in
    all_both q x (c ∷ join_with_byte c (y ∷ more)) parts.0 (and_from (q c) _ e (all_joined q c (y ∷ more) parts.1 e))

pub filter_all : {X : Type 0} (p : X → Bool) (xs : List X) → list_all p xs ≡ true → filter p xs ≡ xs
filter_all p [] h = refl
filter_all p (x ∷ xs) h =
    let parts = and_parts (p x) (list_all p xs) h in
    rw parts.0 (ap (λ t. x ∷ t) (filter_all p xs parts.1))

-- what a cut at a byte leaves passes a test on bytes wherever all does, and the other way round
pub any_both : {X : Type 0} (p : X → Bool) (xs ys : List X) → list_any p ys ≡ true → list_any p (xs ++ ys) ≡ true
any_both p [] ys h = h
any_both p (x ∷ xs) ys h = grind (arith, any_both p xs ys h)
