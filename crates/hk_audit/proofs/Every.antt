-- What holds of each element of a list, and of each value of a map, holds after a change of one.
use Rattle.std.proofs.Common.{ℕ, zero, suc, List, [], ◌∷◌, ◌++◌, Bool, true, false, Option, Some, None, cond, map, replicate}
use Rattle.std.specs.Prelude.{IfSome, slice_get, slice_index_or, slice_set, filter}
use Rattle.std.specs.List.{AllByRecursion}
use Rattle.std.specs.Option.{unwrap_or}
use Rattle.std.specs.Map.{lookup, set_value, remove_entry}
use Rattle.std.specs.BTreeMap.{insert_entry}
use Rattle.std.specs.Ordering.{match_ordering}
use Rattle.std.specs.declared.cmp.Ordering.{Ordering}
use Rattle.std.specs.declared.cmp.Ordering.TheVariants.{Less, Equal, Greater}

module _ {A : Type 0} (P : A → Type 0) where
  pub every_append : (xs ys : List A) → AllByRecursion P xs → AllByRecursion P ys → AllByRecursion P (xs ++ ys)
  every_append [] ys h g = g
  every_append (x ∷ xs) ys h g = (h.0, every_append xs ys h.1 g)

  pub every_last : (xs : List A) (y : A) → AllByRecursion P xs → P y → AllByRecursion P (xs ++ y ∷ [])
  every_last [] y h g = (g, tt)
  every_last (x ∷ xs) y h g = (h.0, every_last xs y h.1 g)

  pub every_same : (n : ℕ) (x : A) → P x → AllByRecursion P (replicate n x)
  every_same zero x h = tt
  every_same (suc n) x h = (h, every_same n x h)

  pub every_set : (xs : List A) (i : ℕ) (y : A) → AllByRecursion P xs → P y → AllByRecursion P (slice_set xs i y)
  every_set [] i y h g = tt
  every_set (x ∷ xs) zero y h g = (g, h.1)
  every_set (x ∷ xs) (suc i) y h g = (h.0, every_set xs i y h.1 g)

  pub every_at : (xs : List A) (i : ℕ) → AllByRecursion P xs → IfSome (slice_get xs i) P
  every_at [] i h = tt
  every_at (x ∷ xs) zero h = h.0
  every_at (x ∷ xs) (suc i) h = every_at xs i h.1

  pub every_or : (xs : List A) (i : ℕ) (d : A) → AllByRecursion P xs → P d → P (slice_index_or xs i d)
  every_or [] i d h g = g
  every_or (x ∷ xs) zero d h g = h.0
  every_or (x ∷ xs) (suc i) d h g = every_or xs i d h.1 g

  pub some_or : (found : Option A) (d : A) → IfSome found P → P d → P (unwrap_or found d)
  some_or None d h g = g
  some_or (Some x) d h g = h

  either : (b : Bool) (x y : List A) → AllByRecursion P x → AllByRecursion P y → AllByRecursion P (cond b x y)
  either true x y h g = h
  either false x y h g = g

  pub every_filtered : (test : A → Bool) (xs : List A) → AllByRecursion P xs → AllByRecursion P (filter test xs)
  every_filtered test [] h = tt
  every_filtered test (x ∷ xs) h =
      let rest = every_filtered test xs h.1 in either (test x) (x ∷ filter test xs) (filter test xs) (h.0, rest) rest

pub every_mapped : {A B : Type 0} (P : A → Type 0) (Q : B → Type 0) (f : A → B) → ((x : A) → P x → Q (f x)) → (xs : List A) → AllByRecursion P xs → AllByRecursion Q (map f xs)
every_mapped P Q f step [] h = tt
every_mapped P Q f step (x ∷ xs) h = (step x h.0, every_mapped P Q f step xs h.1)

found_by : {A : Type 0} (P : A → Type 0) (b : Bool) (x : A) (rest : Option A) (d : A) → P x → P (unwrap_or rest d) → P (unwrap_or (cond b (Some x) rest) d)
found_by P true x rest d h g = h
found_by P false x rest d h g = g

-- maps
module _ {K A : Type 0} (P : A → Type 0) where
  abbrev pub EachValue : List (K × A) → Type 0
  EachValue es = AllByRecursion (λ (e : K × A). P e.1) es

  by_test : (b : Bool) (x y : List (K × A)) → EachValue x → EachValue y → EachValue (cond b x y)
  by_test true x y h g = h
  by_test false x y h g = g

  by_order : (o : Ordering) (x y z : List (K × A)) → EachValue x → EachValue y → EachValue z → EachValue (match_ordering o x y z)
  by_order Less x y z h g k = h
  by_order Equal x y z h g k = g
  by_order Greater x y z h g k = k

  pub each_set : (test : K → Bool) (es : List (K × A)) (x : A) → EachValue es → P x → EachValue (set_value test es x)
  each_set test [] x h g = tt
  each_set test (e ∷ es) x h g =
      by_test (test e.0) ((e.0, x) ∷ es) (e ∷ set_value test es x) (g, h.1) (h.0, each_set test es x h.1 g)

  pub each_removed : (test : K → Bool) (es : List (K × A)) → EachValue es → EachValue (remove_entry test es)
  each_removed test [] h = tt
  each_removed test (e ∷ es) h = by_test (test e.0) es (e ∷ remove_entry test es) h.1 (h.0, each_removed test es h.1)

  pub each_inserted : (cmp : K → K → Ordering) (es : List (K × A)) (k : K) (x : A) → EachValue es → P x → EachValue (insert_entry cmp es k x)
  each_inserted cmp [] k x h g = (g, tt)
  each_inserted cmp (e ∷ es) k x h g =
      by_order (cmp k e.0) ((k, x) ∷ e ∷ es) ((e.0, x) ∷ es) (e ∷ insert_entry cmp es k x) (g, h) (g, h.1) (h.0, each_inserted cmp es k x h.1 g)

  pub each_found : (test : K → Bool) (es : List (K × A)) (d : A) → EachValue es → P d → P (unwrap_or (lookup test es) d)
  each_found test [] d h g = g
  each_found test (e ∷ es) d h g = found_by P (test e.0) e.1 (lookup test es) d h.0 (each_found test es d h.1 g)
