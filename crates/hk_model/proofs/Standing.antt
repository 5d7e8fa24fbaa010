-- What stands at each place after one part of the state has changed: a flag says whether the place is the one that was
-- written; what holds of the new value where it is true, and of the old one where it is false, holds of what stands there.
use Rattle.std.proofs.Common.{◌≡◌, ℕ, zero, suc, List, [], ◌∷◌, ◌++◌, length, Bool, true, false, Some, None, refl, sym, ap, arith, cond}
use Rattle.std.specs.Prelude.{slice_set, slice_index_or, ◌&&◌, ◌==◌}
use Rattle.std.specs.Option.{unwrap_or}
use Rattle.std.specs.Map.{lookup, set_value}
use Rattle.std.specs.BTreeMap.{insert_entry}
use Rattle.std.specs.Cmp.{IsEquivalence}
use Rattle.std.specs.Ordering.{nat_cmp, is_eq, match_ordering}
use Rattle.std.specs.declared.cmp.Ordering.{Ordering}
use Rattle.std.specs.declared.cmp.Ordering.TheVariants.{Less, Equal, Greater}
use Rattle.std.proofs.lemmas.Bool.Decides.{nat_tests}
use Rattle.hk_model.specs.declared.names.Name.{Name}
use Rattle.hk_model.specs.declared.names.Inc.{Inc}
use Rattle.hk_model.specs.declared.entries.Entry.{Entry}
use Rattle.hk_model.specs.declared.entries.Entry.TheVariants.{Empty}
use Rattle.hk_model.specs.declared.objects.Object.{Object}
use Rattle.hk_model.specs.declared.objects.Incarnation.{Incarnation}
use Rattle.hk_model.specs.State.{State, object, incarnation, put_object, put_slot, add_object, same_name, same_inc, name_cmp, inc_cmp, no_object, no_incarnation}
use Rattle.hk_model.specs.Rule.{enter}
use Rattle.hk_model.specs.Places.{Place, SlotOf, EntryOf, same_place, standing}
use Rattle.std.proofs.lemmas.Bool.{and_parts}

-- numbers in their order

number_same : (a b : ℕ) → is_eq (nat_cmp a b) ≡ true → a ≡ b
number_same a b h = grind (arith, nat_tests)

number_itself : (a : ℕ) → is_eq (nat_cmp a a) ≡ true
number_itself a = grind (arith, nat_tests)

number_turned : (a b : ℕ) → is_eq (nat_cmp a b) ≡ is_eq (nat_cmp b a)
number_turned a b = grind (arith, nat_tests)

-- names and numbers that are the same are one
pub name_same : (a b : Name) → same_name a b ≡ true → a ≡ b
name_same a b h = ap (λ (n : ℕ). let x : Name = record { 0 = n } in x) (number_same a.0 b.0 h)

pub inc_same : (a b : Inc) → same_inc a b ≡ true → a ≡ b
inc_same a b h = ap (λ (n : ℕ). let x : Inc = record { 0 = n } in x) (number_same a.0 b.0 h)

-- what holds of both values of a test
pub on_cond : {A : Type 0} (P : A → Type 0) (b : Bool) (x y : A) → (b ≡ true → P x) → (b ≡ false → P y) → P (cond b x y)
on_cond P true x y h g = h refl
on_cond P false x y h g = g refl

on_bool : (P : Bool → Type 0) → P true → P false → (b : Bool) → P b
on_bool P h g true = h
on_bool P h g false = g

index_same : (m n : ℕ) → (m == n) ≡ true → m ≡ n
index_same m n h = grind (arith, nat_tests)

-- places that are the same are one
pub place_same : (p q : Place) → same_place p q ≡ true → p ≡ q
place_same (SlotOf a m) (SlotOf b n) h =
    let g = and_parts (same_inc a b) (m == n) h in
    let e : a ≡ b = inc_same a b g.0 in
    let f : m ≡ n = index_same m n g.1 in rw (e, f) refl
place_same (EntryOf a m) (EntryOf b n) h =
    let g = and_parts (same_name a b) (m == n) h in
    let e : a ≡ b = name_same a b g.0 in
    let f : m ≡ n = index_same m n g.1 in rw (e, f) refl
place_same (SlotOf a m) (EntryOf b n) h = absurd (cc)
place_same (EntryOf a m) (SlotOf b n) h = absurd (cc)

-- being the same is an equivalence
pub name_laws : IsEquivalence same_name
name_laws = record {
  refl = λ x. number_itself x.0;
  symm = λ x y. number_turned x.0 y.0;
  congr = λ x y z h. ap (λ (n : ℕ). is_eq (nat_cmp n z.0)) (number_same x.0 y.0 h);
}

pub inc_laws : IsEquivalence same_inc
inc_laws = record {
  refl = λ x. number_itself x.0;
  symm = λ x y. number_turned x.0 y.0;
  congr = λ x y z h. ap (λ (n : ℕ). is_eq (nat_cmp n z.0)) (number_same x.0 y.0 h);
}

module _ {K X : Type 0} (eq : K → K → Bool) (laws : IsEquivalence eq) (P : Bool → X → Type 0) where
  -- what holds of a new value at its key, and of the old ones at the others
  pub set_holds : (k q : K) (es : List (K × X)) (w none : X) → P true w → P true none → P false (unwrap_or (lookup (eq q) es) none)
      → P (eq q k) (unwrap_or (lookup (eq q) (set_value (eq k) es w)) none)
  set_holds k q [] w none new gone old = on_bool (λ b. P b none) gone old (eq q k)
  set_holds k q (e ∷ es) w none new gone old =
      on_cond (λ l. P (eq q k) (unwrap_or (lookup (eq q) l) none)) (eq k e.0) ((e.0, w) ∷ es) (e ∷ set_value (eq k) es w)
      (λ a. on_cond (λ o. P (eq q k) (unwrap_or o none)) (eq q e.0) (Some w) (lookup (eq q) es)
      (λ b. let f : eq q k ≡ true = cc (laws.congr q e.0 k b, laws.symm e.0 k) in rw f new)
      (λ b. let f : eq q k ≡ false = cc (laws.congr k e.0 q a, laws.symm e.0 q, laws.symm k q) in rw f (rw b at old)))
      (λ a. on_cond (λ o. P (eq q k) (unwrap_or o none)) (eq q e.0) (Some e.1) (lookup (eq q) (set_value (eq k) es w))
      (λ b. let f : eq q k ≡ false = cc (laws.congr q e.0 k b, laws.symm e.0 k) in rw f (rw b at old))
      (λ b. set_holds k q es w none new gone (rw b at old)))

-- what holds of a new item at its index, and of the old ones at the others
module _ (P : Bool → Entry → Type 0) where
  item_here : (xs : List Entry) (n : ℕ) (e : Entry) → P true e → P true Empty → P true (slice_index_or (slice_set xs n e) n Empty)
  item_here [] n e new gone = gone
  item_here (x ∷ xs) zero e new gone = new
  item_here (x ∷ xs) (suc n) e new gone = item_here xs n e new gone

  item_there : (xs : List Entry) (n m : ℕ) (e : Entry) → (m ≡ n → ⊥) → P false (slice_index_or xs m Empty) → P false (slice_index_or (slice_set xs n e) m Empty)
  item_there [] n m e apart old = old
  item_there (x ∷ xs) zero zero e apart old = absurd (apart refl)
  item_there (x ∷ xs) zero (suc m) e apart old = old
  item_there (x ∷ xs) (suc n) zero e apart old = old
  item_there (x ∷ xs) (suc n) (suc m) e apart old = item_there xs n m e (λ h. apart (ap suc h)) old

  same_true : (m n : ℕ) → (m == n) ≡ true → m ≡ n
  same_true m n h = grind (arith, nat_tests)

  same_false : (m n : ℕ) → (m == n) ≡ false → m ≡ n → ⊥
  same_false m n h e = grind (arith, nat_tests)

  pub item_holds : (xs : List Entry) (n m : ℕ) (e : Entry) → P true e → P true Empty → P false (slice_index_or xs m Empty) → P (m == n) (slice_index_or (slice_set xs n e) m Empty)
  item_holds xs n m e new gone old = by (m == n) refl
    where
      by : (b : Bool) → (m == n) ≡ b → P b (slice_index_or (slice_set xs n e) m Empty)
      by true h = rw (same_true m n h) (item_here xs n e new gone)
      by false h = item_there xs n m e (same_false m n h) old

pub on_ordering : {A : Type 0} (P : A → Type 0) (o : Ordering) (x y z : A) → (o ≡ Less → P x) → (o ≡ Equal → P y) → (o ≡ Greater → P z) → P (match_ordering o x y z)
on_ordering P Less x y z f g h = f refl
on_ordering P Equal x y z f g h = g refl
on_ordering P Greater x y z f g h = h refl

module _ {K X : Type 0} (cmp : K → K → Ordering) (laws : IsEquivalence (λ x y. is_eq (cmp x y))) (P : Bool → X → Type 0) where
  -- the same of a value that is put in at its key
  pub insert_holds : (k q : K) (es : List (K × X)) (w none : X) → P true w → P false (unwrap_or (lookup (λ x. is_eq (cmp q x)) es) none)
      → P (is_eq (cmp q k)) (unwrap_or (lookup (λ x. is_eq (cmp q x)) (insert_entry cmp es k w)) none)
  insert_holds k q [] w none new old = on_cond2 (is_eq (cmp q k)) new old
    where
      on_cond2 : (b : Bool) → P true w → P false none → P b (unwrap_or (cond b (Some w) None) none)
      on_cond2 true h g = h
      on_cond2 false h g = g
  insert_holds k q (e ∷ es) w none new old =
      on_ordering (λ l. P (is_eq (cmp q k)) (unwrap_or (lookup (λ x. is_eq (cmp q x)) l) none)) (cmp k e.0) ((k, w) ∷ e ∷ es) ((e.0, w) ∷ es) (e ∷ insert_entry cmp es k w)
      (λ a. front (is_eq (cmp q k)) new old)
      (λ a. let same : is_eq (cmp k e.0) ≡ true = ap is_eq a in
      on_cond (λ o. P (is_eq (cmp q k)) (unwrap_or o none)) (is_eq (cmp q e.0)) (Some w) (lookup (λ x. is_eq (cmp q x)) es)
      (λ b. let f : is_eq (cmp q k) ≡ true = cc (laws.congr q e.0 k b, laws.symm e.0 k) in rw f new)
      (λ b. let f : is_eq (cmp q k) ≡ false = cc (laws.congr k e.0 q same, laws.symm e.0 q, laws.symm k q) in rw f (rw b at old)))
      (λ a. let apart : is_eq (cmp k e.0) ≡ false = ap is_eq a in
      on_cond (λ o. P (is_eq (cmp q k)) (unwrap_or o none)) (is_eq (cmp q e.0)) (Some e.1) (lookup (λ x. is_eq (cmp q x)) (insert_entry cmp es k w))
      (λ b. let f : is_eq (cmp q k) ≡ false = cc (laws.congr q e.0 k b, laws.symm e.0 k) in rw f (rw b at old))
      (λ b. insert_holds k q es w none new (rw b at old)))
    where
      front : (b : Bool) → P true w → P false (unwrap_or (lookup (λ x. is_eq (cmp q x)) (e ∷ es)) none)
          → P b (unwrap_or (cond b (Some w) (lookup (λ x. is_eq (cmp q x)) (e ∷ es))) none)
      front true h g = h
      front false h g = g

-- the place is in the list of this object, or in this incarnation
abbrev pub is_of : Name → Place → Bool
is_of name (EntryOf a i) = same_name a name
is_of name (SlotOf a i) = false

abbrev pub place_index : Place → ℕ
place_index (EntryOf a i) = i
place_index (SlotOf a i) = i

abbrev pub is_in : Inc → Place → Bool
is_in inc (EntryOf a i) = false
is_in inc (SlotOf a i) = same_inc a inc

-- what holds of each entry after one change of the state: the flag says whether the place is the one that was written
module _ (P : Bool → Entry → Type 0) (s : State) (gone : (b : Bool) → P b Empty) where
  pub put_slot_holds : (inc : Inc) (n : ℕ) (e : Entry) (p : Place) → P true e → P false (standing s p) → P (same_place p (SlotOf inc n)) (standing (put_slot s inc n e) p)
  put_slot_holds inc n e (EntryOf a i) new old = old
  put_slot_holds inc n e (SlotOf a i) new old =
      set_holds same_inc inc_laws (λ b x. b ≡ same_inc a inc → P (b && i == n) (slice_index_or x.slots i Empty)) inc a s.incarnations
      (record (incarnation s inc) { slots = slice_set (incarnation s inc).slots n e }) no_incarnation
      (λ h. let same : a ≡ inc = inc_same a inc (sym h) in item_holds P (incarnation s inc).slots n i e new (gone true) (rw (← same) old))
      (λ h. gone (i == n))
      (λ h. old)
      refl

  pub put_object_holds : (name : Name) (n : ℕ) (o : Object) (p : Place)
      → ((m : ℕ) → P false (slice_index_or (object s name).entries m Empty) → P (m == n) (slice_index_or o.entries m Empty)) → P false (standing s p)
      → P (same_place p (EntryOf name n)) (standing (put_object s name o) p)
  put_object_holds name n o (SlotOf a i) new old = old
  put_object_holds name n o (EntryOf a i) new old =
      set_holds same_name name_laws (λ b x. b ≡ same_name a name → P (b && i == n) (slice_index_or x.entries i Empty)) name a s.objects o no_object
      (λ h. let same : a ≡ name = name_same a name (sym h) in new i (rw (← same) old))
      (λ h. gone (i == n))
      (λ h. old)
      refl

  pub add_object_holds : (o : Object) (p : Place) → P true (slice_index_or o.entries (place_index p) Empty) → P false (standing s p)
      → P (is_of s.next_name p) (standing (add_object s o) p)
  add_object_holds o (SlotOf a i) new old = old
  add_object_holds o (EntryOf a i) new old =
      insert_holds name_cmp name_laws (λ b x. P b (slice_index_or x.entries i Empty)) s.next_name a s.objects o no_object new old

  pub enter_holds : (x : Incarnation) (p : Place) → P true (slice_index_or x.slots (place_index p) Empty) → P false (standing s p) → P (is_in s.next_inc p) (standing (enter s x) p)
  enter_holds x (EntryOf a i) new old = old
  enter_holds x (SlotOf a i) new old =
      insert_holds inc_cmp inc_laws (λ b x. P b (slice_index_or x.slots i Empty)) s.next_inc a s.incarnations x no_incarnation new old

-- one item more
pub append_holds : (P : Bool → Entry → Type 0) (xs : List Entry) (m : ℕ) (e : Entry) → P true e → P false (slice_index_or xs m Empty)
    → P (m == length xs) (slice_index_or (xs ++ e ∷ []) m Empty)
append_holds P xs m e new old = by (m == length xs) refl
  where
    here : (ys : List Entry) → slice_index_or (ys ++ e ∷ []) (length ys) Empty ≡ e
    here [] = refl
    here (y ∷ ys) = here ys

    there : (ys : List Entry) (n : ℕ) → (n ≡ length ys → ⊥) → slice_index_or (ys ++ e ∷ []) n Empty ≡ slice_index_or ys n Empty
    there [] zero apart = absurd (apart refl)
    there [] (suc n) apart = refl
    there (y ∷ ys) zero apart = refl
    there (y ∷ ys) (suc n) apart = there ys n (λ h. apart (ap suc h))

    by : (b : Bool) → (m == length xs) ≡ b → P b (slice_index_or (xs ++ e ∷ []) m Empty)
    by true h = let same : m ≡ length xs = grind (arith, nat_tests) in rw (same, here xs) new
    by false h = rw (there xs m (λ e. grind (arith, nat_tests))) old
