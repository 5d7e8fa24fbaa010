-- The objects of a set go, one by one.
use Rattle.std.proofs.Common.{◌≡◌, ◌∙◌, ◌≤◌, ◌+◌, ℕ, List, [], ◌∷◌, length, Bool, true, false, cond, refl, sym, subst, ap, arith}
use Rattle.std.specs.Prelude.{◌||◌, ◌==◌}
use Rattle.std.specs.Map.{keys_of, remove_entry}
use Rattle.std.specs.BTreeMap.{insert_entry}
use Rattle.std.specs.Ordering.{nat_cmp, is_eq, match_ordering}
use Rattle.std.specs.declared.cmp.Ordering.{Ordering}
use Rattle.std.specs.declared.cmp.Ordering.TheVariants.{Less, Equal, Greater}
use Rattle.std.specs.List.{AllByRecursion}
use Rattle.std.specs.List.Sorted.{IsStrictlySortedBy}
use Rattle.std.proofs.lemmas.Bool.Decides.{nat_tests}
use Rattle.std.proofs.lemmas.Map.Keys.{sorted_head, sorted_tail}
use Rattle.hk_model.specs.declared.names.Name.{Name}
use Rattle.hk_model.specs.declared.objects.Object.{Object}
use Rattle.hk_model.specs.State.{name_cmp, same_name}
use Rattle.hk_model.proofs.Keeping.{of_set}
use Rattle.hk_model.proofs.Standing.{name_same, name_laws}
use Rattle.hk_plain.specs.Marking.{is_none_of, stays_beside}
use Rattle.hk_plain.proofs.CountedParts.{name_order}
use Rattle.hk_plain.proofs.PutBack.{sorted_removed}

-- the objects without those of these names, but for the one that is made
abbrev pub removed_beside : Name → List Name → List (Name × Object) → List (Name × Object)
removed_beside name [] es = es
removed_beside name (n ∷ names) es = removed_beside name names (cond (n.0 == name.0) es (remove_entry (same_name n) es))

-- sets with the same members
alike : (p q : Name → Bool) → ((m : Name) → p m ≡ q m) → (es : List (Name × Object)) → of_set p es ≡ of_set q es
alike p q same [] = refl
alike p q same (e ∷ es) = rw (same e.0, alike p q same es) refl

-- objects above a name, which are not the one of this name
without_past : (p : Name → Bool) (n : Name) (es : List (Name × Object)) → AllByRecursion (λ (k : Name). name_cmp n k ≡ Less) (keys_of es)
    → of_set (λ m. cond (same_name n m) false (p m)) es ≡ of_set p es
without_past p n [] past = refl
without_past p n (e ∷ es) past = let other : same_name n e.0 ≡ false = ap is_eq past.0 in rw (other, without_past p n es past.1) refl

-- an object goes, and then those that are not of a set
one_without : (p : Name → Bool) (n : Name) (es : List (Name × Object)) → IsStrictlySortedBy name_cmp (keys_of es)
    → of_set p (remove_entry (same_name n) es) ≡ of_set (λ m. cond (same_name n m) false (p m)) es
one_without p n [] sorted = refl
one_without p n (e ∷ es) sorted = by (same_name n e.0) refl (one_without p n es (sorted_tail name_cmp e.0 (keys_of es) sorted))
  where
    by : (b : Bool) → same_name n e.0 ≡ b
        → of_set p (remove_entry (same_name n) es) ≡ of_set (λ m. cond (same_name n m) false (p m)) es
        → of_set p (cond b es (e ∷ remove_entry (same_name n) es)) ≡ of_set (λ m. cond (same_name n m) false (p m)) (e ∷ es)
    by true is rest =
        let past : AllByRecursion (λ (k : Name). name_cmp n k ≡ Less) (keys_of es) =
        subst (λ (m : Name). AllByRecursion (λ (k : Name). name_cmp m k ≡ Less) (keys_of es)) (sym (name_same n e.0 is)) (sorted_head name_cmp e.0 (keys_of es) sorted) in
        rw is (sym (without_past p n es past))
    by false is rest = rw is (ap (λ (l : List (Name × Object)). cond (p e.0) (e ∷ l) l) rest)

-- with one name more
with_name : (name : Name) (n : Name) (names : List Name) (m : Name) → (n.0 == name.0) ≡ false
    → cond (same_name n m) false (stays_beside name names m) ≡ stays_beside name (n ∷ names) m
with_name name n names m other = by (same_name n m) refl
  where
    by : (b : Bool) → same_name n m ≡ b → cond b false (stays_beside name names m) ≡ stays_beside name (n ∷ names) m
    by true is =
        let apart : (m.0 == name.0) ≡ false = subst (λ (k : Name). (k.0 == name.0) ≡ false) (name_same n m is) other in
        let turned : same_name m n ≡ true = name_laws.symm m n ∙ is in rw (apart, turned) refl
    by false is = let turned : same_name m n ≡ false = name_laws.symm m n ∙ is in rw turned refl

with_made : (name : Name) (n : Name) (names : List Name) (m : Name) → (n.0 == name.0) ≡ true → stays_beside name names m ≡ stays_beside name (n ∷ names) m
with_made name n names m is = by (m.0 == name.0) refl
  where
    differ : (a b c : ℕ) → (b == c) ≡ true → (a == c) ≡ false → is_eq (nat_cmp a b) ≡ false
    differ a b c f g = grind (arith, nat_tests)

    by : (b : Bool) → (m.0 == name.0) ≡ b → b || is_none_of names m ≡ b || is_none_of (n ∷ names) m
    by true at = refl
    by false at = let other : same_name m n ≡ false = differ m.0 n.0 name.0 is at in rw other refl

all_stay : (name : Name) (es : List (Name × Object)) → es ≡ of_set (stays_beside name []) es
all_stay name [] = refl
all_stay name (e ∷ es) = by (e.0.0 == name.0) (all_stay name es)
  where
    by : (b : Bool) → es ≡ of_set (stays_beside name []) es → e ∷ es ≡ cond (b || true) (e ∷ of_set (stays_beside name []) es) (of_set (stays_beside name []) es)
    by true rest = ap (λ (l : List (Name × Object)). e ∷ l) rest
    by false rest = ap (λ (l : List (Name × Object)). e ∷ l) rest

pub spare_gone : (name : Name) (names : List Name) (es : List (Name × Object)) → IsStrictlySortedBy name_cmp (keys_of es)
    → removed_beside name names es ≡ of_set (stays_beside name names) es
spare_gone name [] es sorted = all_stay name es
spare_gone name (n ∷ names) es sorted =
    by (n.0 == name.0) refl (λ rest ordered. spare_gone name names rest ordered)
  where
    by : (b : Bool) → (n.0 == name.0) ≡ b
        → ((rest : List (Name × Object)) → IsStrictlySortedBy name_cmp (keys_of rest) → removed_beside name names rest ≡ of_set (stays_beside name names) rest)
        → removed_beside name names (cond b es (remove_entry (same_name n) es)) ≡ of_set (stays_beside name (n ∷ names)) es
    by true is later = later es sorted ∙ alike (stays_beside name names) (stays_beside name (n ∷ names)) (λ m. with_made name n names m is) es
    by false is later =
        later (remove_entry (same_name n) es) (sorted_removed name_cmp name_order name_same (same_name n) es sorted) ∙ one_without (stays_beside name names) n es sorted
        ∙ alike (λ m. cond (same_name n m) false (stays_beside name names m)) (stays_beside name (n ∷ names)) (λ m. with_name name n names m is) es

-- an entry more at most
pub one_more : (es : List (Name × Object)) (n : Name) (o : Object) → length (insert_entry name_cmp es n o) ≤ length es + 1
one_more [] n o = omega arith
one_more (e ∷ es) n o = by (name_cmp n e.0) (one_more es n o)
  where
    by : (c : Ordering) → length (insert_entry name_cmp es n o) ≤ length es + 1
        → length (match_ordering c ((n, o) ∷ e ∷ es) ((e.0, o) ∷ es) (e ∷ insert_entry name_cmp es n o)) ≤ length (e ∷ es) + 1
    by Less rest = omega arith
    by Equal rest = omega arith
    by Greater rest = omega arith
