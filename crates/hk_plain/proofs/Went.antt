-- Objects and incarnations that went, one by one.
use Rattle.std.proofs.Common.{◌≡◌, ◌∙◌, ◌+◌, ◌-◌, ◌<◌, ◌≤◌, List, [], ◌∷◌, ◌++◌, length, Bool, true, false, Some, None, cond, refl, sym, ap, arith, subst}
use Rattle.std.specs.Map.{lookup, keys_of, remove_entry}
use Rattle.std.specs.BTreeMap.{insert_entry}
use Rattle.std.specs.List.{AllByRecursion}
use Rattle.std.specs.List.Sorted.{IsStrictlySortedBy}
use Rattle.std.proofs.lemmas.Map.{lookup-remove_entry}
use Rattle.std.proofs.lemmas.Map.Keys.{IsDistinct-from_sorted}
use Rattle.hk_model.specs.declared.names.Name.{Name}
use Rattle.hk_model.specs.declared.names.Inc.{Inc}
use Rattle.hk_model.specs.declared.objects.Object.{Object}
use Rattle.hk_model.specs.declared.objects.Incarnation.{Incarnation}
use Rattle.hk_model.specs.State.{name_cmp, inc_cmp, same_name, same_inc}
use Rattle.hk_model.proofs.Standing.{name_same, inc_same, name_laws, inc_laws}
use Rattle.hk_plain.specs.Changes.{objects_with, incarnations_with, AreNewObjects, AreNewIncarnations}
use Rattle.hk_plain.specs.Removing.{Removal, with_object, with_incarnation, ObjectsWent, IncarnationsWent, AreBelow}
use Rattle.hk_plain.proofs.PutBack.{objects_with_more, incarnations_with_more, object_put_back, incarnation_put_back}

-- ---- lists of entries by number

module _ {K X : Type 0} where
  -- an entry that goes was the only one of its number
  pub absent_after : (eq : K → K → Bool) (k : K) (es : List (K × X)) → lookup (eq k) (remove_entry (eq k) es) ≡ cond (eq k k) None (lookup (eq k) es)
      → eq k k ≡ true → lookup (eq k) (remove_entry (eq k) es) ≡ None
  absent_after eq k es found itself = found ∙ rw itself refl

  pub fewer : (test : K → Bool) (es : List (K × X)) (x : X) → lookup test es ≡ Some x → length (remove_entry test es) + 1 ≡ length es
  fewer test [] x there = absurd (cc)
  fewer test (e ∷ es) x there = by (test e.0) there (fewer test es x)
    where
      by : (b : Bool) → cond b (Some e.1) (lookup test es) ≡ Some x → (lookup test es ≡ Some x → length (remove_entry test es) + 1 ≡ length es)
          → length (cond b es (e ∷ remove_entry test es)) + 1 ≡ length (e ∷ es)
      by true found later = omega arith
      by false found later = omega (arith, later found)

  pub all_but : (P : K → Type 0) (test : K → Bool) (es : List (K × X)) → AllByRecursion (λ (e : K × X). P e.0) es
      → AllByRecursion (λ (e : K × X). P e.0) (remove_entry test es)
  all_but P test [] all = tt
  all_but P test (e ∷ es) all = by (test e.0) (all_but P test es all.1)
    where
      by : (b : Bool) → AllByRecursion (λ (x : K × X). P x.0) (remove_entry test es) → AllByRecursion (λ (x : K × X). P x.0) (cond b es (e ∷ remove_entry test es))
      by true rest = all.1
      by false rest = (all.0, rest)

  pub all_more : (P : K → Type 0) (es : List (K × X)) (e : K × X) → AllByRecursion (λ (x : K × X). P x.0) es → P e.0
      → AllByRecursion (λ (x : K × X). P x.0) (es ++ e ∷ [])
  all_more P [] e all here = (here, tt)
  all_more P (x ∷ es) e all here = (all.0, all_more P es e all.1 here)

name_absent : (es : List (Name × Object)) (n : Name) → IsStrictlySortedBy name_cmp (keys_of es) → lookup (same_name n) (remove_entry (same_name n) es) ≡ None
name_absent es n sorted =
    absent_after same_name n es
    (lookup-remove_entry name_laws (same_name n) (λ x y is. ap (λ (m : Name). same_name m y) (name_same n x is)) n es (IsDistinct-from_sorted name_cmp (keys_of es) sorted))
    (name_laws.refl n)

inc_absent : (es : List (Inc × Incarnation)) (i : Inc) → IsStrictlySortedBy inc_cmp (keys_of es) → lookup (same_inc i) (remove_entry (same_inc i) es) ≡ None
inc_absent es i sorted =
    absent_after same_inc i es
    (lookup-remove_entry inc_laws (same_inc i) (λ x y is. ap (λ (m : Inc). same_inc m y) (inc_same i x is)) i es (IsDistinct-from_sorted inc_cmp (keys_of es) sorted))
    (inc_laws.refl i)

-- ---- objects

pub no_object_went : (es : List (Name × Object)) (r : Removal) → ObjectsWent es es r r
no_object_went es r = record { keeps = refl; left = refl; left_room = refl; put_back = λ k. refl; are_new = λ k new. new; room = λ room. room }

pub objects_went_on : (a b c : List (Name × Object)) (r s t : Removal) → ObjectsWent a b r s → ObjectsWent b c s t → ObjectsWent a c r t
objects_went_on a b c r s t f g = record {
  keeps = g.keeps ∙ f.keeps;
  left = g.left ∙ f.left;
  left_room = g.left_room ∙ f.left_room;
  put_back = λ k. g.put_back (f.keeps ∙ k) ∙ f.put_back k;
  are_new = λ k new. g.are_new (f.keeps ∙ k) (f.are_new k new);
  room = λ room. g.room (f.room room);
}

-- one more that is new
object_more : (gone after es : List (Name × Object)) (n : Name) (o : Object) → lookup (same_name n) after ≡ None → insert_entry name_cmp after n o ≡ es
    → AreNewObjects gone es → AreNewObjects (gone ++ (n, o) ∷ []) after
object_more [] after es n o absent put new = (absent, tt)
object_more (e ∷ gone) after es n o absent put new = (
  ap (lookup (same_name e.0)) (objects_with_more gone n o after ∙ ap (objects_with gone) put) ∙ new.0,
  object_more gone after es n o absent put new.1,
)

pub object_went : (es : List (Name × Object)) (n : Name) (o : Object) (r : Removal) → IsStrictlySortedBy name_cmp (keys_of es) → lookup (same_name n) es ≡ Some o
    → ObjectsWent es (remove_entry (same_name n) es) r (with_object r n o)
object_went es n o r sorted there = by r.keeps refl
  where
    after : List (Name × Object)
    after = remove_entry (same_name n) es

    kept : Removal
    kept = record r { gone = r.gone ++ (n, o) ∷ []; objects_room = r.objects_room - 1 }

    by : (b : Bool) → r.keeps ≡ b → ObjectsWent es after r (cond b kept r)
    by true is = record {
      keeps = refl;
      left = refl;
      left_room = refl;
      put_back = λ k. objects_with_more r.gone n o after ∙ ap (objects_with r.gone) (object_put_back es n o sorted there);
      are_new = λ k new. object_more r.gone after es n o (name_absent es n sorted) (object_put_back es n o sorted there) new;
      room = λ room k. let all : length es ≤ r.objects_room = room k in let one : length after + 1 ≡ length es = fewer (same_name n) es o there in omega arith;
    }
    by false is = record {
      keeps = refl;
      left = refl;
      left_room = refl;
      put_back = λ k. absurd (cc);
      are_new = λ k new. absurd (cc);
      room = λ room k. absurd (cc);
    }

-- ---- incarnations

pub no_incarnation_went : (es : List (Inc × Incarnation)) (r : Removal) → IncarnationsWent es es r r
no_incarnation_went es r = record {
  keeps = refl;
  gone = refl;
  gone_room = refl;
  put_back = λ k. refl;
  are_new = λ k new. new;
  below = λ next all old. old;
  still_below = λ next all. all;
  room = λ room. room;
}

pub incarnations_went_on : (a b c : List (Inc × Incarnation)) (r s t : Removal) → IncarnationsWent a b r s → IncarnationsWent b c s t → IncarnationsWent a c r t
incarnations_went_on a b c r s t f g = record {
  keeps = g.keeps ∙ f.keeps;
  gone = g.gone ∙ f.gone;
  gone_room = g.gone_room ∙ f.gone_room;
  put_back = λ k. g.put_back (f.keeps ∙ k) ∙ f.put_back k;
  are_new = λ k new. g.are_new (f.keeps ∙ k) (f.are_new k new);
  below = λ next all old. g.below next (f.still_below next all) (f.below next all old);
  still_below = λ next all. g.still_below next (f.still_below next all);
  room = λ room. g.room (f.room room);
}

incarnation_more : (left after es : List (Inc × Incarnation)) (i : Inc) (x : Incarnation) → lookup (same_inc i) after ≡ None → insert_entry inc_cmp after i x ≡ es
    → AreNewIncarnations left es → AreNewIncarnations (left ++ (i, x) ∷ []) after
incarnation_more [] after es i x absent put new = (absent, tt)
incarnation_more (e ∷ left) after es i x absent put new = (
  ap (lookup (same_inc e.0)) (incarnations_with_more left i x after ∙ ap (incarnations_with left) put) ∙ new.0,
  incarnation_more left after es i x absent put new.1,
)

pub found_below : (next : Inc) (es : List (Inc × Incarnation)) (i : Inc) (x : Incarnation) → AreBelow next es → lookup (same_inc i) es ≡ Some x → i.0 < next.0
found_below next [] i x all there = absurd (cc)
found_below next (e ∷ es) i x all there = by (same_inc i e.0) refl there (found_below next es i x all.1)
  where
    by : (b : Bool) → same_inc i e.0 ≡ b → cond b (Some e.1) (lookup (same_inc i) es) ≡ Some x → (lookup (same_inc i) es ≡ Some x → i.0 < next.0) → i.0 < next.0
    by true is found later = subst (λ (k : Inc). k.0 < next.0) (sym (inc_same i e.0 is)) all.0
    by false is found later = later found

pub incarnation_went : (es : List (Inc × Incarnation)) (i : Inc) (x : Incarnation) (r : Removal) → IsStrictlySortedBy inc_cmp (keys_of es) → lookup (same_inc i) es ≡ Some x
    → IncarnationsWent es (remove_entry (same_inc i) es) r (with_incarnation r i x)
incarnation_went es i x r sorted there = by r.keeps refl
  where
    after : List (Inc × Incarnation)
    after = remove_entry (same_inc i) es

    kept : Removal
    kept = record r { left = r.left ++ (i, x) ∷ []; incarnations_room = r.incarnations_room - 1 }

    by : (b : Bool) → r.keeps ≡ b → IncarnationsWent es after r (cond b kept r)
    by true is = record {
      keeps = refl;
      gone = refl;
      gone_room = refl;
      put_back = λ k. incarnations_with_more r.left i x after ∙ ap (incarnations_with r.left) (incarnation_put_back es i x sorted there);
      are_new = λ k new. incarnation_more r.left after es i x (inc_absent es i sorted) (incarnation_put_back es i x sorted there) new;
      below = λ next all old. all_more (λ (k : Inc). k.0 < next.0) r.left (i, x) old (found_below next es i x all there);
      still_below = λ next all. all_but (λ (k : Inc). k.0 < next.0) (same_inc i) es all;
      room = λ room k. let all : length es ≤ r.incarnations_room = room k in let one : length after + 1 ≡ length es = fewer (same_inc i) es x there in omega arith;
    }
    by false is = record {
      keeps = refl;
      gone = refl;
      gone_room = refl;
      put_back = λ k. absurd (cc);
      are_new = λ k new. absurd (cc);
      below = λ next all old. old;
      still_below = λ next all. all_but (λ (k : Inc). k.0 < next.0) (same_inc i) es all;
      room = λ room k. absurd (cc);
    }
