-- Entries of ordered lists that go and are put back, that are put in and go, and that are written and written back.
use Rattle.std.proofs.Common.{◌≡◌, ℕ, ◌+◌, ◌<◌, ◌≤◌, List, [], ◌∷◌, ◌++◌, Bool, true, false, Option, Some, None, cond, refl, sym, ◌∙◌, ap, subst, arith}
use Rattle.std.specs.Prelude.{filter}
use Rattle.std.specs.Map.{lookup, set_value, remove_entry, keys_of}
use Rattle.std.specs.Option.{unwrap_or}
use Rattle.std.specs.BTreeMap.{insert_entry}
use Rattle.std.specs.Cmp.{IsTotalOrder}
use Rattle.std.specs.List.{AllByRecursion}
use Rattle.std.specs.List.Sorted.{IsStrictlySortedBy}
use Rattle.std.specs.Ordering.{nat_cmp, is_eq, match_ordering, ordering_reverse}
use Rattle.std.specs.declared.cmp.Ordering.{Ordering}
use Rattle.std.specs.declared.cmp.Ordering.TheVariants.{Less, Equal, Greater}
use Rattle.std.proofs.lemmas.Bool.Decides.{nat_tests}
use Rattle.std.proofs.lemmas.Cmp.{tied_itself}
use Rattle.std.proofs.lemmas.Map.{lookup-none, keys-set_value}
use Rattle.std.proofs.lemmas.Map.Keys.{sorted_head, sorted_tail}
use Rattle.std.proofs.lemmas.Map.Entries.{none_below_head}
use Rattle.hk_model.specs.declared.names.Name.{Name}
use Rattle.hk_model.specs.declared.names.Inc.{Inc}
use Rattle.hk_model.specs.declared.objects.Object.{Object}
use Rattle.hk_model.specs.declared.objects.Incarnation.{Incarnation}
use Rattle.hk_model.specs.State.{name_cmp, inc_cmp, same_name, same_inc}
use Rattle.hk_model.proofs.Standing.{name_same, inc_same}
use Rattle.hk_plain.proofs.Maps.{set_value_absent, set_value_same}
use Rattle.hk_plain.proofs.CountedParts.{name_order, inc_order}
use Rattle.hk_plain.specs.Stacks.{Rises}
use Rattle.hk_plain.specs.Changes.{objects_with, incarnations_with}

-- one more that goes, the last
pub objects_with_more : (gone : List (Name × Object)) (n : Name) (o : Object) (objects : List (Name × Object))
    → objects_with (gone ++ (n, o) ∷ []) objects ≡ objects_with gone (insert_entry name_cmp objects n o)
objects_with_more [] n o objects = refl
objects_with_more (e ∷ gone) n o objects = ap (λ (es : List (Name × Object)). insert_entry name_cmp es e.0 e.1) (objects_with_more gone n o objects)

pub incarnations_with_more : (left : List (Inc × Incarnation)) (i : Inc) (x : Incarnation) (live : List (Inc × Incarnation))
    → incarnations_with (left ++ (i, x) ∷ []) live ≡ incarnations_with left (insert_entry inc_cmp live i x)
incarnations_with_more [] i x live = refl
incarnations_with_more (e ∷ left) i x live = ap (λ (es : List (Inc × Incarnation)). insert_entry inc_cmp es e.0 e.1) (incarnations_with_more left i x live)

-- ---- a value that is written and written back

module _ {K X : Type 0} (test : K → Bool) where
  pub lookup_set : (es : List (K × X)) (w v : X) → lookup test es ≡ Some v → lookup test (set_value test es w) ≡ Some w
  lookup_set [] w v there = absurd (cc)
  lookup_set (e ∷ es) w v there = by (test e.0) refl there (lookup_set es w v)
    where
      by : (b : Bool) → test e.0 ≡ b → cond b (Some e.1) (lookup test es) ≡ Some v → (lookup test es ≡ Some v → lookup test (set_value test es w) ≡ Some w)
          → lookup test (cond b ((e.0, w) ∷ es) (e ∷ set_value test es w)) ≡ Some w
      by true is found later = rw is refl
      by false is found later = rw is (later found)

  pub set_set : (es : List (K × X)) (w v : X) → set_value test (set_value test es w) v ≡ set_value test es v
  set_set [] w v = refl
  set_set (e ∷ es) w v = by (test e.0) refl (set_set es w v)
    where
      by : (b : Bool) → test e.0 ≡ b → set_value test (set_value test es w) v ≡ set_value test es v
          → set_value test (cond b ((e.0, w) ∷ es) (e ∷ set_value test es w)) v ≡ cond b ((e.0, v) ∷ es) (e ∷ set_value test es v)
      by true is rest = rw is refl
      by false is rest = rw is (ap (λ (more : List (K × X)). e ∷ more) rest)

  -- what leads back from the new value leads the list back; where nothing stands, nothing is written
  pub set_back : (es : List (K × X)) (none w : X) (back : X → X) → back w ≡ unwrap_or (lookup test es) none
      → set_value test (set_value test es w) (back (unwrap_or (lookup test (set_value test es w)) none)) ≡ es
  set_back es none w back leads = by (lookup test es) refl leads
    where
      by : (o : Option X) → lookup test es ≡ o → back w ≡ unwrap_or o none
          → set_value test (set_value test es w) (back (unwrap_or (lookup test (set_value test es w)) none)) ≡ es
      by None absent same = rw (set_value_absent test es w absent) (set_value_absent test es (back (unwrap_or (lookup test es) none)) absent)
      by (Some v) there same =
          let found : lookup test (set_value test es w) ≡ Some w = lookup_set es w v there in
          rw (found, same) (set_set es w v ∙ set_value_same test es v there)

-- nothing goes where nothing stands
pub remove_absent : {K X : Type 0} (test : K → Bool) (es : List (K × X)) → lookup test es ≡ None → remove_entry test es ≡ es
remove_absent test [] absent = refl
remove_absent test (e ∷ es) absent = by (test e.0) absent (remove_absent test es)
  where
    by : (b : Bool) → cond b (Some e.1) (lookup test es) ≡ None → (lookup test es ≡ None → remove_entry test es ≡ es) → cond b es (e ∷ remove_entry test es) ≡ e ∷ es
    by true none later = absurd (cc)
    by false none later = ap (λ (rest : List (_ × _)). e ∷ rest) (later none)

-- ---- an entry that is put in and goes, or goes and is put back

abbrev pub same_key : {K : Type 0} → (K → K → Ordering) → K → K → Bool
same_key cmp k q = is_eq (cmp k q)

above_all : {K : Type 0} (cmp : K → K → Ordering) → IsTotalOrder cmp → (k q : K) (ks : List K) → cmp k q ≡ Less → AllByRecursion (λ (y : K). cmp q y ≡ Less) ks
    → AllByRecursion (λ (y : K). cmp k y ≡ Less) ks
above_all cmp order k q [] less all = tt
above_all cmp order k q (y ∷ ks) less all = (order.trans k q y less all.0, above_all cmp order k q ks less all.1)

module _ {K X : Type 0} (cmp : K → K → Ordering) (order : IsTotalOrder cmp) (one : (x y : K) → is_eq (cmp x y) ≡ true → x ≡ y) where
  -- before all others
  pub put_first : (k : K) (x : X) (es : List (K × X)) → AllByRecursion (λ (q : K). cmp k q ≡ Less) (keys_of es) → insert_entry cmp es k x ≡ (k, x) ∷ es
  put_first k x [] below = refl
  put_first k x (e ∷ es) below = rw below.0 refl

  pub put_back : (es : List (K × X)) (k : K) (x : X) → IsStrictlySortedBy cmp (keys_of es) → lookup (same_key cmp k) es ≡ Some x
      → insert_entry cmp (remove_entry (same_key cmp k) es) k x ≡ es
  put_back [] k x sorted there = absurd (cc)
  put_back (e ∷ es) k x sorted there = by (cmp k e.0) refl there (put_back es k x (sorted_tail cmp e.0 (keys_of es) sorted))
    where
      by : (o : Ordering) → cmp k e.0 ≡ o → cond (is_eq o) (Some e.1) (lookup (same_key cmp k) es) ≡ Some x
          → (lookup (same_key cmp k) es ≡ Some x → insert_entry cmp (remove_entry (same_key cmp k) es) k x ≡ es)
          → insert_entry cmp (cond (is_eq o) es (e ∷ remove_entry (same_key cmp k) es)) k x ≡ e ∷ es
      by Less is found later = let none : lookup (same_key cmp k) es ≡ None = lookup-none (same_key cmp k) es (none_below_head order k e es sorted is).1 in absurd (cc)
      by Equal is found later =
          let is_key : k ≡ e.0 = one k e.0 (ap is_eq is) in
          let is_value : e.1 ≡ x = cc in
          rw (is_key, ← is_value) (put_first e.0 e.1 es (sorted_head cmp e.0 (keys_of es) sorted))
      by Greater is found later = rw is (ap (λ (rest : List (K × X)). e ∷ rest) (later found))

  pub taken_out : (es : List (K × X)) (k : K) (x : X) → lookup (same_key cmp k) es ≡ None → remove_entry (same_key cmp k) (insert_entry cmp es k x) ≡ es
  taken_out [] k x absent = rw (tied_itself order k) refl
  taken_out (e ∷ es) k x absent = by (cmp k e.0) refl absent (taken_out es k x)
    where
      by : (o : Ordering) → cmp k e.0 ≡ o → cond (is_eq o) (Some e.1) (lookup (same_key cmp k) es) ≡ None
          → (lookup (same_key cmp k) es ≡ None → remove_entry (same_key cmp k) (insert_entry cmp es k x) ≡ es)
          → remove_entry (same_key cmp k) (match_ordering o ((k, x) ∷ e ∷ es) ((e.0, x) ∷ es) (e ∷ insert_entry cmp es k x)) ≡ e ∷ es
      by Less is none later = rw (tied_itself order k) refl
      by Equal is none later = absurd (cc)
      by Greater is none later = rw is (ap (λ (rest : List (K × X)). e ∷ rest) (later none))

  -- what stands at a key after an entry is put in
  pub lookup_inserted : (es : List (K × X)) (k q : K) (x : X) → lookup (same_key cmp q) (insert_entry cmp es k x)
      ≡ cond (same_key cmp q k) (Some x) (lookup (same_key cmp q) es)
  lookup_inserted [] k q x = refl
  lookup_inserted (e ∷ es) k q x = by (cmp k e.0) refl (lookup_inserted es k q x)
    where
      by : (o : Ordering) → cmp k e.0 ≡ o → lookup (same_key cmp q) (insert_entry cmp es k x) ≡ cond (same_key cmp q k) (Some x) (lookup (same_key cmp q) es)
          → lookup (same_key cmp q) (match_ordering o ((k, x) ∷ e ∷ es) ((e.0, x) ∷ es) (e ∷ insert_entry cmp es k x))
          ≡ cond (same_key cmp q k) (Some x) (cond (same_key cmp q e.0) (Some e.1) (lookup (same_key cmp q) es))
      by Less is rest = refl
      by Equal is rest = let is_key : k ≡ e.0 = one k e.0 (ap is_eq is) in rw is_key (twice (same_key cmp q e.0))
        where
          twice : (b : Bool) → cond b (Some x) (lookup (same_key cmp q) es) ≡ cond b (Some x) (cond b (Some e.1) (lookup (same_key cmp q) es))
          twice true = refl
          twice false = refl
      by Greater is rest = rw rest (turned (same_key cmp q e.0) refl (same_key cmp q k) refl)
        where
          turned : (b : Bool) → same_key cmp q e.0 ≡ b → (c : Bool) → same_key cmp q k ≡ c
              → cond b (Some e.1) (cond c (Some x) (lookup (same_key cmp q) es)) ≡ cond c (Some x) (cond b (Some e.1) (lookup (same_key cmp q) es))
          turned true here true there =
              let at_head : q ≡ e.0 = one q e.0 here in
              let at_key : q ≡ k = one q k there in
              let equal : cmp k e.0 ≡ Equal = subst (λ (y : K). cmp k y ≡ Equal) (sym at_key ∙ at_head) (tied_itself order k) in absurd (cc)
          turned true here false there = refl
          turned false here true there = refl
          turned false here false there = refl

  -- a write at another key and an entry that is put in
  pub set_inserted : (es : List (K × X)) (k q : K) (x w : X) → same_key cmp q k ≡ false
      → set_value (same_key cmp q) (insert_entry cmp es k x) w ≡ insert_entry cmp (set_value (same_key cmp q) es w) k x
  set_inserted [] k q x w other = rw other refl
  set_inserted (e ∷ es) k q x w other = by (cmp k e.0) refl (set_inserted es k q x w other)
    where
      by : (o : Ordering) → cmp k e.0 ≡ o → set_value (same_key cmp q) (insert_entry cmp es k x) w ≡ insert_entry cmp (set_value (same_key cmp q) es w) k x
          → set_value (same_key cmp q) (match_ordering o ((k, x) ∷ e ∷ es) ((e.0, x) ∷ es) (e ∷ insert_entry cmp es k x)) w
          ≡ insert_entry cmp (cond (same_key cmp q e.0) ((e.0, w) ∷ es) (e ∷ set_value (same_key cmp q) es w)) k x
      by Less is rest = rw other (front (same_key cmp q e.0))
        where
          front : (b : Bool) → (k, x) ∷ cond b ((e.0, w) ∷ es) (e ∷ set_value (same_key cmp q) es w)
              ≡ insert_entry cmp (cond b ((e.0, w) ∷ es) (e ∷ set_value (same_key cmp q) es w)) k x
          front true = rw is refl
          front false = rw is refl
      by Equal is rest =
          let is_key : k ≡ e.0 = one k e.0 (ap is_eq is) in
          let apart : same_key cmp q e.0 ≡ false = subst (λ (y : K). same_key cmp q y ≡ false) is_key other in
          rw (apart, is) refl
      by Greater is rest = behind (same_key cmp q e.0)
        where
          behind : (b : Bool) → cond b ((e.0, w) ∷ insert_entry cmp es k x) (e ∷ set_value (same_key cmp q) (insert_entry cmp es k x) w)
              ≡ insert_entry cmp (cond b ((e.0, w) ∷ es) (e ∷ set_value (same_key cmp q) es w)) k x
          behind true = rw is refl
          behind false = rw is (ap (λ (es : List (K × X)). e ∷ es) rest)

  -- the order stays

  all_inserted : (P : K → Type 0) (es : List (K × X)) (k : K) (x : X) → P k → AllByRecursion P (keys_of es) → AllByRecursion P (keys_of (insert_entry cmp es k x))
  all_inserted P [] k x here all = (here, tt)
  all_inserted P (e ∷ es) k x here all = by (cmp k e.0) (all_inserted P es k x here all.1)
    where
      by : (o : Ordering) → AllByRecursion P (keys_of (insert_entry cmp es k x))
          → AllByRecursion P (keys_of (match_ordering o ((k, x) ∷ e ∷ es) ((e.0, x) ∷ es) (e ∷ insert_entry cmp es k x)))
      by Less rest = (here, all)
      by Equal rest = all
      by Greater rest = (all.0, rest)

  pub sorted_inserted : (es : List (K × X)) (k : K) (x : X) → IsStrictlySortedBy cmp (keys_of es) → IsStrictlySortedBy cmp (keys_of (insert_entry cmp es k x))
  unfolding IsStrictlySortedBy
  sorted_inserted [] k x sorted = (tt, tt)
  sorted_inserted (e ∷ es) k x sorted = by (cmp k e.0) refl (sorted_inserted es k x sorted.1)
    where
      by : (o : Ordering) → cmp k e.0 ≡ o → IsStrictlySortedBy cmp (keys_of (insert_entry cmp es k x))
          → IsStrictlySortedBy cmp (keys_of (match_ordering o ((k, x) ∷ e ∷ es) ((e.0, x) ∷ es) (e ∷ insert_entry cmp es k x)))
      by Less is rest = ((is, above_all cmp order k e.0 (keys_of es) is sorted.0), sorted)
      by Equal is rest = sorted
      by Greater is rest = (all_inserted (λ (y : K). cmp e.0 y ≡ Less) es k x (order.antisymm e.0 k ∙ ap ordering_reverse is) sorted.0, rest)

  all_removed : (P : K → Type 0) (test : K → Bool) (es : List (K × X)) → AllByRecursion P (keys_of es) → AllByRecursion P (keys_of (remove_entry test es))
  all_removed P test [] all = tt
  all_removed P test (e ∷ es) all = by (test e.0) (all_removed P test es all.1)
    where
      by : (b : Bool) → AllByRecursion P (keys_of (remove_entry test es)) → AllByRecursion P (keys_of (cond b es (e ∷ remove_entry test es)))
      by true rest = all.1
      by false rest = (all.0, rest)

  pub sorted_removed : (test : K → Bool) (es : List (K × X)) → IsStrictlySortedBy cmp (keys_of es) → IsStrictlySortedBy cmp (keys_of (remove_entry test es))
  unfolding IsStrictlySortedBy
  sorted_removed test [] sorted = tt
  sorted_removed test (e ∷ es) sorted = by (test e.0) (sorted_removed test es sorted.1)
    where
      by : (b : Bool) → IsStrictlySortedBy cmp (keys_of (remove_entry test es)) → IsStrictlySortedBy cmp (keys_of (cond b es (e ∷ remove_entry test es)))
      by true rest = sorted.1
      by false rest = (all_removed (λ (y : K). cmp e.0 y ≡ Less) test es sorted.0, rest)

  pub sorted_set : (test : K → Bool) (es : List (K × X)) (w : X) → IsStrictlySortedBy cmp (keys_of es) → IsStrictlySortedBy cmp (keys_of (set_value test es w))
  sorted_set test es w sorted = subst (IsStrictlySortedBy cmp) (sym (keys-set_value test es w)) sorted

  all_filtered : (P : K → Type 0) (p : K × X → Bool) (es : List (K × X)) → AllByRecursion P (keys_of es) → AllByRecursion P (keys_of (filter p es))
  all_filtered P p [] all = tt
  all_filtered P p (e ∷ es) all = by (p e) (all_filtered P p es all.1)
    where
      by : (b : Bool) → AllByRecursion P (keys_of (filter p es)) → AllByRecursion P (keys_of (cond b (e ∷ filter p es) (filter p es)))
      by true rest = (all.0, rest)
      by false rest = rest

  pub sorted_filtered : (p : K × X → Bool) (es : List (K × X)) → IsStrictlySortedBy cmp (keys_of es) → IsStrictlySortedBy cmp (keys_of (filter p es))
  unfolding IsStrictlySortedBy
  sorted_filtered p [] sorted = tt
  sorted_filtered p (e ∷ es) sorted = by (p e) (sorted_filtered p es sorted.1)
    where
      by : (b : Bool) → IsStrictlySortedBy cmp (keys_of (filter p es)) → IsStrictlySortedBy cmp (keys_of (cond b (e ∷ filter p es) (filter p es)))
      by true rest = (all_filtered (λ (y : K). cmp e.0 y ≡ Less) p es sorted.0, rest)
      by false rest = rest

-- ---- objects and incarnations by their numbers

pub object_put_back : (objects : List (Name × Object)) (n : Name) (o : Object) → IsStrictlySortedBy name_cmp (keys_of objects) → lookup (same_name n) objects ≡ Some o
    → insert_entry name_cmp (remove_entry (same_name n) objects) n o ≡ objects
object_put_back = put_back name_cmp name_order name_same

pub object_taken_out : (objects : List (Name × Object)) (n : Name) (o : Object) → lookup (same_name n) objects ≡ None
    → remove_entry (same_name n) (insert_entry name_cmp objects n o) ≡ objects
object_taken_out = taken_out name_cmp name_order name_same

pub incarnation_put_back : (live : List (Inc × Incarnation)) (i : Inc) (x : Incarnation) → IsStrictlySortedBy inc_cmp (keys_of live) → lookup (same_inc i) live ≡ Some x
    → insert_entry inc_cmp (remove_entry (same_inc i) live) i x ≡ live
incarnation_put_back = put_back inc_cmp inc_order inc_same

pub incarnation_taken_out : (live : List (Inc × Incarnation)) (i : Inc) (x : Incarnation) → lookup (same_inc i) live ≡ None
    → remove_entry (same_inc i) (insert_entry inc_cmp live i x) ≡ live
incarnation_taken_out = taken_out inc_cmp inc_order inc_same

pub sorted_objects_with : (gone objects : List (Name × Object)) → IsStrictlySortedBy name_cmp (keys_of objects)
    → IsStrictlySortedBy name_cmp (keys_of (objects_with gone objects))
sorted_objects_with [] objects sorted = sorted
sorted_objects_with (e ∷ gone) objects sorted = sorted_inserted name_cmp name_order name_same (objects_with gone objects) e.0 e.1 (sorted_objects_with gone objects sorted)

pub sorted_incarnations_with : (left live : List (Inc × Incarnation)) → IsStrictlySortedBy inc_cmp (keys_of live)
    → IsStrictlySortedBy inc_cmp (keys_of (incarnations_with left live))
sorted_incarnations_with [] live sorted = sorted
sorted_incarnations_with (e ∷ left) live sorted = sorted_inserted inc_cmp inc_order inc_same (incarnations_with left live) e.0 e.1 (sorted_incarnations_with left live sorted)

-- numbers that rise are in order, and the next one is new
rises_past : (n low : ℕ) (es : List (Inc × Incarnation)) (high : ℕ) → n < low → Rises low es high → AllByRecursion (λ (q : Inc). nat_cmp n q.0 ≡ Less) (keys_of es)
rises_past n low [] high less rises = tt
rises_past n low (e ∷ es) high less rises =
    (below n e.0.0 (omega (arith, rises.0)), rises_past n (e.0.0 + 1) es high (omega (arith, rises.0)) rises.1)
  where
    below : (a b : ℕ) → a < b → nat_cmp a b ≡ Less
    below a b h = grind (arith, nat_tests)

pub rises_sorted : (low : ℕ) (es : List (Inc × Incarnation)) (high : ℕ) → Rises low es high → IsStrictlySortedBy inc_cmp (keys_of es)
unfolding IsStrictlySortedBy
rises_sorted low [] high rises = tt
rises_sorted low (e ∷ es) high rises = (rises_past e.0.0 (e.0.0 + 1) es high (omega arith) rises.1, rises_sorted (e.0.0 + 1) es high rises.1)

rises_under : (low : ℕ) (es : List (Inc × Incarnation)) (high : ℕ) → Rises low es high → low ≤ high
rises_under low [] high rises = rises
rises_under low (e ∷ es) high rises = omega (arith, rises.0, rises_under (e.0.0 + 1) es high rises.1)

pub rises_new : (low : ℕ) (es : List (Inc × Incarnation)) (next : Inc) → Rises low es next.0 → lookup (same_inc next) es ≡ None
rises_new low [] next rises = refl
rises_new low (e ∷ es) next rises =
    let past : is_eq (nat_cmp next.0 e.0.0) ≡ false = apart e.0.0 next.0 (omega (arith, rises_under (e.0.0 + 1) es next.0 rises.1)) in
    rw past (rises_new (e.0.0 + 1) es next rises.1)
  where
    apart : (a b : ℕ) → a < b → is_eq (nat_cmp b a) ≡ false
    apart a b h = grind (arith, nat_tests)
