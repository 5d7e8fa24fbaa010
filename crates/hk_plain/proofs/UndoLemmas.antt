-- What is put back, and what goes again.
use Rattle.std.proofs.Common.{◌≡◌, ℕ, zero, suc, ◌+◌, ◌-◌, ◌<◌, ◌≤◌, List, [], ◌∷◌, ◌++◌, length, take, drop, get_or, set, Bool, true, false, cond, Option, Some, None, refl, sym, ◌∙◌, ap, arith, subst}
use mathlib.Core.Logic.{inl, inr}
use Rattle.std.specs.Prelude.{◌⊎◌, is_some, not, slice_get}
use Rattle.std.specs.Option.{unwrap_or}
use Rattle.std.specs.List.{flat_map}
use Rattle.std.specs.Map.{lookup, remove_entry}
use Rattle.std.specs.BTreeMap.{insert_entry}
use Rattle.std.specs.Ordering.{nat_cmp, is_eq, match_ordering}
use Rattle.std.specs.declared.cmp.Ordering.{Ordering}
use Rattle.std.specs.declared.cmp.Ordering.TheVariants.{Less, Equal, Greater}
use Rattle.std.proofs.lemmas.List.{take_more, take_all, at_drop_more, append-nil, length-drop}
use Rattle.std.proofs.lemmas.Grind.{flat_map-append}
use Rattle.std.proofs.lemmas.Bool.Decides.{nat_tests}
use Rattle.hk_model.specs.declared.names.Name.{Name}
use Rattle.hk_model.specs.declared.names.Inc.{Inc}
use Rattle.hk_model.specs.declared.names.Proc.{Proc}
use Rattle.hk_model.specs.declared.names.Cpu.{Cpu}
use Rattle.hk_model.specs.declared.objects.Object.{Object}
use Rattle.hk_model.specs.declared.objects.Incarnation.{Incarnation}
use Rattle.hk_model.specs.declared.objects.Process.{Process}
use Rattle.hk_model.specs.declared.objects.ProcessState.{ProcessState}
use Rattle.hk_model.specs.declared.objects.ProcessState.TheVariants.{Running}
use Rattle.hk_model.specs.State.{State, object, process, same_name, same_inc, name_cmp, inc_cmp, put_object, put_process, no_object}
use Rattle.hk_model.specs.Processors.{runner}
use Rattle.hk_model.specs.Keeping.{is_among}
use Rattle.hk_model.proofs.Keeping.{of_all}
use Rattle.hk_running.specs.Runners.{process_at}
use Rattle.hk_plain.specs.Counts.{Tally, times, Moved, AreCounted, inner_names}
use Rattle.hk_plain.specs.Changes.{objects_with, incarnations_with, AreNewObjects, AreNewIncarnations, CanRun}
use Rattle.hk_plain.specs.Restoring.{objects_without, incarnations_without}
use Rattle.hk_plain.proofs.Maps.{set_value_absent}
use Rattle.hk_plain.proofs.CountLemmas.{times_none, times_both, alike}
use Rattle.hk_plain.proofs.CountedParts.{counted_beside}

-- ---- lists and maps

-- the last goes
pub popped_moved : {A : Type 0} (names : A → List Name) (a b : Tally) (xs : List A) (i : ℕ) (y : A) → i + 1 ≡ length xs → y ≡ get_or xs i y → Moved a b [] (names y)
    → Moved a b (flat_map names (take (length xs - 1) xs)) (flat_map names xs)
popped_moved names a b xs i y many is f =
    let at : length xs - 1 ≡ i = omega arith in
    let whole : take i xs ++ y ∷ [] ≡ xs = ap (λ z. take i xs ++ z ∷ []) is ∙ (sym (take_more xs i y (omega arith)) ∙ take_all (i + 1) xs (omega arith)) in
    rw at (alike a b [] (names y) (flat_map names (take i xs)) (flat_map names xs) (λ n.
    let p : times n (flat_map names xs) ≡ times n (flat_map names (take i xs)) + times n (names y) =
    ap (λ ys. times n (flat_map names ys)) (sym whole)
    ∙ (ap (times n) (flat_map-append names (take i xs) (y ∷ []) ∙ ap (λ (ys : List Name). flat_map names (take i xs) ++ ys) (append-nil (names y)))
    ∙ times_both n (flat_map names (take i xs)) (names y)) in
    let q = times_none n in
    omega (arith, p, q)) f)

-- what stands after one went stood before
pub stood_before : {A : Type 0} (b : Bool) (x y : Option A) (o : A) → x ≡ cond b None y → x ≡ Some o → y ≡ Some o
stood_before true x y o is there = absurd (cc)
stood_before false x y o is there = sym is ∙ there

-- one more object stands, which is on the list
pub counted_inserted : (live : List (Inc × Incarnation)) (ps : List Process) (objects objects' : List (Name × Object)) (t u t' : Tally) (name : Name) (o : Object)
    → AreCounted live ps objects t → Moved t u [] [] → is_among name u.lost ≡ true → objects' ≡ insert_entry name_cmp objects name o
    → Moved u t' (inner_names objects') (inner_names objects) → AreCounted live ps objects' t'
counted_inserted live ps objects objects' t u t' name o h f listed is g =
    counted_beside live ps objects objects' t u t' name o (λ n. true) h f listed (is ∙ ap (λ (es : List (Name × Object)). insert_entry name_cmp es name o) (sym (of_all objects))) g

-- ---- parts

-- who waits is written over, where the object stands
pub waiters_written : (s : State) (name : Name) (waiters : List Proc) (first : Proc) → ((o : Object) → lookup (same_name name) s.objects ≡ Some o → waiters ≡ first ∷ o.waiters)
    → put_object s name (record (object s name) { waiters = waiters }) ≡ put_object s name (record (object s name) { waiters = first ∷ (object s name).waiters })
waiters_written s name waiters first waited = by (lookup (same_name name) s.objects) refl
  where
    absent : (w : Object) → lookup (same_name name) s.objects ≡ None → put_object s name w ≡ s
    absent w none = ap (λ (es : List (Name × Object)). record s { objects = es }) (set_value_absent (same_name name) s.objects w none)

    by : (found : Option Object) → lookup (same_name name) s.objects ≡ found
        → put_object s name (record (object s name) { waiters = waiters }) ≡ put_object s name (record (object s name) { waiters = first ∷ (object s name).waiters })
    by None none =
        absent (record (object s name) { waiters = waiters }) none ∙ sym (absent (record (object s name) { waiters = first ∷ (object s name).waiters }) none)
    by (Some o) there =
        let is : object s name ≡ o = ap (λ (x : Option Object). unwrap_or x no_object) there in
        let same : waiters ≡ first ∷ (object s name).waiters = waited o there ∙ ap (λ (x : Object). first ∷ x.waiters) (sym is) in
        ap (λ (ws : List Proc). put_object s name (record (object s name) { waiters = ws })) same

-- ---- processes

set_same : (ps : List Process) (i : ℕ) → set ps i (process_at ps i) ≡ ps
set_same [] i = refl
set_same (p ∷ ps) zero = refl
set_same (p ∷ ps) (suc i) = ap (λ (qs : List Process). p ∷ qs) (set_same ps i)

-- a process does what it does
pub runs_still : (s : State) (proc : Proc) (run : ProcessState) → (process s proc).run ≡ run → s ≡ put_process s proc (record (process s proc) { run = run })
runs_still s proc run is =
    let same : record (process s proc) { run = run } ≡ process s proc = ap (λ (r : ProcessState). record (process s proc) { run = r }) (sym is) in
    sym (ap (λ (p : Process). put_process s proc p) same ∙ ap (λ (ps : List Process). record s { processes = ps }) (set_same s.processes proc.0))

pub runs_on : (s : State) (proc : Proc) (cpu : Cpu) (found : Option Proc) (b : Bool) → CanRun s proc (Running cpu) → found ≡ runner s cpu → is_some found ≡ not b → b ≡ false
    → s ≡ put_process s proc (record (process s proc) { run = Running cpu })
runs_on s proc cpu found b can is test busy = by can.1
  where
    by : ((process s proc).run ≡ Running cpu) ⊎ (runner s cpu ≡ None) → s ≡ put_process s proc (record (process s proc) { run = Running cpu })
    by (inl runs) = runs_still s proc (Running cpu) runs
    by (inr idle) = absurd (cc)

-- a process does what it did, and has the current incarnation that it had
pub run_and_current : (ps : List Process) (i : ℕ) (old : Process)
    → set (set ps i (record (process_at ps i) { run = old.run })) i
    (record (process_at (set ps i (record (process_at ps i) { run = old.run })) i) { current = old.current }) ≡ set ps i old
run_and_current [] i old = refl
run_and_current (p ∷ ps) zero old = refl
run_and_current (p ∷ ps) (suc i) old = ap (λ (qs : List Process). p ∷ qs) (run_and_current ps i old)

-- ---- one more is put back

pub put_more : (gone : List (Name × Object)) (i : ℕ) (e : Name × Object) (objects : List (Name × Object)) → i < length gone → e ≡ get_or gone i e
    → objects_with (drop i gone) objects ≡ insert_entry name_cmp (objects_with (drop (i + 1) gone) objects) e.0 e.1
put_more gone i e objects there is =
    at_drop_more (λ (es : List (Name × Object)). objects_with es objects) gone i e there
    ∙ ap (λ (x : Name × Object). insert_entry name_cmp (objects_with (drop (i + 1) gone) objects) x.0 x.1) (sym is)

pub lives_more : (left : List (Inc × Incarnation)) (i : ℕ) (e : Inc × Incarnation) (live : List (Inc × Incarnation)) → i < length left → e ≡ get_or left i e
    → incarnations_with (drop i left) live ≡ insert_entry inc_cmp (incarnations_with (drop (i + 1) left) live) e.0 e.1
lives_more left i e live there is =
    at_drop_more (λ (es : List (Inc × Incarnation)). incarnations_with es live) left i e there
    ∙ ap (λ (x : Inc × Incarnation). insert_entry inc_cmp (incarnations_with (drop (i + 1) left) live) x.0 x.1) (sym is)

-- what is left is new too
pub rest_new : (gone : List (Name × Object)) (i : ℕ) (objects : List (Name × Object)) → AreNewObjects gone objects → AreNewObjects (drop i gone) objects
rest_new gone zero objects h = h
rest_new [] (suc i) objects h = h
rest_new (e ∷ gone) (suc i) objects h = rest_new gone i objects h.1

pub rest_absent : (left : List (Inc × Incarnation)) (i : ℕ) (live : List (Inc × Incarnation)) → AreNewIncarnations left live → AreNewIncarnations (drop i left) live
rest_absent left zero live h = h
rest_absent [] (suc i) live h = h
rest_absent (e ∷ left) (suc i) live h = rest_absent left i live h.1

pub absent_at : (left : List (Inc × Incarnation)) (i : ℕ) (e : Inc × Incarnation) (live : List (Inc × Incarnation)) → i < length left → e ≡ get_or left i e
    → AreNewIncarnations left live → lookup (same_inc e.0) (incarnations_with (drop (i + 1) left) live) ≡ None
absent_at left i e live there is h =
    let first : AreNewIncarnations (get_or left i e ∷ drop (i + 1) left) live =
    subst (λ (es : List (Inc × Incarnation)). AreNewIncarnations es live) (at_drop_more (λ (es : List (Inc × Incarnation)). es) left i e there) (rest_absent left i live h) in
    subst (λ (x : Inc × Incarnation). lookup (same_inc x.0) (incarnations_with (drop (i + 1) left) live) ≡ None) (sym is) first.0

pub below_at : (left : List (Inc × Incarnation)) (i : ℕ) (e : Inc × Incarnation) (next : ℕ) → i < length left → e ≡ get_or left i e
    → ((x : Inc × Incarnation) → (k : ℕ) → slice_get left k ≡ Some x → x.0.0 < next) → e.0.0 < next
below_at left i e next there is below = below e i (found left i e there ∙ ap (λ (x : Inc × Incarnation). Some x) (sym is))
  where
    found : (xs : List (Inc × Incarnation)) (k : ℕ) (d : Inc × Incarnation) → k < length xs → slice_get xs k ≡ Some (get_or xs k d)
    found [] k d h = absurd (omega arith)
    found (x ∷ xs) zero d h = refl
    found (x ∷ xs) (suc k) d h = found xs k d (omega arith)

-- ---- what was put back goes again

module _ {K : Type 0} (number : K → ℕ) where
  abbrev by_number : K → K → Ordering
  by_number a b = nat_cmp (number a) (number b)

  remove_put : {X : Type 0} (es : List (K × X)) (k : K) (x : X) → lookup (λ (j : K). is_eq (by_number k j)) es ≡ None
      → remove_entry (λ (j : K). is_eq (by_number k j)) (insert_entry by_number es k x) ≡ es
  remove_put {X = X} [] k x none = let it : is_eq (by_number k k) ≡ true = itself (number k) in rw it refl
    where
      itself : (n : ℕ) → is_eq (nat_cmp n n) ≡ true
      itself n = grind (arith, nat_tests)
  remove_put {X = X} (e ∷ es) k x none = by (remove_put es k x) (by_number k e.0) refl none
    where
      itself : (n : ℕ) → is_eq (nat_cmp n n) ≡ true
      itself n = grind (arith, nat_tests)

      by : (lookup (λ (j : K). is_eq (by_number k j)) es ≡ None → remove_entry (λ (j : K). is_eq (by_number k j)) (insert_entry by_number es k x) ≡ es)
          → (r : Ordering) → by_number k e.0 ≡ r
          → cond (is_eq r) (Some e.1) (lookup (λ (j : K). is_eq (by_number k j)) es) ≡ None
          → remove_entry (λ (j : K). is_eq (by_number k j)) (match_ordering r ((k, x) ∷ e ∷ es) ((e.0, x) ∷ es) (e ∷ insert_entry by_number es k x)) ≡ e ∷ es
      by rest Less c absent = let it : is_eq (by_number k k) ≡ true = itself (number k) in rw it refl
      by rest Equal c absent = absurd (cc)
      by rest Greater c absent = rw c (ap (λ (ys : List (K × X)). e ∷ ys) (rest absent))

pub all_out : (gone objects : List (Name × Object)) → AreNewObjects gone objects → objects_without gone (objects_with gone objects) ≡ objects
all_out [] objects h = refl
all_out (e ∷ gone) objects h =
    ap (objects_without gone) (remove_put (λ (n : Name). n.0) (objects_with gone objects) e.0 e.1 h.0) ∙ all_out gone objects h.1

pub all_left : (left live : List (Inc × Incarnation)) → AreNewIncarnations left live → incarnations_without left (incarnations_with left live) ≡ live
all_left [] live h = refl
all_left (e ∷ left) live h =
    ap (incarnations_without left) (remove_put (λ (i : Inc). i.0) (incarnations_with left live) e.0 e.1 h.0) ∙ all_left left live h.1

-- ---- where memory is short, the state is what it was

rest_of : {X : Type 0} (xs : List X) (i j : ℕ) → j ≡ i → take (length xs - j) (drop j xs) ≡ drop i xs
rest_of xs i j same =
    let few : length (drop j xs) ≤ length xs - j = omega (arith, length-drop j xs) in
    take_all (length xs - j) (drop j xs) few ∙ ap (λ (k : ℕ). drop k xs) same

pub taken_again : (s t after : State) (gone : List (Name × Object)) (at : ℕ) → 0 < at → AreNewObjects gone s.objects
    → t ≡ record s { objects = objects_with (drop at gone) s.objects }
    → after ≡ record t { objects = objects_without (take (length gone - (at - 1 + 1)) (drop (at - 1 + 1) gone)) t.objects } → after ≡ s
taken_again s t after gone at some new is taken =
    taken
    ∙ ap (λ (es : List (Name × Object)). record t { objects = objects_without es t.objects }) (rest_of gone at (at - 1 + 1) (omega arith))
    ∙ ap (λ (u : State). record u { objects = objects_without (drop at gone) u.objects }) is
    ∙ ap (λ (es : List (Name × Object)). record s { objects = es }) (all_out (drop at gone) s.objects (rest_new gone at s.objects new))

pub left_again : (s t after : State) (left : List (Inc × Incarnation)) (at : ℕ) → 0 < at → AreNewIncarnations left s.incarnations
    → t ≡ record s { incarnations = incarnations_with (drop at left) s.incarnations }
    → after ≡ record t { incarnations = incarnations_without (take (length left - (at - 1 + 1)) (drop (at - 1 + 1) left)) t.incarnations } → after ≡ s
left_again s t after left at some new is taken =
    taken
    ∙ ap (λ (es : List (Inc × Incarnation)). record t { incarnations = incarnations_without es t.incarnations }) (rest_of left at (at - 1 + 1) (omega arith))
    ∙ ap (λ (u : State). record u { incarnations = incarnations_without (drop at left) u.incarnations }) is
    ∙ ap (λ (es : List (Inc × Incarnation)). record s { incarnations = es }) (all_left (drop at left) s.incarnations (rest_absent left at s.incarnations new))

pub next_absent : (s t : State) (left : List (Inc × Incarnation)) (at : ℕ) (e : Inc × Incarnation) → 0 < at → at ≤ length left → e ≡ get_or left (at - 1) e
    → AreNewIncarnations left s.incarnations → t ≡ record s { incarnations = incarnations_with (drop at left) s.incarnations } → lookup (same_inc e.0) t.incarnations ≡ None
next_absent s t left at e some within is new same =
    let here : at - 1 + 1 ≡ at = omega arith in
    ap (λ (u : State). lookup (same_inc e.0) u.incarnations) same
    ∙ ap (λ (k : ℕ). lookup (same_inc e.0) (incarnations_with (drop k left) s.incarnations)) (sym here)
    ∙ absent_at left (at - 1) e s.incarnations (omega arith) is new

pub all_taken : (s t after : State) (gone : List (Name × Object)) → AreNewObjects gone s.objects → t ≡ record s { objects = objects_with gone s.objects }
    → after ≡ record t { objects = objects_without gone t.objects } → after ≡ s
all_taken s t after gone new is taken =
    taken
    ∙ ap (λ (u : State). record u { objects = objects_without gone u.objects }) is
    ∙ ap (λ (es : List (Name × Object)). record s { objects = es }) (all_out gone s.objects new)

pub none_lives : (s t after : State) (left : List (Inc × Incarnation)) → AreNewIncarnations left s.incarnations
    → t ≡ record s { incarnations = incarnations_with left s.incarnations } → after ≡ record t { incarnations = incarnations_without left t.incarnations } → after ≡ s
none_lives s t after left new is taken =
    taken
    ∙ ap (λ (u : State). record u { incarnations = incarnations_without left u.incarnations }) is
    ∙ ap (λ (es : List (Inc × Incarnation)). record s { incarnations = es }) (all_left left s.incarnations new)
