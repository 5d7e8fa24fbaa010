-- How the numbers follow the parts of the state, of which each names something.
use Rattle.std.proofs.Common.{◌≡◌, ℕ, zero, suc, ◌+◌, ◌-◌, ◌<◌, ◌≤◌, ◌==◌, nat_lt, List, [], ◌∷◌, ◌++◌, length, Bool, true, false, Option, Some, None, refl, sym, ◌∙◌, ap, arith}
use Rattle.std.proofs.Common.{cond, get_or, set, subst}
use mathlib.Core.Logic.{inl, inr}
use Rattle.std.specs.Prelude.{◌⊎◌, is_some, IfSome, IfNone, filter}
use Rattle.std.specs.Option.{unwrap_or, option_map, option_to_list}
use Rattle.std.specs.List.{flat_map, sum_by}
use Rattle.std.specs.List.Sorted.{IsStrictlySortedBy}
use Rattle.std.specs.Map.{lookup, set_value, remove_entry, values_of, keys_of}
use Rattle.std.specs.BTreeMap.{insert_entry, is_at}
use Rattle.std.specs.Cmp.{IsTotalOrder}
use Rattle.std.specs.Ordering.{match_ordering}
use Rattle.std.specs.declared.cmp.Ordering.{Ordering}
use Rattle.std.specs.declared.cmp.Ordering.TheVariants.{Less, Equal, Greater}
use Rattle.std.proofs.lemmas.List.Sums.{sum_by-cons, sum_by-set}
use Rattle.std.proofs.lemmas.Grind.{flat_map-append}
use Rattle.std.proofs.lemmas.List.{append-nil, get_or_default}
use Rattle.std.proofs.lemmas.Map.Entries.{sum_by-set_value, sum_by-remove_entry, sum_by-insert_entry}
use Rattle.hk_model.specs.declared.names.Name.{Name}
use Rattle.hk_model.specs.declared.names.Inc.{Inc}
use Rattle.hk_model.specs.declared.entries.Entry.{Entry}
use Rattle.hk_model.specs.Keeping.{entry_names, object_names, run_names, is_among, names_with, are_supporting, stands, kept_objects}
use Rattle.hk_model.specs.declared.objects.Object.{Object}
use Rattle.hk_model.specs.declared.objects.Incarnation.{Incarnation}
use Rattle.hk_model.specs.declared.objects.Process.{Process}
use Rattle.std.proofs.lemmas.Cmp.{nat_cmp_total}
use Rattle.hk_model.specs.State.{State, same_name, name_cmp, inc_cmp}
use Rattle.hk_model.proofs.Keeping.{of_all}
use Rattle.hk_model.proofs.KeepingLemmas.{all_kept}
use Rattle.std.proofs.lemmas.Bool.Decides.{nat_tests}
use Rattle.std.proofs.lemmas.Bool.{false≢true, false_from_ne_true}
use Rattle.hk_model.proofs.Standing.{on_cond, name_same}
use Rattle.hk_model.specs.declared.world.Task.{Task}
use Rattle.hk_model.specs.Opening.{numbered, all_ready}
use Rattle.hk_running.specs.Runners.{process_at, with_run}
use Rattle.hk_model.specs.declared.names.Proc.{Proc}
use Rattle.hk_model.specs.declared.objects.ProcessState.{ProcessState}
use Rattle.hk_plain.specs.Counts.{Tally, made, number, times, is_unnamed, IsFound, Moved, has_made, AreCounted, names_in, slot_names, waiting_names, inner_names}
use Rattle.hk_plain.proofs.CountLemmas.{tally, still, times_none, times_cons, times_both, none_among, among_times, both, alike}

-- ---- lists of things that name something

module _ {A : Type 0} (names : A → List Name) where
  pub times_all : (n : Name) (xs : List A) → times n (flat_map names xs) ≡ sum_by (λ (x : A). times n (names x)) xs
  times_all n [] = times_none n
  times_all n (x ∷ xs) = times_both n (names x) (flat_map names xs) ∙ ap (λ (k : ℕ). times n (names x) + k) (times_all n xs) ∙ sym (sum_by-cons (λ (y : A). times n (names y)) x xs)

  -- one is written over another
  pub set_moved : (a b : Tally) (xs : List A) (i : ℕ) (x y : A) → i < length xs → x ≡ get_or xs i x → Moved a b (names y) (names x)
      → Moved a b (flat_map names (set xs i y)) (flat_map names xs)
  set_moved a b xs i x y there is f = alike a b (names y) (names x) (flat_map names (set xs i y)) (flat_map names xs) (λ n.
      let p = times_all n (set xs i y) in
      let q = times_all n xs in
      let r = sum_by-set (λ (z : A). times n (names z)) xs i y x there in
      let s : times n (names (get_or xs i x)) ≡ times n (names x) = ap (λ (z : A). times n (names z)) (sym is) in
      omega (arith, p, q, r, s)) f

  -- one goes to the end
  pub push_moved : (a b : Tally) (xs : List A) (y : A) → Moved a b (names y) [] → Moved a b (flat_map names (xs ++ y ∷ [])) (flat_map names xs)
  push_moved a b xs y f = alike a b (names y) [] (flat_map names (xs ++ y ∷ [])) (flat_map names xs) (λ n.
      let p : times n (flat_map names (xs ++ y ∷ [])) ≡ times n (flat_map names xs) + times n (names y) =
      ap (times n) (flat_map-append names xs (y ∷ []) ∙ ap (λ (ys : List Name). flat_map names xs ++ ys) (append-nil (names y))) ∙ times_both n (flat_map names xs) (names y) in
      let q = times_none n in
      omega (arith, p, q)) f

-- ---- maps

module _ {K X : Type 0} (names : X → List Name) where
  abbrev pub all_names : List (K × X) → List Name
  all_names es = flat_map (λ (e : K × X). names e.1) es

  times_values : (n : Name) (es : List (K × X)) → times n (all_names es) ≡ sum_by (λ (x : X). times n (names x)) (values_of es)
  times_values n [] = times_none n
  times_values n (e ∷ es) =
      times_both n (names e.1) (all_names es) ∙ ap (λ (k : ℕ). times n (names e.1) + k) (times_values n es) ∙ sym (sum_by-cons (λ (x : X). times n (names x)) e.1 (values_of es))

  pub written_moved : (a b : Tally) (test : K → Bool) (es : List (K × X)) (v w : X) → lookup test es ≡ Some v → Moved a b (names w) (names v)
      → Moved a b (all_names (set_value test es w)) (all_names es)
  written_moved a b test es v w there f = alike a b (names w) (names v) (all_names (set_value test es w)) (all_names es) (λ n.
      let p = times_values n (set_value test es w) in
      let q = times_values n es in
      let r = sum_by-set_value (λ (x : X). times n (names x)) test es v w there in
      omega (arith, p, q, r)) f

  pub removed_moved : (a b : Tally) (test : K → Bool) (es : List (K × X)) (v : X) → lookup test es ≡ Some v → Moved a b [] (names v)
      → Moved a b (all_names (remove_entry test es)) (all_names es)
  removed_moved a b test es v there f = alike a b [] (names v) (all_names (remove_entry test es)) (all_names es) (λ n.
      let p = times_values n (remove_entry test es) in
      let q = times_values n es in
      let r = sum_by-remove_entry (λ (x : X). times n (names x)) test es in
      let s : unwrap_or (option_map (λ (x : X). times n (names x)) (lookup test es)) 0 ≡ times n (names v) =
      ap (λ (o : Option X). unwrap_or (option_map (λ (x : X). times n (names x)) o) 0) there in
      let t = times_none n in
      omega (arith, p, q, r, s, t)) f

  pub inserted_moved : (a b : Tally) {R : K → K → Ordering} → IsTotalOrder R → (es : List (K × X)) (k : K) (w : X) (old : Option X) → IsStrictlySortedBy R (keys_of es)
      → old ≡ lookup (is_at (R k)) es → Moved a b (names w) (flat_map names (option_to_list old)) → Moved a b (all_names (insert_entry R es k w)) (all_names es)
  inserted_moved a b {R} order es k w old sorted was f = alike a b (names w) (flat_map names (option_to_list old)) (all_names (insert_entry R es k w)) (all_names es) (λ n.
      let p = times_values n (insert_entry R es k w) in
      let q = times_values n es in
      let r = sum_by-insert_entry (λ (x : X). times n (names x)) order es k w sorted in
      let s : unwrap_or (option_map (λ (x : X). times n (names x)) (lookup (is_at (R k)) es)) 0 ≡ times n (flat_map names (option_to_list old)) =
      sym (ap (λ (o : Option X). unwrap_or (option_map (λ (x : X). times n (names x)) o) 0) was) ∙ old_times n old in
      omega (arith, p, q, r, s)) f
    where
      old_times : (n : Name) (o : Option X) → unwrap_or (option_map (λ (x : X). times n (names x)) o) 0 ≡ times n (flat_map names (option_to_list o))
      old_times n None = sym (times_none n)
      old_times n (Some x) = sym (ap (times n) (append-nil (names x)))

-- ---- several moves of the same part

pub through : (a b c : Tally) (first next last : List Name) → Moved a b next first → Moved b c last next → Moved a c last first
through a b c first next last f g = alike a c (next ++ last) (first ++ next) last first (λ n.
    let p = times_both n next last in
    let q = times_both n first next in
    omega (arith, p, q)) (both a b c next first last next f g)

pub replaced : (a b c : Tally) (came went : List Name) → Moved a b came [] → Moved b c [] went → Moved a c came went
replaced a b c came went f g = subst (λ (xs : List Name). Moved a c xs went) (append-nil came) (both a b c came [] [] went f g)

pub unmoved : (a b : Tally) (names : List Name) → Moved a b [] [] → Moved a b names names
unmoved a b names f = alike a b [] [] names names (λ n. let p : times n names + times n [] ≡ times n [] + times n names = omega arith in p) f

pub undone : (a b c : Tally) (came names : List Name) → Moved a b came [] → Moved b c [] came → Moved a c names names
undone a b c came names f g =
    alike a c came came names names (λ n. let p : times n names + times n came ≡ times n came + times n names = omega arith in omega (arith, p)) (replaced a b c came came f g)

pub beside : (a b : Tally) (name : Name) (came went : List Name) → Moved a b came went → Moved a b (name ∷ came) (name ∷ went)
beside a b name came went f = alike a b came went (name ∷ came) (name ∷ went) (λ n.
    let p = times_cons n name came in
    let q = times_cons n name went in
    omega (arith, p, q)) f

-- ---- the orders of the keys

pub name_order : IsTotalOrder name_cmp
name_order = record {
  antisymm = λ x y. nat_cmp_total.antisymm x.0 y.0;
  trans = λ x y z h g. nat_cmp_total.trans x.0 y.0 z.0 h g;
  congr = λ x y z h. nat_cmp_total.congr x.0 y.0 z.0 h;
}

pub inc_order : IsTotalOrder inc_cmp
inc_order = record {
  antisymm = λ x y. nat_cmp_total.antisymm x.0 y.0;
  trans = λ x y z h g. nat_cmp_total.trans x.0 y.0 z.0 h g;
  congr = λ x y z h. nat_cmp_total.congr x.0 y.0 z.0 h;
}

-- ---- the slots of an incarnation

abbrev pub named_slots : Incarnation → List Name
named_slots i = flat_map entry_names i.slots

-- a slice of the slots names what they name
pub by_slots : (P : List Name → Type 0) (slice slots : List Entry) → slice ≡ slots → P (flat_map entry_names slice) → P (flat_map entry_names slots)
by_slots P slice slots e p = subst (λ (es : List Entry). P (flat_map entry_names es)) e p

-- ---- the whole state

pub kept : (live live' : List (Inc × Incarnation)) (ps ps' : List Process) (objects objects' : List (Name × Object)) (t t' : Tally) → AreCounted live ps objects t
    → Moved t t' (names_in live' ps' objects') (names_in live ps objects)
    → (t'.exact ≡ true → (k : ℕ) → has_made t k objects' ≡ true → (has_made t k objects ≡ true) ⊎ IsFound t' k) → AreCounted live' ps' objects' t'
kept live live' ps ps' objects objects' t t' h f stood = record {
  counted = λ e k.
      let before = h.counted (f.exact e) k in
      let moved = f.counted e k in
      let same : number t' k ≡ times (made t k) (names_in live' ps' objects') = omega (arith, before, moved) in
      subst (λ (n : Name). number t' k ≡ times n (names_in live' ps' objects')) (sym (same_made t t' k f.first)) same;
  found = λ e k there.
      let there' : has_made t k objects' ≡ true = subst (λ (n : Name). is_some (lookup (same_name n) objects') ≡ true) (same_made t t' k f.first) there in
      by (λ g. f.found e k (h.found (f.exact e) k g)) (stood e k there');
}
  where
    same_made : (a b : Tally) (k : ℕ) → b.first_new ≡ a.first_new → made b k ≡ made a k
    same_made a b k e = ap (λ (n : Name). let m : Name = record { 0 = n.0 + k } in m) e

    by : {A B : Type 0} → (A → B) → A ⊎ B → B
    by g (inl there) = g there
    by g (inr there) = there

pub slots_kept : (live live' : List (Inc × Incarnation)) (ps : List Process) (objects : List (Name × Object)) (t t' : Tally) → AreCounted live ps objects t
    → Moved t t' (slot_names live') (slot_names live) → AreCounted live' ps objects t'
slots_kept live live' ps objects t t' h f =
    kept live live' ps ps objects objects t t' h (alike t t' (slot_names live') (slot_names live) (names_in live' ps objects) (names_in live ps objects) (λ n.
    let a = times_both n (slot_names live' ++ waiting_names ps) (inner_names objects) in
    let b = times_both n (slot_names live ++ waiting_names ps) (inner_names objects) in
    let d = times_both n (slot_names live') (waiting_names ps) in
    let e = times_both n (slot_names live) (waiting_names ps) in
    omega (arith, a, b, d, e)) f) (λ e k there. inl there)

pub runs_kept : (live : List (Inc × Incarnation)) (ps ps' : List Process) (objects : List (Name × Object)) (t t' : Tally) → AreCounted live ps objects t
    → Moved t t' (waiting_names ps') (waiting_names ps) → AreCounted live ps' objects t'
runs_kept live ps ps' objects t t' h f =
    kept live live ps ps' objects objects t t' h (alike t t' (waiting_names ps') (waiting_names ps) (names_in live ps' objects) (names_in live ps objects) (λ n.
    let a = times_both n (slot_names live ++ waiting_names ps') (inner_names objects) in
    let b = times_both n (slot_names live ++ waiting_names ps) (inner_names objects) in
    let d = times_both n (slot_names live) (waiting_names ps') in
    let e = times_both n (slot_names live) (waiting_names ps) in
    omega (arith, a, b, d, e)) f) (λ e k there. inl there)

-- what one process waits at is written over
pub run_moved : (a b : Tally) (ps qs : List Process) (proc : Proc) (run : ProcessState) (d : Process) → qs ≡ ps → proc.0 < length qs
    → Moved a b (run_names run) (run_names (get_or qs proc.0 d).run) → Moved a b (waiting_names (with_run ps proc run)) (waiting_names ps)
run_moved a b ps qs proc run d same there f =
    let inside : proc.0 < length ps = subst (λ (xs : List Process). proc.0 < length xs) same there in
    let moved : Moved a b (run_names run) (run_names (get_or ps proc.0 d).run) =
    subst (λ (xs : List Process). Moved a b (run_names run) (run_names (get_or xs proc.0 d).run)) same f in
    set_moved (λ (p : Process). run_names p.run) a b ps proc.0 (get_or ps proc.0 d) (record (process_at ps proc.0) { run = run }) inside
    (get_or_default ps proc.0 d (get_or ps proc.0 d) inside) moved

pub objects_kept : (live : List (Inc × Incarnation)) (ps : List Process) (objects objects' : List (Name × Object)) (t t' : Tally) → AreCounted live ps objects t
    → Moved t t' (inner_names objects') (inner_names objects)
    → (t'.exact ≡ true → (k : ℕ) → has_made t k objects' ≡ true → (has_made t k objects ≡ true) ⊎ IsFound t' k) → AreCounted live ps objects' t'
objects_kept live ps objects objects' t t' h f stood =
    kept live live ps ps objects objects' t t' h (alike t t' (inner_names objects') (inner_names objects) (names_in live ps objects') (names_in live ps objects) (λ n.
    let a = times_both n (slot_names live ++ waiting_names ps) (inner_names objects') in
    let b = times_both n (slot_names live ++ waiting_names ps) (inner_names objects) in
    omega (arith, a, b)) f) stood

-- ---- writes that name nothing else

-- the same keys stand after a write
pub stands_written : (p test : Name → Bool) (es : List (Name × Object)) (w : Object) → is_some (lookup p (set_value test es w)) ≡ is_some (lookup p es)
stands_written p test [] w = refl
stands_written p test (e ∷ es) w = by (p e.0) (test e.0) (stands_written p test es w)
  where
    by : (a b : Bool) → is_some (lookup p (set_value test es w)) ≡ is_some (lookup p es)
        → is_some (lookup p (cond b ((e.0, w) ∷ es) (e ∷ set_value test es w))) ≡ is_some (lookup p (e ∷ es))
    by a true h = on_cond (λ (o : Option Object). is_some (cond (p e.0) (Some w) (lookup p es)) ≡ is_some o) (p e.0) (Some e.1) (lookup p es) (λ k. rw k refl) (λ k. rw k refl)
    by a false h =
        on_cond (λ (o : Option Object). is_some (cond (p e.0) (Some e.1) (lookup p (set_value test es w))) ≡ is_some o) (p e.0) (Some e.1) (lookup p es)
        (λ k. rw k refl) (λ k. rw k h)

-- an object that names what it named before
pub counted_written : (live : List (Inc × Incarnation)) (ps : List Process) (objects : List (Name × Object)) (t : Tally) (name : Name) (v w : Object) → AreCounted live ps objects t
    → lookup (same_name name) objects ≡ Some v → object_names w ≡ object_names v → AreCounted live ps (set_value (same_name name) objects w) t
counted_written live ps objects t name v w h there same =
    objects_kept live ps objects (set_value (same_name name) objects w) t t h
    (written_moved object_names t t (same_name name) objects v w there
    (subst (λ (came : List Name). Moved t t came (object_names v)) (sym same) (unmoved t t (object_names v) (still t))))
    (λ e k stands. inl (sym (stands_written (same_name (made t k)) (same_name name) objects w) ∙ stands))

-- another current incarnation
pub current_names : (ps : List Process) (i : ℕ) (inc : Inc) → waiting_names (set ps i (record (process_at ps i) { current = inc })) ≡ waiting_names ps
current_names [] i inc = refl
current_names (p ∷ ps) zero inc = refl
current_names (p ∷ ps) (suc i) inc = ap (λ (xs : List Name). run_names p.run ++ xs) (current_names ps i inc)

pub counted_current : (live : List (Inc × Incarnation)) (ps : List Process) (objects : List (Name × Object)) (t : Tally) (i : ℕ) (inc : Inc) → AreCounted live ps objects t
    → AreCounted live (set ps i (record (process_at ps i) { current = inc })) objects t
counted_current live ps objects t i inc h =
    runs_kept live ps (set ps i (record (process_at ps i) { current = inc })) objects t t h
    (subst (λ (came : List Name). Moved t t came (waiting_names ps)) (sym (current_names ps i inc)) (unmoved t t (waiting_names ps) (still t)))

-- an object goes
pub counted_removed : (live : List (Inc × Incarnation)) (ps : List Process) (objects : List (Name × Object)) (t t' : Tally) (name : Name) → AreCounted live ps objects t
    → Moved t t' (inner_names (remove_entry (same_name name) objects)) (inner_names objects) → AreCounted live ps (remove_entry (same_name name) objects) t'
counted_removed live ps objects t t' name h f =
    objects_kept live ps objects (remove_entry (same_name name) objects) t t' h f (λ e k there. inl (stood (same_name (made t k)) (same_name name) objects there))
  where
    stood : (p test : Name → Bool) (es : List (Name × Object)) → is_some (lookup p (remove_entry test es)) ≡ true → is_some (lookup p es) ≡ true
    stood p test [] g = g
    stood p test (e ∷ es) g = by (p e.0) (test e.0) refl (stood p test es) g
      where
        by : (a b : Bool) → p e.0 ≡ a → (is_some (lookup p (remove_entry test es)) ≡ true → is_some (lookup p es) ≡ true)
            → is_some (lookup p (cond b es (e ∷ remove_entry test es))) ≡ true → is_some (cond a (Some e.1) (lookup p es)) ≡ true
        by true b k r i = refl
        by false true k r i = i
        by false false k r i = r (rw k at i)

-- the same objects stand
pub counted_entries : (live : List (Inc × Incarnation)) (ps : List Process) (objects objects' : List (Name × Object)) (t t' : Tally) (name : Name) (w : Object)
    → AreCounted live ps objects t → objects' ≡ set_value (same_name name) objects w → Moved t t' (inner_names objects') (inner_names objects) → AreCounted live ps objects' t'
counted_entries live ps objects objects' t t' name w h is f =
    objects_kept live ps objects objects' t t' h f (λ e k there. inl
    (sym (stands_written (same_name (made t k)) (same_name name) objects w) ∙ (ap (λ (es : List (Name × Object)). has_made t k es) (sym is) ∙ there)))

-- one more object stands, which is on the list
inserted_stands : (m name : Name) (es : List (Name × Object)) (o : Object) → same_name m name ≡ false → is_some (lookup (same_name m) (insert_entry name_cmp es name o)) ≡ true
    → is_some (lookup (same_name m) es) ≡ true
inserted_stands m name [] o apart h = rw apart at h
inserted_stands m name (e ∷ es) o apart h = by (name_cmp name e.0) (inserted_stands m name es o apart) h
  where
    by : (r : Ordering) → (is_some (lookup (same_name m) (insert_entry name_cmp es name o)) ≡ true → is_some (lookup (same_name m) es) ≡ true)
        → is_some (lookup (same_name m) (match_ordering r ((name, o) ∷ e ∷ es) ((e.0, o) ∷ es) (e ∷ insert_entry name_cmp es name o))) ≡ true
        → is_some (lookup (same_name m) (e ∷ es)) ≡ true
    by Less rest g = rw apart at g
    by Equal rest g = first (same_name m e.0) g
      where
        first : (b : Bool) → is_some (cond b (Some o) (lookup (same_name m) es)) ≡ true → is_some (cond b (Some e.1) (lookup (same_name m) es)) ≡ true
        first true k = refl
        first false k = k
    by Greater rest g = first (same_name m e.0) g
      where
        first : (b : Bool) → is_some (cond b (Some e.1) (lookup (same_name m) (insert_entry name_cmp es name o))) ≡ true
            → is_some (cond b (Some e.1) (lookup (same_name m) es)) ≡ true
        first true k = refl
        first false k = rest k

-- an object that stands in a part of the table stands
part_stands : (p : Name → Bool) (m : Name) (es : List (Name × Object)) → is_some (lookup (same_name m) (filter (λ (e : Name × Object). p e.0) es)) ≡ true
    → is_some (lookup (same_name m) es) ≡ true
part_stands p m [] h = h
part_stands p m (e ∷ es) h = by (p e.0) (same_name m e.0) refl (part_stands p m es) h
  where
    by : (a b : Bool) → same_name m e.0 ≡ b → (is_some (lookup (same_name m) (filter (λ (e : Name × Object). p e.0) es)) ≡ true → is_some (lookup (same_name m) es) ≡ true)
        → is_some (lookup (same_name m) (cond a (e ∷ filter (λ (e : Name × Object). p e.0) es) (filter (λ (e : Name × Object). p e.0) es))) ≡ true
        → is_some (cond b (Some e.1) (lookup (same_name m) es)) ≡ true
    by a true k rest g = refl
    by true false k rest g = rest (rw k at g)
    by false false k rest g = rest g

-- one more object stands beside some of them, and is on the list
pub counted_beside : (live : List (Inc × Incarnation)) (ps : List Process) (objects objects' : List (Name × Object)) (t u t' : Tally) (name : Name) (o : Object) (p : Name → Bool)
    → AreCounted live ps objects t → Moved t u [] [] → is_among name u.lost ≡ true → objects' ≡ insert_entry name_cmp (filter (λ (e : Name × Object). p e.0) objects) name o
    → Moved u t' (inner_names objects') (inner_names objects) → AreCounted live ps objects' t'
counted_beside live ps objects objects' t u t' name o p h f listed is g =
    objects_kept live ps objects objects' u t' (kept live live ps ps objects objects t u h (unmoved t u (names_in live ps objects) f) (λ e k there. inl there)) g
    (λ e k there. by e k (same_name (made u k) name) refl (subst (λ (es : List (Name × Object)). has_made u k es ≡ true) is there))
  where
    by : t'.exact ≡ true → (k : ℕ) (b : Bool) → same_name (made u k) name ≡ b → has_made u k (insert_entry name_cmp (filter (λ (e : Name × Object). p e.0) objects) name o) ≡ true
        → (has_made u k objects ≡ true) ⊎ IsFound t' k
    by e k true same there = inr (g.found e k (λ none. subst (λ (n : Name). is_among n u.lost ≡ true) (sym (name_same (made u k) name same)) listed))
    by e k false apart there = inl (part_stands p (made u k) objects (inserted_stands (made u k) name (filter (λ (e : Name × Object). p e.0) objects) o apart there))

-- ---- what the numbers show

module _ (s : State) (t : Tally) (h : AreCounted s.incarnations s.processes s.objects t) (first : s.first_new ≡ t.first_new) (exact : t.exact ≡ true) where
  named_as : (n : Name) → nat_lt n.0 t.first_new.0 ≡ false → made t (n.0 - t.first_new.0) ≡ n
  named_as n up =
      let high : t.first_new.0 ≤ n.0 = grind (arith, nat_tests) in
      let e : t.first_new.0 + (n.0 - t.first_new.0) ≡ n.0 = omega (arith, high) in
      ap (λ (m : ℕ). let x : Name = record { 0 = m } in x) e

  times_are : (n : Name) → nat_lt n.0 t.first_new.0 ≡ false → number t (n.0 - t.first_new.0) ≡ times n (names_with s s.objects)
  times_are n up = h.counted exact (n.0 - t.first_new.0) ∙ ap (λ (m : Name). times m (names_with s s.objects)) (named_as n up)

  -- an object whose number is 0 is lost
  unnamed_lost : (n : Name) → is_unnamed t n ≡ true → are_supporting s s.objects n ≡ false
  unnamed_lost n u = by (nat_lt n.0 t.first_new.0) refl u
    where
      by : (b : Bool) → nat_lt n.0 t.first_new.0 ≡ b → cond b false (number t (n.0 - t.first_new.0) == 0) ≡ true → are_supporting s s.objects n ≡ false
      by true e g = absurd (false≢true g)
      by false e g =
          let zero_is : number t (n.0 - t.first_new.0) ≡ 0 = grind (arith, nat_tests) in
          let made_late : nat_lt n.0 s.first_new.0 ≡ false = ap (λ (f : Name). nat_lt n.0 f.0) first ∙ e in
          rw made_late (none_among n (names_with s s.objects) (sym (times_are n e) ∙ zero_is))

  pub some_lost : (r : Option Name) → IfSome r (λ n. is_unnamed t n ≡ true) → IfSome r (λ n. are_supporting s s.objects n ≡ false)
  some_lost None f = f
  some_lost (Some n) f = unnamed_lost n f

  -- where none is on the list, all stay
  pub none_lost : (r : Option Name) (new : Tally) → new ≡ record t { lost = new.lost } → ((k : ℕ) → has_made t k s.objects ≡ true → IsFound t k → IsFound new k)
      → IfNone r (new.lost ≡ []) → IfNone r (kept_objects s ≡ s.objects)
  none_lost (Some n) new same found empty = empty
  none_lost None new same found empty =
      all_kept s (λ n there g. subst (λ (es : List (Name × Object)). are_supporting s es n ≡ true) (sym (of_all s.objects)) (by n there (nat_lt n.0 t.first_new.0) refl))
    where
      by : (n : Name) → stands s n ≡ true → (b : Bool) → nat_lt n.0 t.first_new.0 ≡ b → are_supporting s s.objects n ≡ true
      by n there true e = let opening : nat_lt n.0 s.first_new.0 ≡ true = ap (λ (f : Name). nat_lt n.0 f.0) first ∙ e in rw opening refl
      by n there false e =
          let made_late : nat_lt n.0 s.first_new.0 ≡ false = ap (λ (f : Name). nat_lt n.0 f.0) first ∙ e in
          let k : ℕ = n.0 - t.first_new.0 in
          let stood : has_made t k s.objects ≡ true = subst (λ (m : Name). is_some (lookup (same_name m) s.objects) ≡ true) (sym (named_as n e)) there in
          rw made_late (among_times n (names_with s s.objects) (λ none.
          let listed : is_among (made new k) new.lost ≡ true = found k stood (h.found exact k stood) (ap (λ (u : Tally). number u k) same ∙ (times_are n e ∙ none)) in
          false≢true (subst (λ (xs : List Name). is_among (made new k) xs ≡ true) empty listed)))

-- ---- the opening

pub waiting_ready : (n : ℕ) (tasks : List Task) → waiting_names (all_ready n tasks) ≡ []
waiting_ready n [] = refl
waiting_ready n (t ∷ ts) = waiting_ready (n + 1) ts

-- none is made where all have lower names
pub none_made : (n : ℕ) (xs : List Object) (m : Name) → n + length xs ≤ m.0 → is_some (lookup (same_name m) (numbered (λ k. let x : Name = record { 0 = k } in x) n xs)) ≡ false
none_made n [] m low = refl
none_made n (o ∷ xs) m low =
    let apart : same_name m (record { 0 = n }) ≡ false =
    false_from_ne_true (same_name m (record { 0 = n }))
    (λ e. let same : m.0 ≡ n = ap (λ (x : Name). x.0) (name_same m (record { 0 = n }) e) in absurd (omega (arith, low, same))) in
    rw apart (none_made (n + 1) xs m (omega arith))

pub counted_opening : (live : List (Inc × Incarnation)) (ps : List Process) (objects : List (Name × Object)) (first : Name) (t t' t'' : Tally) → t ≡ tally first [] [] true
    → Moved t t' (inner_names objects) [] → Moved t' t'' (slot_names live) [] → waiting_names ps ≡ []
    → ((k : ℕ) → is_some (lookup (same_name (record { 0 = first.0 + k })) objects) ≡ false) → AreCounted live ps objects t''
counted_opening live ps objects first t t' t'' is f g rest none =
    kept [] live [] ps [] objects t t'' (subst (λ (u : Tally). AreCounted [] [] [] u) (sym is)
    (record { counted = λ e k. sym (times_none (record { 0 = first.0 + k })); found = λ e k there. absurd (false≢true there) }))
    (alike t t'' (inner_names objects ++ slot_names live) [] (names_in live ps objects) [] (λ n.
    let a = times_both n (inner_names objects) (slot_names live) in
    let b = times_both n (slot_names live ++ waiting_names ps) (inner_names objects) in
    let d = times_both n (slot_names live) (waiting_names ps) in
    let e : times n (waiting_names ps) ≡ 0 = ap (times n) rest ∙ times_none n in
    omega (arith, a, b, d, e)) (both t t' t'' (inner_names objects) [] (slot_names live) [] f g))
    (λ e k there. absurd (false≢true (sym (none k) ∙ subst (λ (u : Tally). has_made u k objects ≡ true) is there)))
