-- What is kept and what is reached in the slots is what is kept and rooted in the state that they tell.
use Rattle.std.proofs.Common.{◌≡◌, ◌≢◌, ℕ, zero, suc, ◌+◌, ◌<◌, ◌≤◌, ◌⊎◌, inl, inr, Bool, true, false, cond, ◌||◌}
use Rattle.std.proofs.Common.{◌&&◌, List, [], ◌∷◌, ◌++◌, map, Option, Some, None, refl, sym, ap, ◌∙◌, subst, arith}
use Rattle.std.proofs.Common.{⊎_elim, option_map}
use Rattle.std.specs.Prelude.{nat_lt, is_some, slice_index, slice_index_or}
use Rattle.std.specs.List.{list_any}
use Rattle.std.specs.Map.{lookup}
use Rattle.std.specs.BTreeMap.{insert_entry}
use Rattle.std.proofs.lemmas.Bool.{cases_eq, cases_lt, and_from, and_parts}
use Rattle.std.proofs.lemmas.Bool.Decides.{nat_tests}
use Rattle.std.proofs.lemmas.List.Folds.{list_any-append}
use Rattle.std.proofs.lemmas.Map.Entries.{option_filter}
use Rattle.hk_model.specs.declared.names.Name.{Name}
use Rattle.hk_model.specs.declared.names.Proc.{Proc}
use Rattle.hk_model.specs.declared.objects.Object.{Object}
use Rattle.hk_model.specs.State.{State, name_cmp, same_name}
use Rattle.hk_model.specs.Keeping.{object_names, outer_names, is_among, is_opening, stands, members, supports, AreKept, AreRooted, kept_objects, rooted_objects}
use Rattle.hk_model.proofs.Keeping.{of_set, inner}
use Rattle.hk_model.proofs.KeepingLemmas.{kept_is, rooted_is}
use Rattle.hk_objects.specs.declared.body.Body.{Body}
use Rattle.hk_objects.specs.Slots.{standing, place, name_at, AreApart}
use Rattle.hk_objects.proofs.Standing.{lookup-place, lookup-absent, apart_tail}
use Rattle.hk_reclaim.specs.Naming.{names_in, names_of, times}
use Rattle.hk_reclaim.specs.Kept.{IsRoot, IsNamedIn, IsKept, IsReached, only}
use Rattle.hk_reclaim.specs.Tally.{Tally}
use Rattle.hk_reclaim.proofs.Counting.{times_none, times-cons, same_names}
use Rattle.hk_table.specs.Whole.{whole, whole_object, with_waiters}
use Rattle.hk_table.specs.Settled.{Tells}
use Rattle.hk_table.proofs.Restricted.{three, there, elsewhere, standing_kept}
use Rattle.hk_table.proofs.Whole.{place-whole, name_at-whole, apart-whole}

or_cases : (a b : Bool) → (a || b) ≡ true → (a ≡ true) ⊎ (b ≡ true)
or_cases true b h = inl refl
or_cases false b h = inr h

pub or_left : (a b : Bool) → a ≡ true → (a || b) ≡ true
or_left true b h = refl
or_left false b h = absurd (cc)

pub or_right : (a b : Bool) → b ≡ true → (a || b) ≡ true
or_right true b h = refl
or_right false b h = h

or_swap : (a b c : Bool) → (a || (b || c)) ≡ (b || (a || c))
or_swap true true c = refl
or_swap true false c = refl
or_swap false b c = refl

abbrev opt : {X : Type 0} → (Name × X → Bool) → Option (Name × X) → Bool
opt f None = false
opt f (Some e) = f e

module _ {X : Type 0} where
  any_insert : (f : Name × X → Bool) (n : Name) (o : X) (es : List (Name × X)) → lookup (same_name n) es ≡ None
      → list_any f (insert_entry name_cmp es n o) ≡ (f (n, o) || list_any f es)
  any_insert f n o [] absent = refl
  any_insert f n o (e ∷ es) absent =
      three n e.0 (λ xs. list_any f xs ≡ (f (n, o) || list_any f (e ∷ es))) ((n, o) ∷ e ∷ es) ((e.0, o) ∷ es) (e ∷ insert_entry name_cmp es n o) (λ low. refl)
      (λ same. absurd (there n e es same absent))
      (λ high. ap (λ (b : Bool). f e || b) (any_insert f n o es (elsewhere n e es high absent)) ∙ or_swap (f e) (f (n, o)) (list_any f es))

  -- some object that stands passes exactly where some slot's does
  any_standing : (f : Name × X → Bool) (ps : List (Option (Name × X))) → AreApart ps → list_any f (standing ps) ≡ list_any (opt f) ps
  any_standing f [] apart = refl
  any_standing f (None ∷ ps) apart = any_standing f ps (apart_tail None ps apart)
  any_standing f (Some e ∷ ps) apart =
      any_insert f e.0 e.1 (standing ps) (lookup-absent ps e.0 (λ k named. let h : suc k ≡ 0 = apart (suc k) 0 e.0 named refl in absurd (omega arith)))
      ∙ ap (λ (b : Bool). f e || b) (any_standing f ps (apart_tail (Some e) ps apart))

  at_any : (f : Name × X → Bool) (ps : List (Option (Name × X))) (k : ℕ) → opt f (place ps k) ≡ true → list_any (opt f) ps ≡ true
  at_any f [] k h = absurd (cc)
  at_any f (p ∷ ps) zero h = or_left (opt f p) (list_any (opt f) ps) h
  at_any f (p ∷ ps) (suc k) h = or_right (opt f p) (list_any (opt f) ps) (at_any f ps k h)

  any_at : (f : Name × X → Bool) (ps : List (Option (Name × X))) → list_any (opt f) ps ≡ true → (k : ℕ) × (opt f (place ps k) ≡ true)
  any_at f [] h = absurd (cc)
  any_at f (p ∷ ps) h =
      ⊎_elim (λ (a : opt f p ≡ true). (zero, a)) (λ (a : list_any (opt f) ps ≡ true). let r = any_at f ps a in (suc r.0, r.1)) (or_cases (opt f p) (list_any (opt f) ps) h)

-- a list has a name exactly where it has it some times
pub any_times : (n : Name) (ns : List Name) → 0 < times n ns → is_among n ns ≡ true
any_times n [] h = absurd (omega (arith, times_none n))
any_times n (m ∷ ns) h =
    ⊎_elim (λ (same : n.0 ≡ m.0). or_left (same_name n m) (is_among n ns) (grind (arith, nat_tests)))
    (λ (ne : n.0 ≢ m.0). or_right (same_name n m) (is_among n ns) (any_times n ns (
    let c : times n (m ∷ ns) ≡ times n ns = times-cons n m ns ∙ grind (arith, nat_tests) in
    subst (λ (k : ℕ). 0 < k) c h))) (cases_eq n.0 m.0)

times_any : (n : Name) (ns : List Name) → is_among n ns ≡ true → 0 < times n ns
times_any n [] h = absurd (cc)
times_any n (m ∷ ns) h =
    ⊎_elim
    (λ (a : same_name n m ≡ true). let c : times n (m ∷ ns) ≡ 1 + times n ns = times-cons n m ns ∙ grind (arith, nat_tests) in omega (arith, c))
    (λ (a : is_among n ns ≡ true). let c = times-cons n m ns in let k = times_any n ns a in omega (arith, k, c))
    (or_cases (same_name n m) (is_among n ns) h)

-- what members of a set name
inner_any : (n : Name) (S : Name → Bool) (es : List (Name × Object)) → is_among n (inner (of_set S es)) ≡ list_any (λ e. S e.0 && is_among n (object_names e.1)) es
inner_any n S [] = refl
inner_any n S (e ∷ es) = by (S e.0) (inner_any n S es) where
  by : (b : Bool) → is_among n (inner (of_set S es)) ≡ list_any (λ e. S e.0 && is_among n (object_names e.1)) es
      → is_among n (inner (cond b (e ∷ of_set S es) (of_set S es))) ≡ ((b && is_among n (object_names e.1)) || list_any (λ e. S e.0 && is_among n (object_names e.1)) es)
  by true rest = list_any-append (same_name n) (object_names e.1) (inner (of_set S es)) ∙ ap (λ (b : Bool). is_among n (object_names e.1) || b) rest
  by false rest = rest

-- a slot of which a set has the object
only_one : (S : Name → Bool) (p : Option (Name × Body)) (procs : List Proc)
    → with_waiters (option_filter (λ (e : Name × Body). S e.0) p) procs ≡ option_filter (λ (e : Name × Object). S e.0) (with_waiters p procs)
only_one S None procs = refl
only_one S (Some e) procs = by (S e.0) where
  by : (b : Bool) → with_waiters (cond b (Some e) None) procs ≡ cond b (let r : Name × Object = (e.0, whole_object e.1 procs) in Some r) None
  by true = refl
  by false = refl

only_whole : (S : Name → Bool) (qs : List (Option (Name × Body))) (vs : List (List Proc))
    → whole (only S qs) vs ≡ map (option_filter (λ (e : Name × Object). S e.0)) (whole qs vs)
only_whole S [] vs = refl
only_whole S (p ∷ qs) [] = λ i. only_one S p [] i ∷ only_whole S qs [] i
only_whole S (p ∷ qs) (x ∷ vs) = λ i. only_one S p x i ∷ only_whole S qs vs i

module _ (s : State) (ps : List (Option (Name × Body))) (ws : List (List Proc)) (t : Tally) (apart : AreApart ps) (tells : Tells s ps ws t) where
  pub stands_at : (n : Name) (k : ℕ) → name_at ps k ≡ Some n → stands s n ≡ true
  stands_at n k named = by (place (whole ps ws) k) refl (name_at-whole ps ws k ∙ named) where
    by : (p : Option (Name × Object)) → place (whole ps ws) k ≡ p → option_map (λ (e : Name × Object). e.0) p ≡ Some n → stands s n ≡ true
    by None e h = absurd (cc)
    by (Some q) e h =
        let same : q.0 ≡ n = cc in
        ap (λ (os : List (Name × Object)). is_some (lookup (same_name n) os)) tells.objects
        ∙ ap is_some (lookup-place (whole ps ws) k n q.1 (e ∙ ap (λ (m : Name). let r : Name × Object = (m, q.1) in Some r) same) (apart-whole ps ws apart))

  abbrev is_it : Name → Name × Body → Bool
  is_it n e = same_name n e.0

  pub at_stands : (n : Name) → stands s n ≡ true → (k : ℕ) × (name_at ps k ≡ Some n)
  at_stands n h = by (list_any (opt (is_it n)) ps) refl where
    is_named : (p : Option (Name × Body)) → opt (is_it n) p ≡ true → option_map (λ (e : Name × Body). e.0) p ≡ Some n
    is_named None e = absurd (cc)
    is_named (Some q) e = ap (λ (m : Name). Some m) (same_names q.0 n (let f : n.0 ≡ q.0.0 = grind (arith, nat_tests) in sym f))

    passes : (p : Option (Name × Body)) → option_map (λ (e : Name × Body). e.0) p ≡ Some n → opt (is_it n) p ≡ true
    passes None e = absurd (cc)
    passes (Some q) e = let f : q.0 ≡ n = cc in let g : n.0 ≡ q.0.0 = ap (λ (m : Name). m.0) (sym f) in grind (arith, nat_tests)

    by : (b : Bool) → list_any (opt (is_it n)) ps ≡ b → (k : ℕ) × (name_at ps k ≡ Some n)
    by true e = let w = any_at (is_it n) ps e in (w.0, is_named (place ps w.0) w.1)
    by false e =
        let absent : lookup (same_name n) (standing (whole ps ws)) ≡ None =
        lookup-absent (whole ps ws) n (λ k named. let g : false ≡ true = sym e ∙ at_any (is_it n) ps k (passes (place ps k) (sym (name_at-whole ps ws k) ∙ named)) in cc) in
        let gone : is_some (lookup (same_name n) s.objects) ≡ false =
        ap (λ (os : List (Name × Object)). is_some (lookup (same_name n) os)) tells.objects ∙ ap is_some absent in
        absurd (let g : false ≡ true = sym gone ∙ h in cc)

  -- who is named by a member
  abbrev names_it : (Name → Bool) → Name → Name × Object → Bool
  names_it S n e = S e.0 && is_among n (object_names e.1)

  inner_is : (S : Name → Bool) (n : Name) → is_among n (inner (members s S)) ≡ list_any (opt (names_it S n)) (whole ps ws)
  inner_is S n =
      ap (λ (os : List (Name × Object)). is_among n (inner (of_set S os))) tells.objects ∙ inner_any n S (standing (whole ps ws))
      ∙ any_standing (names_it S n) (whole ps ws) (apart-whole ps ws apart)

  named_to : (S : Name → Bool) (n : Name) → IsNamedIn ps S n → is_among n (inner (members s S)) ≡ true
  named_to S n w =
      inner_is S n
      ∙ at_any (names_it S n) (whole ps ws) w.0
      (ap (opt (names_it S n)) (place-whole ps ws w.0) ∙ by (place ps w.0) (slice_index_or ws w.0 []) w.1 w.2 w.3 w.4) where
        by : (p : Option (Name × Body)) (procs : List Proc) (m : Name) → option_map (λ (e : Name × Body). e.0) p ≡ Some m → S m ≡ true → 0 < times n (names_in p)
            → opt (names_it S n) (with_waiters p procs) ≡ true
        by None procs m e h some = absurd (cc)
        by (Some q) procs m e h some = let f : q.0 ≡ m = cc in and_from (S q.0) (is_among n (names_of q.1)) (ap S f ∙ h) (any_times n (names_of q.1) some)

  named_from : (S : Name → Bool) (n : Name) → is_among n (inner (members s S)) ≡ true → IsNamedIn ps S n
  named_from S n h =
      let w = any_at (names_it S n) (whole ps ws) (sym (inner_is S n) ∙ h) in
      by (place ps w.0) w.0 (slice_index_or ws w.0 []) refl (sym (ap (opt (names_it S n)) (place-whole ps ws w.0)) ∙ w.1) where
        by : (p : Option (Name × Body)) (k : ℕ) (procs : List Proc) → place ps k ≡ p → opt (names_it S n) (with_waiters p procs) ≡ true → IsNamedIn ps S n
        by None k procs e h = absurd (cc)
        by (Some q) k procs e h =
            let both = and_parts (S q.0) (is_among n (names_of q.1)) h in (
              k,
              q.0,
              ap (option_map (λ (e : Name × Body). e.0)) e,
              both.0,
              subst (λ (p : Option (Name × Body)). 0 < times n (names_in p)) (sym e)
                  (times_any n (names_of q.1) both.1),
            )

  -- who supports
  root_to : (S : Name → Bool) (n : Name) → IsRoot t.first_new t.outside ps n → supports s S n ≡ true
  root_to S n r =
      ⊎_elim
      (λ (low : n.0 < t.first_new.0). opens_to low)
      (λ (some : 0 < slice_index t.outside r.0). ⊎_elim opens_to
      (λ (made : t.first_new.0 ≤ n.0).
      or_right (is_opening s n) (is_among n (outer_names s ++ inner (members s S)))
      (list_any-append (same_name n) (outer_names s) (inner (members s S))
      ∙ or_left (is_among n (outer_names s)) (is_among n (inner (members s S))) (any_times n (outer_names s) (subst (λ (k : ℕ). 0 < k) (tells.outside r.0 n r.1 made) some))))
      (cases_lt n.0 t.first_new.0))
      r.2 where
        opens_to : n.0 < t.first_new.0 → supports s S n ≡ true
        opens_to low = or_left (is_opening s n) (is_among n (outer_names s ++ inner (members s S))) (ap (λ (f : Name). nat_lt n.0 f.0) tells.first_new ∙ grind (arith, nat_tests))

  pub member_to : (S : Name → Bool) (n : Name) → IsNamedIn ps S n → supports s S n ≡ true
  member_to S n w =
      or_right (is_opening s n) (is_among n (outer_names s ++ inner (members s S)))
      (list_any-append (same_name n) (outer_names s) (inner (members s S)) ∙ or_right (is_among n (outer_names s)) (is_among n (inner (members s S))) (named_to S n w))

  supports_from : (S : Name → Bool) (n : Name) (k : ℕ) → name_at ps k ≡ Some n → supports s S n ≡ true → IsRoot t.first_new t.outside ps n ⊎ IsNamedIn ps S n
  supports_from S n k named h =
      ⊎_elim
      (λ (opens : is_opening s n ≡ true).
      let low' : nat_lt n.0 t.first_new.0 ≡ true = ap (λ (f : Name). nat_lt n.0 f.0) (sym tells.first_new) ∙ opens in
      let low : n.0 < t.first_new.0 = grind (arith, nat_tests) in inl (k, named, inl low))
      (λ (among : is_among n (outer_names s ++ inner (members s S)) ≡ true).
      ⊎_elim
      (λ (out : is_among n (outer_names s) ≡ true).
      ⊎_elim
      (λ (low : n.0 < t.first_new.0). inl (k, named, inl low))
      (λ (made : t.first_new.0 ≤ n.0). inl (k, named, inr (subst (λ (m : ℕ). 0 < m) (sym (tells.outside k n named made)) (times_any n (outer_names s) out))))
      (cases_lt n.0 t.first_new.0))
      (λ (in' : is_among n (inner (members s S)) ≡ true). inr (named_from S n in'))
      (or_cases (is_among n (outer_names s)) (is_among n (inner (members s S))) (sym (list_any-append (same_name n) (outer_names s) (inner (members s S))) ∙ among)))
      (or_cases (is_opening s n) (is_among n (outer_names s ++ inner (members s S))) h)

  are_kept : (S : Name → Bool) → IsKept t.first_new t.outside ps S → AreKept s S
  are_kept S kept = record {
    supported = λ n standing' member. ⊎_elim (λ (r : IsRoot t.first_new t.outside ps n). root_to S n r) (λ (w : IsNamedIn ps S n). member_to S n w) (kept.supported.held n member);
    greatest = λ set h n standing' member.
        kept.greatest (λ m. set m && stands s m) (record {
          stands = λ m both. at_stands m (and_parts (set m) (stands s m) both).1;
          held = λ m both.
              let parts = and_parts (set m) (stands s m) both in
              let at = at_stands m parts.1 in
              ⊎_elim (λ (r : IsRoot t.first_new t.outside ps m). inl r)
              (λ (w : IsNamedIn ps set m). inr (w.0, w.1, w.2, and_from (set w.1) (stands s w.1) w.3 (stands_at w.1 w.0 w.2), w.4))
              (supports_from set m at.0 at.1 (h m parts.1 parts.0));
        }) n (and_from (set n) (stands s n) member standing');
  }

  are_rooted : (S : Name → Bool) → IsReached t.first_new t.outside ps S → AreRooted s S
  are_rooted S reached = record {
    closed = λ n standing' supported.
        let at = at_stands n standing' in
        ⊎_elim (λ (r : IsRoot t.first_new t.outside ps n). reached.closed.roots n r) (λ (w : IsNamedIn ps S n). reached.closed.named n at.0 at.1 w)
        (supports_from S n at.0 at.1 supported);
    least = λ set h n standing' member.
        reached.least set (record {
          roots = λ m r. h m (stands_at m r.0 r.1) (root_to set m r);
          named = λ m k named w. h m (stands_at m k named) (member_to set m w);
        }) n member;
  }

  -- what is left in the slots
  pub settled_kept : (S : Name → Bool) (rs : List (Option (Name × Body))) → IsKept t.first_new t.outside ps S → rs ≡ only S ps → standing (whole rs ws) ≡ kept_objects s
  settled_kept S rs kept e =
      ap (λ (v : List (Option (Name × Body))). standing (whole v ws)) e ∙ ap standing (only_whole S ps ws)
      ∙ standing_kept (λ (e : Name × Object). S e.0) (whole ps ws) (apart-whole ps ws apart) ∙ sym (kept_is s S (are_kept S kept) ∙ ap (of_set S) tells.objects)

  pub collected_rooted : (S : Name → Bool) (rs : List (Option (Name × Body))) → IsReached t.first_new t.outside ps S → rs ≡ only S ps → standing (whole rs ws) ≡ rooted_objects s
  collected_rooted S rs reached e =
      ap (λ (v : List (Option (Name × Body))). standing (whole v ws)) e ∙ ap standing (only_whole S ps ws)
      ∙ standing_kept (λ (e : Name × Object). S e.0) (whole ps ws) (apart-whole ps ws apart) ∙ sym (rooted_is s S (are_rooted S reached) ∙ ap (of_set S) tells.objects)
