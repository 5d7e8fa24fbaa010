-- What is gone was in no supported set, and what is left is one.
use Rattle.std.proofs.Common.{◌≡◌, ◌≢◌, ℕ, zero, suc, ◌+◌, ◌<◌, ◌≤◌, Bool, true, false, cond, List, [], ◌∷◌, length, get_or, set, refl, ap, ◌∙◌, sym, subst, arith, ⊎_elim, inl}
use Rattle.std.proofs.Common.{inr, ◌⊎◌, get_or-set_same, get_or-set_other, length-set, Option, Some, None, IsSome, option_map, ◌||◌}
use Rattle.std.proofs.lemmas.Bool.Decides.{nat_tests}
use Rattle.std.proofs.lemmas.Bool.{cases_eq, cases_lt}
use Rattle.std.specs.Bool.{◌==◌}
use Rattle.std.specs.List.{list_any}
use Rattle.hk_links.specs.Chained.{without}
use Rattle.hk_model.specs.declared.names.Name.{Name}
use Rattle.hk_objects.specs.declared.body.Body.{Body}
use Rattle.hk_objects.specs.Slots.{place, name_at, AreApart}
use Rattle.hk_reclaim.specs.Naming.{names_in, times, namings, stands, is_named}
use Rattle.std.specs.Option.{is_some}
use Rattle.std.proofs.lemmas.List.Sums.{sum_by-set}
use Rattle.hk_objects.proofs.Standing.{within_some}
use Rattle.hk_reclaim.specs.Kept.{IsRoot, IsNamedIn, IsSupported, IsKept, IsPartOf, IsSettling, HasLost, taken}
use Rattle.hk_reclaim.specs.Tally.{Tally, has, due, owing, AreCounted, SameOutside}
use Rattle.hk_reclaim.proofs.Counting.{times-le-namings, times_none, namer, same_names, namings_gone, owing_own, removed_one, no_some}

module _ {X : Type 0} where
  -- what stands has a name
  pub name_of_some : (p : Option (Name × X)) (n : Name) → option_map (λ (e : Name × X). e.0) p ≡ Some n → IsSome p
  name_of_some None n e = absurd (cc)
  name_of_some (Some q) n e = refl

  pub some_name : (p : Option (Name × X)) → IsSome p → (n : Name) × (option_map (λ (e : Name × X). e.0) p ≡ Some n)
  some_name None h = absurd (cc)
  some_name (Some q) h = (q.0, refl)

pub stands_at : (ps : List (Option (Name × Body))) (k : ℕ) (n : Name) → name_at ps k ≡ Some n → stands ps n ≡ true
unfolding stands
stands_at [] k n e = absurd (cc)
stands_at (None ∷ ps) zero n e = absurd (cc)
stands_at (Some q ∷ ps) zero n e =
    let f : q.0 ≡ n = cc in let g : n.0 ≡ q.0.0 = ap (λ (m : Name). m.0) (sym f) in let t : (n.0 == q.0.0) ≡ true = grind (arith, nat_tests) in rw t refl
stands_at (p ∷ ps) (suc k) n e = or_true (is_named n p) (list_any (is_named n) ps) (stands_at ps k n e) where
  or_true : (a b : Bool) → b ≡ true → (a || b) ≡ true
  or_true true b h = refl
  or_true false b h = h

pub stands_where : (ps : List (Option (Name × Body))) (n : Name) → stands ps n ≡ true → (k : ℕ) × (name_at ps k ≡ Some n)
unfolding stands
stands_where [] n h = absurd (cc)
stands_where (None ∷ ps) n h = let r = stands_where ps n h in (suc r.0, r.1)
stands_where (Some q ∷ ps) n h =
    ⊎_elim
    (λ (same : n.0 ≡ q.0.0). (zero, ap (λ (m : Name). Some m) (sym (same_names n q.0 same))))
    (λ (ne : n.0 ≢ q.0.0). let f : (n.0 == q.0.0) ≡ false = grind (arith, nat_tests) in let r = stands_where ps n
    (subst (λ (b : Bool). (b || list_any (is_named n) ps) ≡ true) f h) in (suc r.0, r.1))
    (cases_eq n.0 q.0.0)

-- at the start nothing is gone
pub settling_starts : (first : Name) (outside : List ℕ) (ps : List (Option (Name × Body))) → IsSettling first outside ps ps
settling_starts first outside ps = record {
  part = record { room = refl; places = λ k. inl refl };
  kept = λ T sup k n e m. refl;
}

-- a name named by what stands is named
pub named_counts : (ps : List (Option (Name × Body))) (owed : Name → ℕ) (t : Tally) (s : ℕ) (n : Name) → AreCounted ps owed t → name_at ps s ≡ Some n
    → get_or t.total s 0 ≡ get_or t.outside s 0 + owed n
named_counts ps owed t s n h e = h.totals s ∙ ap (λ m. get_or t.outside s 0 + m) (ap (due owed) e)

-- one pending object fewer
pub settling_step : (first : Name) (outside : List ℕ) (old now : List (Option (Name × Body))) (t : Tally) (s : ℕ) → AreApart old → t.first_new ≡ first → t.outside ≡ outside
    → s < length now → AreCounted now (namings now) t → has t.pending s ≡ true → IsSettling first outside old now → IsSettling first outside old (set now s None)
settling_step first outside old now t s apart ef eo low h in' g = record {
  part = record {
    room = length-set now s None ∙ g.part.room;
    places = λ k. ⊎_elim
        (λ (same : k ≡ s). inr (rw same (get_or-set_same now s None None low)))
        (λ (ne : k ≢ s). rw (get_or-set_other now s k None None ne) (g.part.places k))
        (cases_eq k s);
  };
  kept = λ T sup k n e m. ⊎_elim
      (λ (same : k ≡ s). absurd (never T sup n (rw (← same) e) m))
      (λ (ne : k ≢ s). get_or-set_other now s k None None ne ∙ g.kept T sup k n e m)
      (cases_eq k s);
} where
  never : (T : Name → Bool) → IsSupported first outside old T → (n : Name) → name_at old s ≡ Some n → T n ≡ true → ⊥
  never T sup n e m =
      let w : (x : Name) × (name_at now s ≡ Some x) × (t.first_new.0 ≤ x.0) × (get_or t.total s 0 ≡ 0) = (h.pending s).0 in' in
      let here : name_at now s ≡ Some n = ap (option_map (λ (q : Name × Body). q.0)) (g.kept T sup s n e m) ∙ e in
      let same : w.0 ≡ n = (let a : Some w.0 ≡ Some n = sym w.1 ∙ here in cc) in
      let high : first.0 ≤ n.0 = rw (← same, ← ef) w.2 in
      let z : get_or t.total s 0 ≡ 0 = w.3 in
      let c : get_or t.total s 0 ≡ get_or t.outside s 0 + namings now n = named_counts now (namings now) t s n h here in
      ⊎_elim
      (λ (r : IsRoot first outside old n).
      let at : r.0 ≡ s = apart r.0 s n r.1 e in
      ⊎_elim
      (λ (low' : n.0 < first.0). omega arith)
      (λ (out : 0 < get_or outside r.0 0).
      let o : 0 < get_or t.outside s 0 = subst (λ (xs : List ℕ). 0 < get_or xs s 0) (sym eo) (subst (λ (k : ℕ). 0 < get_or outside k 0) at out) in
      omega arith)
      r.2)
      (λ (r : IsNamedIn old T n).
      let p : place now r.0 ≡ place old r.0 = g.kept T sup r.0 r.1 r.2 r.3 in
      let b : 0 < times n (names_in (place now r.0)) = subst (λ (q : Option (Name × Body)). 0 < times n (names_in q)) (sym p) r.4 in
      omega (arith, times-le-namings now r.0 n))
      (sup.held n m)

-- in the end what stands is the greatest supported set
pub settled : (first : Name) (outside : List ℕ) (old now : List (Option (Name × Body))) (t : Tally) → t.first_new ≡ first → t.outside ≡ outside
    → AreCounted now (namings now) t → t.pending ≡ [] → IsSettling first outside old now → IsKept first outside old (stands now)
settled first outside old now t ef eo h none g = record {
  supported = record {
    stands = λ n m. let w = stands_where now n m in (w.0, was w.0 n w.1);
    held = λ n m. held_at n (stands_where now n m);
  };
  greatest = λ T sup n m.
      let w = sup.stands n m in
      stands_at now w.0 n (ap (option_map (λ (q : Name × Body). q.0)) (g.kept T sup w.0 n w.1 m) ∙ w.1);
} where
  same_place : (k : ℕ) (n : Name) → name_at now k ≡ Some n → place now k ≡ place old k
  same_place k n e = ⊎_elim
      (λ (p : place now k ≡ place old k). p)
      (λ (p : place now k ≡ None). absurd (let a : None ≡ Some n = sym (ap (option_map (λ (q : Name × Body). q.0)) p) ∙ e in cc))
      (g.part.places k)

  was : (k : ℕ) (n : Name) → name_at now k ≡ Some n → name_at old k ≡ Some n
  was k n e = sym (ap (option_map (λ (q : Name × Body). q.0)) (same_place k n e)) ∙ e

  names_some : (p : Option (Name × Body)) (n : Name) → 0 < times n (names_in p) → IsSome p
  names_some None n h = absurd (omega (arith, times_none n))
  names_some (Some q) n h = refl

  held_at : (n : Name) → (k : ℕ) × (name_at now k ≡ Some n) → IsRoot first outside old n ⊎ IsNamedIn old (stands now) n
  held_at n w =
      let k : ℕ = w.0 in
      let e : name_at now k ≡ Some n = w.1 in
      let c : get_or t.total k 0 ≡ get_or t.outside k 0 + namings now n = named_counts now (namings now) t k n h e in
      ⊎_elim
      (λ (low : n.0 < first.0). inl (k, was k n e, inl low))
      (λ (high : first.0 ≤ n.0). ⊎_elim
      (λ (out : 0 < get_or t.outside k 0). inl (k, was k n e, inr (subst (λ (xs : List ℕ). 0 < get_or xs k 0) eo out)))
      (λ (noout : get_or t.outside k 0 ≤ 0). ⊎_elim
      (λ (by : 0 < namings now n).
      let x : (j : ℕ) × (0 < times n (names_in (place now j))) = namer now n by in
      let y : (m : Name) × (name_at now x.0 ≡ Some m) = some_name (place now x.0) (names_some (place now x.0) n x.1) in
      inr (x.0, y.0, was x.0 y.0 y.1, stands_at now x.0 y.0 y.1, subst (λ (q : Option (Name × Body)). 0 < times n (names_in q)) (same_place x.0 y.0 y.1) x.1))
      (λ (nonaming : namings now n ≤ 0). absurd (
      let z : get_or t.total k 0 ≡ 0 = omega arith in
      let i : has t.pending k ≡ true = (h.pending k).1 (n, e, rw ef high, z) in
      let j : false ≡ true = sym (ap (λ (xs : List ℕ). has xs k) none) ∙ i in cc))
      (cases_lt 0 (namings now n)))
      (cases_lt 0 (get_or t.outside k 0)))
      (cases_lt n.0 first.0)

pub pending_stands : (ps : List (Option (Name × Body))) (owed : Name → ℕ) (t : Tally) (s : ℕ) → AreCounted ps owed t → has t.pending s ≡ true → IsSome (place ps s)
pending_stands ps owed t s h in' =
    let w : (n : Name) × (name_at ps s ≡ Some n) × (t.first_new.0 ≤ n.0) × (get_or t.total s 0 ≡ 0) = (h.pending s).0 in' in name_of_some (place ps s) w.0 w.1

-- while what it names is taken back, it stays pending
pub still_pending : (ps : List (Option (Name × Body))) (t u : Tally) (s : ℕ) → AreCounted ps (namings ps) t → has t.pending s ≡ true
    → AreCounted ps (namings (set ps s None)) u → SameOutside t u → has u.pending s ≡ true
still_pending ps t u s h in' g same =
    let low : s < length ps = within_some ps s (pending_stands ps (namings ps) t s h in') in
    let w : (n : Name) × (name_at ps s ≡ Some n) × (t.first_new.0 ≤ n.0) × (get_or t.total s 0 ≡ 0) = (h.pending s).0 in' in
    let z : get_or t.total s 0 ≡ 0 = w.3 in
    let a : get_or t.total s 0 ≡ get_or t.outside s 0 + namings ps w.0 = named_counts ps (namings ps) t s w.0 h w.1 in
    let b : get_or u.total s 0 ≡ get_or u.outside s 0 + namings (set ps s None) w.0 = named_counts ps (namings (set ps s None)) u s w.0 g w.1 in
    let o : get_or u.outside s 0 ≡ get_or t.outside s 0 = ap (λ (xs : List ℕ). get_or xs s 0) same.outside in
    let d : namings ps w.0 ≡ namings (set ps s None) w.0 + times w.0 (names_in (place ps s)) = namings_gone ps s w.0 low in
    (g.pending s).1 (w.0, w.1, rw same.first_new w.2, omega arith)

-- one turn
pub turn_counted : (ps qs : List (Option (Name × Body))) (t u v : Tally) (s : ℕ) → AreCounted ps (namings ps) t → has t.pending s ≡ true
    → ((owed : Name → ℕ) → AreCounted ps (owing owed (names_in (place ps s))) t → AreCounted ps owed u) → SameOutside t u
    → v ≡ record u { pending = without s u.pending } → qs ≡ set ps s None → AreCounted qs (namings qs) v
turn_counted ps qs t u v s h in' release same ev eq =
    let low : s < length ps = within_some ps s (pending_stands ps (namings ps) t s h in') in
    let g : AreCounted ps (namings (set ps s None)) u = release (namings (set ps s None)) (owing_own ps s t low h) in
    rw (ev, eq) (removed_one ps (namings (set ps s None)) u s low (still_pending ps t u s h in' g same) g)

pub turn_settling : (first : Name) (outside : List ℕ) (old ps qs : List (Option (Name × Body))) (t : Tally) (s : ℕ) → AreApart old → t.first_new ≡ first → t.outside ≡ outside
    → AreCounted ps (namings ps) t → has t.pending s ≡ true → qs ≡ set ps s None → IsSettling first outside old ps → IsSettling first outside old qs
turn_settling first outside old ps qs t s apart ef eo h in' eq g =
    rw eq (settling_step first outside old ps t s apart ef eo (within_some ps s (pending_stands ps (namings ps) t s h in')) h in' g)

pub turn_lost : (old ps qs : List (Option (Name × Body))) (s : ℕ) → IsPartOf old ps → IsSome (place ps s) → qs ≡ set ps s None → HasLost old qs
turn_lost old ps qs s part some eq = (
  s,
  ⊎_elim
      (λ (p : place ps s ≡ place old s). subst (λ (q : Option (Name × Body)). IsSome q) p some)
      (λ (p : place ps s ≡ None). absurd (no_some (place ps s) p some))
      (part.places s),
  rw eq (get_or-set_same ps s None None (within_some ps s some)),
)

taken_gone : (ps : List (Option (Name × Body))) (s : ℕ) → s < length ps → taken (set ps s None) + cond (is_some (place ps s)) 1 0 ≡ taken ps + 0
unfolding taken
taken_gone ps s low = sum_by-set (λ p. cond (is_some p) 1 0) ps s None None low

some_one : (p : Option (Name × Body)) → IsSome p → cond {A = ℕ} (is_some p) 1 0 ≡ 1
some_one None h = absurd (cc)
some_one (Some q) h = refl

pub turn_smaller : (ps qs : List (Option (Name × Body))) (s : ℕ) → IsSome (place ps s) → qs ≡ set ps s None → taken qs < taken ps
turn_smaller ps qs s some eq = rw eq (omega (arith, taken_gone ps s (within_some ps s some), some_one (place ps s) some))

pub outside_more : (t u v w : Tally) (s : ℕ) → SameOutside t u → SameOutside u v → w ≡ record v { pending = without s v.pending } → SameOutside t w
outside_more t u v w s h g e = record {
  first_new = rw e (g.first_new ∙ h.first_new);
  outside = rw e (g.outside ∙ h.outside);
  total = rw e (g.total ∙ h.total);
}
