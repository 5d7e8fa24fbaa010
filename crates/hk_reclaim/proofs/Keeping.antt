-- What a table needs to keep its counts right as it makes and changes objects.
use Rattle.std.proofs.Common.{◌≡◌, ◌≢◌, ℕ, zero, suc, ◌+◌, ◌-◌, ◌<◌, ◌≤◌, Bool, true, false, List, [], ◌∷◌, length, get_or, set, refl, ap, ◌∙◌, sym, subst, arith, ⊎_elim}
use Rattle.std.proofs.Common.{get_or-set_same, get_or-set_other, length-set, Option, Some, None, IsSome, option_map, ◌↔◌, replicate}
use Rattle.std.proofs.lemmas.Bool.Decides.{nat_tests}
use Rattle.std.proofs.lemmas.Bool.{cases_eq}
use Rattle.std.proofs.lemmas.List.{ext_get_or, length-map}
use Rattle.std.proofs.lemmas.List.Sums.{sum_by-set}
use Rattle.std.proofs.lemmas.Map.Entries.{option_filter}
use Rattle.std.specs.Bool.{◌==◌}
use Rattle.hk_links.specs.Chained.{without}
use Rattle.hk_model.specs.declared.names.Name.{Name}
use Rattle.hk_objects.specs.declared.body.Body.{Body}
use Rattle.hk_objects.specs.Slots.{place, name_at, AreApart}
use Rattle.hk_reclaim.specs.Naming.{names_in, times, namings, stands}
use Rattle.hk_reclaim.specs.Kept.{IsKept, IsPartOf, only}
use Rattle.hk_reclaim.specs.Tally.{Tally, has, raised, lowered, released, due, owing, AreCounted}
use Rattle.hk_reclaim.proofs.Fields.{has_without}
use Rattle.hk_reclaim.proofs.Counting.{due_named, due_other, due_same, times_none, released_pending, no_some}
use Rattle.hk_reclaim.proofs.Settling.{stands_at, stands_where, name_of_some}

-- two greatest supported sets are one
pub kept_unique : (first : Name) (outside : List ℕ) (ps : List (Option (Name × Body))) (S T : Name → Bool) → IsKept first outside ps S → IsKept first outside ps T → (n : Name)
    → S n ≡ T n
kept_unique first outside ps S T s t n = by (S n) (T n) (t.greatest S s.supported n) (s.greatest T t.supported n) where
  by : (a b : Bool) → (a ≡ true → b ≡ true) → (b ≡ true → a ≡ true) → a ≡ b
  by true b f g = sym (f refl)
  by false true f g = g refl
  by false false f g = refl

-- what is left is the table restricted to what stands
pub part_is : (old new : List (Option (Name × Body))) → AreApart old → IsPartOf old new → new ≡ only (stands new) old
part_is old new apart part = ext_get_or None new (only (stands new) old) (part.room ∙ sym (length-map old (option_filter (λ (e : Name × Body). stands new e.0))))
    (λ k low. same k (place old k) refl ∙ sym (at old k)) where
      at : (ps : List (Option (Name × Body))) (k : ℕ) → place (only (stands new) ps) k ≡ option_filter (λ (e : Name × Body). stands new e.0) (place ps k)
      at [] k = refl
      at (p ∷ ps) zero = refl
      at (p ∷ ps) (suc k) = at ps k

      no_true : (b : Bool) → (b ≡ true → ⊥) → b ≡ false
      no_true true h = absurd (h refl)
      no_true false h = refl

      gone : (k : ℕ) (q : Name × Body) → place old k ≡ Some q → place new k ≡ None → stands new q.0 ≡ true → ⊥
      gone k q here none st =
          let w : (j : ℕ) × (name_at new j ≡ Some q.0) = stands_where new q.0 st in
          let p : place new w.0 ≡ place old w.0 = ⊎_elim
          (λ (p : place new w.0 ≡ place old w.0). p)
          (λ (p : place new w.0 ≡ None). absurd (let a : None ≡ Some q.0 = sym (ap (option_map (λ (e : Name × Body). e.0)) p) ∙ w.1 in cc))
          (part.places w.0) in
          let j : w.0 ≡ k = apart w.0 k q.0 (sym (ap (option_map (λ (e : Name × Body). e.0)) p) ∙ w.1) (ap (option_map (λ (e : Name × Body). e.0)) here) in
          let e : name_at new k ≡ Some q.0 = sym (ap (name_at new) j) ∙ w.1 in
          let f : None ≡ Some q.0 = sym (ap (option_map (λ (e : Name × Body). e.0)) none) ∙ e in cc

      same : (k : ℕ) (p : Option (Name × Body)) → place old k ≡ p → place new k ≡ option_filter (λ (e : Name × Body). stands new e.0) (place old k)
      same k None here = rw here (⊎_elim (λ (e : place new k ≡ place old k). e ∙ here) (λ (e : place new k ≡ None). e) (part.places k))
      same k (Some q) here = rw here (⊎_elim
          (λ (e : place new k ≡ place old k).
          let st : stands new q.0 ≡ true = stands_at new k q.0 (ap (option_map (λ (e : Name × Body). e.0)) (e ∙ here)) in
          rw st (e ∙ here))
          (λ (e : place new k ≡ None).
          let st : stands new q.0 ≡ false = no_true (stands new q.0) (gone k q here e) in
          rw st e)
          (part.places k))

held_pending : (ps : List (Option (Name × Body))) (owed : Name → ℕ) (t : Tally) (s : ℕ) → s < length t.total → AreCounted ps owed t
    → (k : ℕ) → has (without s t.pending) k ≡ true ↔ ((n : Name) × (name_at ps k ≡ Some n) × (t.first_new.0 ≤ n.0) × (get_or (raised t.total s) k 0 ≡ 0))
held_pending ps owed t s low h k = ⊎_elim
    (λ (same : k ≡ s).
    let nt : get_or (raised t.total s) s 0 ≡ get_or t.total s 0 + 1 = get_or-set_same t.total s (get_or t.total s 0 + 1) 0 low in
    let f : (k == s) ≡ true = grind (arith, nat_tests) in
    rw (has_without s k t.pending, f) (
      λ e. absurd (cc),
      λ w. absurd
          (let z : get_or (raised t.total s) s 0 ≡ 0 = subst (λ (j : ℕ). get_or (raised t.total s) j 0 ≡ 0) same w.3 in omega arith),
    ))
    (λ (ne : k ≢ s).
    let f : (k == s) ≡ false = grind (arith, nat_tests) in
    let o : get_or (raised t.total s) k 0 ≡ get_or t.total k 0 = get_or-set_other t.total s k (get_or t.total s 0 + 1) 0 ne in
    rw (has_without s k t.pending, f) (λ e. let w = (h.pending k).0 e in (w.0, w.1, w.2, o ∙ w.3), λ w. (h.pending k).1 (w.0, w.1, w.2, sym o ∙ w.3)))
    (cases_eq k s)

-- a naming from outside more
pub hold_outside_counted : (ps : List (Option (Name × Body))) (owed : Name → ℕ) (t : Tally) (s : ℕ) → s < length t.total → AreCounted ps owed t
    → AreCounted ps owed (record t { outside = raised t.outside s; total = raised t.total s; pending = without s t.pending })
hold_outside_counted ps owed t s low h =
    let lowo : s < length t.outside = omega (arith, h.sizes) in
    let nt : get_or (raised t.total s) s 0 ≡ get_or t.total s 0 + 1 = get_or-set_same t.total s (get_or t.total s 0 + 1) 0 low in
    let no : get_or (raised t.outside s) s 0 ≡ get_or t.outside s 0 + 1 = get_or-set_same t.outside s (get_or t.outside s 0 + 1) 0 lowo in
    record {
      sizes = length-set t.outside s (get_or t.outside s 0 + 1) ∙ h.sizes ∙ sym (length-set t.total s (get_or t.total s 0 + 1));
      room = λ k some. rw (length-set t.total s (get_or t.total s 0 + 1)) (h.room k some);
      totals = λ k. ⊎_elim
          (λ (same : k ≡ s). let hs : get_or t.total s 0 ≡ get_or t.outside s 0 + due owed (name_at ps s) = h.totals s in rw (same, nt, no) (omega arith))
          (λ (ne : k ≢ s). rw (get_or-set_other t.total s k (get_or t.total s 0 + 1) 0 ne, get_or-set_other t.outside s k (get_or t.outside s 0 + 1) 0 ne) (h.totals k))
          (cases_eq k s);
      pending = held_pending ps owed t s low h;
    }

-- a naming from outside fewer
pub release_outside_counted : (ps : List (Option (Name × Body))) (owed : Name → ℕ) (t : Tally) (s : ℕ) (x : Name) → name_at ps s ≡ Some x → s < length t.total
    → 0 < get_or t.outside s 0 → AreCounted ps owed t
    → AreCounted ps owed (record (released t s x) { outside = lowered t.outside s })
release_outside_counted ps owed t s x here low some h =
    let lowo : s < length t.outside = omega (arith, h.sizes) in
    let hs : get_or t.total s 0 ≡ get_or t.outside s 0 + due owed (name_at ps s) = h.totals s in
    let nt : get_or (lowered t.total s) s 0 ≡ get_or t.total s 0 - 1 = get_or-set_same t.total s (get_or t.total s 0 - 1) 0 low in
    let no : get_or (lowered t.outside s) s 0 ≡ get_or t.outside s 0 - 1 = get_or-set_same t.outside s (get_or t.outside s 0 - 1) 0 lowo in
    record {
      sizes = length-set t.outside s (get_or t.outside s 0 - 1) ∙ h.sizes ∙ sym (length-set t.total s (get_or t.total s 0 - 1));
      room = λ k some. rw (length-set t.total s (get_or t.total s 0 - 1)) (h.room k some);
      totals = λ k. ⊎_elim
          (λ (same : k ≡ s). rw (same, nt, no) (omega arith))
          (λ (ne : k ≢ s). rw (get_or-set_other t.total s k (get_or t.total s 0 - 1) 0 ne, get_or-set_other t.outside s k (get_or t.outside s 0 - 1) 0 ne) (h.totals k))
          (cases_eq k s);
      pending = released_pending ps owed t s x here (omega arith) low h;
    }

-- a naming by an object more
pub hold_inside_counted : (ps : List (Option (Name × Body))) (owed : Name → ℕ) (t : Tally) (s : ℕ) (x : Name) → AreApart ps → name_at ps s ≡ Some x → s < length t.total
    → AreCounted ps owed t
    → AreCounted ps (owing owed (x ∷ [])) (record t { total = raised t.total s; pending = without s t.pending })
hold_inside_counted ps owed t s x apart here low h =
    let nt : get_or (raised t.total s) s 0 ≡ get_or t.total s 0 + 1 = get_or-set_same t.total s (get_or t.total s 0 + 1) 0 low in
    let hs : get_or t.total s 0 ≡ get_or t.outside s 0 + due owed (name_at ps s) = h.totals s in
    let d : due (owing owed (x ∷ [])) (name_at ps s) ≡ due (owing owed []) (name_at ps s) + 1 = due_named owed x [] (name_at ps s) here in
    let none : (k : ℕ) → due (owing owed []) (name_at ps k) ≡ due owed (name_at ps k) = λ k. due_same (owing owed []) owed (name_at ps k)
    (λ n. let z : times n [] ≡ 0 = times_none n in omega arith) in
    record {
      sizes = h.sizes ∙ sym (length-set t.total s (get_or t.total s 0 + 1));
      room = λ k some. rw (length-set t.total s (get_or t.total s 0 + 1)) (h.room k some);
      totals = λ k. ⊎_elim
          (λ (same : k ≡ s). rw (same, nt) (omega (arith, none s)))
          (λ (ne : k ≢ s). get_or-set_other t.total s k (get_or t.total s 0 + 1) 0 ne ∙ h.totals k ∙ ap (λ m. get_or t.outside k 0 + m)
          (sym (due_other owed x [] (name_at ps k) (λ e. ne (apart k s x e here)) ∙ none k)))
          (cases_eq k s);
      pending = held_pending ps owed t s low h;
    }

-- a change of a slot lowers the namings by what stood there, and raises them by what stands there now
pub namings_set : (ps : List (Option (Name × Body))) (s : ℕ) (p : Option (Name × Body)) (n : Name) → s < length ps
    → namings (set ps s p) n + times n (names_in (place ps s)) ≡ namings ps n + times n (names_in p)
unfolding namings
namings_set ps s p n low = sum_by-set (λ p. times n (names_in p)) ps s p None low

-- a new object, named from outside at once
pub made_counted : (ps : List (Option (Name × Body))) (owed : Name → ℕ) (t : Tally) (s : ℕ) (n : Name) (b : Body) → s < length ps → s < length t.total → place ps s ≡ None
    → owed n ≡ 0 → AreCounted ps owed t
    → AreCounted (set ps s (Some (n, b))) owed (record t { outside = raised t.outside s; total = raised t.total s; pending = without s t.pending })
made_counted ps owed t s n b lowp low free fresh h =
    let g = hold_outside_counted ps owed t s low h in
    let here : name_at (set ps s (Some (n, b))) s ≡ Some n = ap (option_map (λ (e : Name × Body). e.0)) (get_or-set_same ps s (Some (n, b)) None lowp) in
    let was : name_at ps s ≡ None = ap (option_map (λ (e : Name × Body). e.0)) free in
    let other : (k : ℕ) → k ≢ s → name_at (set ps s (Some (n, b))) k ≡ name_at ps k = λ k ne. ap (option_map (λ (e : Name × Body). e.0))
    (get_or-set_other ps s k (Some (n, b)) None ne) in
    let nt : get_or (raised t.total s) s 0 ≡ get_or t.total s 0 + 1 = get_or-set_same t.total s (get_or t.total s 0 + 1) 0 low in
    record {
      sizes = g.sizes;
      room = λ k some. ⊎_elim
          (λ (same : k ≡ s). rw (same, length-set t.total s (get_or t.total s 0 + 1)) low)
          (λ (ne : k ≢ s). g.room k (subst (λ (p : Option (Name × Body)). IsSome p) (get_or-set_other ps s k (Some (n, b)) None ne) some))
          (cases_eq k s);
      totals = λ k. ⊎_elim
          (λ (same : k ≡ s). let gs : get_or (raised t.total s) s 0 ≡ get_or (raised t.outside s) s 0 + due owed (name_at ps s) = g.totals s in let z : due owed (name_at ps s)
          ≡ 0 = ap (due owed) was in rw (same, here) (omega arith))
          (λ (ne : k ≢ s). g.totals k ∙ ap (λ (p : Option Name). get_or (raised t.outside s) k 0 + due owed p) (sym (other k ne)))
          (cases_eq k s);
      pending = λ k. ⊎_elim
          (λ (same : k ≡ s).
          let f : (k == s) ≡ true = grind (arith, nat_tests) in
          rw (has_without s k t.pending, f) (
            λ e. absurd (cc),
            λ w. absurd
                (let z : get_or (raised t.total s) s 0 ≡ 0 = subst (λ (j : ℕ). get_or (raised t.total s) j 0 ≡ 0) same w.3 in omega arith),
          ))
          (λ (ne : k ≢ s). rw (other k ne) (g.pending k))
          (cases_eq k s);
    }

-- nothing stands at the start, and nothing is counted
zero_at : (m k : ℕ) → get_or {A = ℕ} (replicate m 0) k 0 ≡ 0
zero_at zero k = refl
zero_at (suc m) zero = refl
zero_at (suc m) (suc k) = zero_at m k

pub empty_counted : (ps : List (Option (Name × Body))) (t : Tally) (m : ℕ) (first : Name) → ((k : ℕ) → place ps k ≡ None)
    → t ≡ record { first_new = first; outside = replicate m 0; total = replicate m 0; pending = [] } → AreCounted ps (namings ps) t
empty_counted ps t m first none e = subst (λ (u : Tally). AreCounted ps (namings ps) u) (sym e) (record {
  sizes = refl;
  room = λ k some. absurd (no_some (place ps k) (none k) some);
  totals = λ k. let z : due (namings ps) (name_at ps k) ≡ 0 = ap (due (namings ps)) (ap (option_map (λ (q : Name × Body). q.0)) (none k)) in omega (arith, zero_at m k);
  pending = λ k. (λ h. absurd (cc), λ w. absurd (no_some (place ps k) (none k) (name_of_some (place ps k) w.0 w.1)));
})
