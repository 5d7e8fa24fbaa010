-- What a release and a removal do to the counts.
use Rattle.std.proofs.Common.{◌≡◌, ◌≢◌, ℕ, zero, suc, ◌+◌, ◌-◌, ◌<◌, ◌≤◌, Bool, true, false, cond, List, [], ◌∷◌, ◌++◌, length, get_or, set, refl, ap, ◌∙◌, sym, subst, arith}
use Rattle.std.proofs.Common.{⊎_elim, get_or-set_same, get_or-set_other, length-set, Option, Some, None, IsSome, option_map, ◌||◌, ◌↔◌}
use Rattle.std.proofs.lemmas.Bool.Decides.{nat_tests}
use Rattle.std.proofs.lemmas.Bool.{cases_eq, cases_lt}
use Rattle.std.proofs.lemmas.List.{get_or_past}
use Rattle.std.proofs.lemmas.List.Sums.{sum_by-cons, sum_by-set, get_or-le-sum_by}
use Rattle.std.proofs.lemmas.List.Folds.{list_any-append}
use Rattle.std.specs.Bool.{◌==◌}
use Rattle.std.specs.List.{sum_by}
use Rattle.hk_links.specs.Chained.{without}
use Rattle.hk_model.specs.declared.names.Name.{Name}
use Rattle.hk_objects.specs.declared.body.Body.{Body}
use Rattle.hk_objects.specs.Slots.{place, name_at, AreApart}
use Rattle.hk_reclaim.specs.Naming.{names_in, times, namings, with_name}
use Rattle.hk_reclaim.specs.Tally.{Tally, has, is_due, released, lowered, due, owing, AreCounted, IsReleasable, IsReleased}
use Rattle.hk_reclaim.proofs.Fields.{has_without}

pub same_names : (n m : Name) → n.0 ≡ m.0 → n ≡ m
same_names n m e = ap (λ (x : ℕ). let y : Name = record { 0 = x } in y) e

-- how often a list has a name
pub times_none : (n : Name) → times n [] ≡ 0
unfolding times
times_none n = refl

pub times-cons : (n x : Name) (xs : List Name) → times n (x ∷ xs) ≡ cond (n.0 == x.0) 1 0 + times n xs
unfolding times
times-cons n x xs = sum_by-cons (λ m. cond (n.0 == m.0) 1 0) x xs

pub times_same : (n : Name) (xs : List Name) → times n (n ∷ xs) ≡ 1 + times n xs
times_same n xs = times-cons n n xs ∙ grind (arith, nat_tests)

pub times_other : (n x : Name) (xs : List Name) → n ≢ x → times n (x ∷ xs) ≡ times n xs
times_other n x xs ne = let k : n.0 ≢ x.0 = λ e. ne (same_names n x e) in times-cons n x xs ∙ grind (arith, nat_tests)

-- removing an object lowers the namings by its own
pub namings_gone : (ps : List (Option (Name × Body))) (s : ℕ) (n : Name) → s < length ps → namings ps n ≡ namings (set ps s None) n + times n (names_in (place ps s))
unfolding namings
namings_gone ps s n low =
    let h : sum_by (λ p. times n (names_in p)) (set ps s None) + times n (names_in (place ps s)) ≡ sum_by (λ p. times n (names_in p)) ps + times n [] = sum_by-set
    (λ p. times n (names_in p)) ps s None None low in
    let z : times n [] ≡ 0 = times_none n in
    omega arith

-- an object's own are among the namings
pub times-le-namings : (ps : List (Option (Name × Body))) (k : ℕ) (n : Name) → times n (names_in (place ps k)) ≤ namings ps n
unfolding namings
times-le-namings ps k n =
    ⊎_elim
    (λ (low : k < length ps). get_or-le-sum_by (λ p. times n (names_in p)) ps k None low)
    (λ (high : length ps ≤ k). let e : place ps k ≡ None = get_or_past ps k None high in let z : times n (names_in (place ps k)) ≡ 0 = ap
    (λ (p : Option (Name × Body)). times n (names_in p)) e ∙ times_none n in omega arith)
    (cases_lt k (length ps))

pub namings-cons : (p : Option (Name × Body)) (ps : List (Option (Name × Body))) (n : Name) → namings (p ∷ ps) n ≡ times n (names_in p) + namings ps n
unfolding namings
namings-cons p ps n = sum_by-cons (λ p. times n (names_in p)) p ps

pub namings_none : (n : Name) → namings [] n ≡ 0
unfolding namings
namings_none n = refl

-- what is named is named in some slot
pub namer : (ps : List (Option (Name × Body))) (n : Name) → 0 < namings ps n → (k : ℕ) × (0 < times n (names_in (place ps k)))
namer [] n h = absurd (omega (arith, namings_none n))
namer (p ∷ ps) n h =
    ⊎_elim
    (λ (here : 0 < times n (names_in p)). (zero, here))
    (λ (not : times n (names_in p) ≤ 0). let r = namer ps n (omega (arith, namings-cons p ps n)) in (suc r.0, r.1))
    (cases_lt 0 (times n (names_in p)))

-- counts for an equal debt
pub due_same : (f g : Name → ℕ) (p : Option Name) → ((n : Name) → f n ≡ g n) → due f p ≡ due g p
due_same f g None h = refl
due_same f g (Some n) h = h n

pub counted_same : (ps : List (Option (Name × Body))) (f g : Name → ℕ) (t : Tally) → ((n : Name) → f n ≡ g n) → AreCounted ps f t → AreCounted ps g t
counted_same ps f g t e h = record {
  sizes = h.sizes;
  room = h.room;
  totals = λ k. h.totals k ∙ ap (λ m. get_or t.outside k 0 + m) (due_same f g (name_at ps k) e);
  pending = h.pending;
}

pub due_named : (owed : Name → ℕ) (x : Name) (rest : List Name) (p : Option Name) → p ≡ Some x → due (owing owed (x ∷ rest)) p ≡ due (owing owed rest) p + 1
due_named owed x rest p e = rw e (let h : times x (x ∷ rest) ≡ 1 + times x rest = times_same x rest in omega arith)

pub due_other : (owed : Name → ℕ) (x : Name) (rest : List Name) (p : Option Name) → p ≢ Some x → due (owing owed (x ∷ rest)) p ≡ due (owing owed rest) p
due_other owed x rest None ne = refl
due_other owed x rest (Some n) ne = ap (λ m. owed n + m) (times_other n x rest (λ e. ne (ap (λ (m : Name). Some m) e)))

pub releasable : (ps : List (Option (Name × Body))) (name : Option Name) (rest : List Name) (owed : Name → ℕ) (t : Tally) → AreCounted ps (owing owed (with_name name rest)) t
    → IsReleasable ps t name
releasable ps None rest owed t h = tt
releasable ps (Some x) rest owed t h = λ k e.
    let d : due (owing owed (x ∷ rest)) (name_at ps k) ≡ due (owing owed rest) (name_at ps k) + 1 = due_named owed x rest (name_at ps k) e in
    (h.room k (taken k x e), omega (arith, h.totals k)) where
      taken : (k : ℕ) (n : Name) → name_at ps k ≡ Some n → IsSome (place ps k)
      taken k n e = some (place ps k) n e where
        some : (p : Option (Name × Body)) (n : Name) → option_map (λ (e : Name × Body). e.0) p ≡ Some n → IsSome p
        some None n e = absurd (cc)
        some (Some q) n e = refl

push_has : (b : Bool) (xs : List ℕ) (s : ℕ) → has xs s ≡ false → has (cond b (xs ++ s ∷ []) xs) s ≡ b
push_has true xs s h = list_any-append (λ x. s == x) xs (s ∷ []) ∙ grind (arith, nat_tests)
push_has false xs s h = h

push_other : (b : Bool) (xs : List ℕ) (s k : ℕ) → k ≢ s → has (cond b (xs ++ s ∷ []) xs) k ≡ has xs k
push_other true xs s k ne = list_any-append (λ x. k == x) xs (s ∷ []) ∙ (let h : (k == s) ≡ false = grind (arith, nat_tests) in rw h (or_false (has xs k))) where
  or_false : (b : Bool) → (b || (false || false)) ≡ b
  or_false true = refl
  or_false false = refl
push_other false xs s k ne = refl

due_from : (first name : Name) (total : ℕ) → is_due first total name ≡ true → (first.0 ≤ name.0) × (total ≡ 0)
due_from first name total h = (grind (arith, nat_tests), grind (arith, nat_tests))

due_to : (first name : Name) (total : ℕ) → first.0 ≤ name.0 → total ≡ 0 → is_due first total name ≡ true
due_to first name total low z = grind (arith, nat_tests)

-- what is pending after a naming fewer
pub released_pending : (ps : List (Option (Name × Body))) (owed : Name → ℕ) (t : Tally) (s : ℕ) (x : Name) → name_at ps s ≡ Some x → 0 < get_or t.total s 0 → s < length t.total
    → AreCounted ps owed t
    → (k : ℕ) → has (released t s x).pending k ≡ true ↔ ((n : Name) × (name_at ps k ≡ Some n) × (t.first_new.0 ≤ n.0) × (get_or (lowered t.total s) k 0 ≡ 0))
released_pending ps owed t s x here some low h k =
    let now : get_or (lowered t.total s) s 0 ≡ get_or t.total s 0 - 1 = get_or-set_same t.total s (get_or t.total s 0 - 1) 0 low in
    let out : has t.pending s ≡ false = not_in (has t.pending s) (λ e. let w = (h.pending s).0 e in let z : get_or t.total s 0 ≡ 0 = w.3 in omega arith) in
    ⊎_elim
    (λ (same : k ≡ s). rw (same, push_has (is_due t.first_new (get_or t.total s 0 - 1) x) t.pending s out) (
      λ e. let w = due_from t.first_new x (get_or t.total s 0 - 1) e in (x, here, w.0, now ∙ w.1),
      λ w. let n : w.0 ≡ x = (let a : Some w.0 ≡ Some x = sym w.1 ∙ here in cc) in due_to t.first_new x (get_or t.total s 0 - 1)
          (subst (λ (m : Name). t.first_new.0 ≤ m.0) n w.2) (sym now ∙ w.3),
    ))
    (λ (ne : k ≢ s).
    let o : get_or (lowered t.total s) k 0 ≡ get_or t.total k 0 = get_or-set_other t.total s k (get_or t.total s 0 - 1) 0 ne in
    rw (push_other (is_due t.first_new (get_or t.total s 0 - 1) x) t.pending s k ne) (
      λ e. let w = (h.pending k).0 e in (w.0, w.1, w.2, o ∙ w.3),
      λ w. (h.pending k).1 (w.0, w.1, w.2, sym o ∙ w.3),
    ))
    (cases_eq k s) where
      not_in : (b : Bool) → (b ≡ true → ⊥) → b ≡ false
      not_in true h = absurd (h refl)
      not_in false h = refl

-- a naming fewer, by what it counts
released_one : (ps : List (Option (Name × Body))) (x : Name) (rest : List Name) (owed : Name → ℕ) (t : Tally) (s : ℕ) → AreApart ps → name_at ps s ≡ Some x
    → AreCounted ps (owing owed (x ∷ rest)) t → AreCounted ps (owing owed rest) (released t s x)
released_one ps x rest owed t s apart here h =
    let d : due (owing owed (x ∷ rest)) (name_at ps s) ≡ due (owing owed rest) (name_at ps s) + 1 = due_named owed x rest (name_at ps s) here in
    let ts : get_or t.total s 0 ≡ get_or t.outside s 0 + due (owing owed (x ∷ rest)) (name_at ps s) = h.totals s in
    let low : s < length t.total = ⊎_elim (λ (l : s < length t.total). l)
    (λ (g : length t.total ≤ s). absurd (let z : get_or t.total s 0 ≡ 0 = get_or_past t.total s 0 g in omega arith)) (cases_lt s (length t.total)) in
    let now : get_or (lowered t.total s) s 0 ≡ get_or t.total s 0 - 1 = get_or-set_same t.total s (get_or t.total s 0 - 1) 0 low in
    record {
      sizes = h.sizes ∙ sym (length-set t.total s (get_or t.total s 0 - 1));
      room = λ k some. rw (length-set t.total s (get_or t.total s 0 - 1)) (h.room k some);
      totals = λ k. ⊎_elim
          (λ (same : k ≡ s). rw same (now ∙ omega arith))
          (λ (ne : k ≢ s). get_or-set_other t.total s k (get_or t.total s 0 - 1) 0 ne ∙ h.totals k ∙ ap (λ m. get_or t.outside k 0 + m)
          (due_other owed x rest (name_at ps k) (λ e. ne (apart k s x e here))))
          (cases_eq k s);
      pending = released_pending ps (owing owed (x ∷ rest)) t s x here (omega arith) low h;
    }

-- a name that no slot has counts nowhere
released_none : (ps : List (Option (Name × Body))) (x : Name) (rest : List Name) (owed : Name → ℕ) (t : Tally) → ((k : ℕ) → name_at ps k ≡ Some x → ⊥)
    → AreCounted ps (owing owed (x ∷ rest)) t → AreCounted ps (owing owed rest) t
released_none ps x rest owed t none h = record {
  sizes = h.sizes;
  room = h.room;
  totals = λ k. h.totals k ∙ ap (λ m. get_or t.outside k 0 + m) (due_other owed x rest (name_at ps k) (none k));
  pending = h.pending;
}

pub released_name : (ps : List (Option (Name × Body))) (name : Option Name) (rest : List Name) (owed : Name → ℕ) (old new : Tally) → AreApart ps → IsReleased ps name old new
    → AreCounted ps (owing owed (with_name name rest)) old → AreCounted ps (owing owed rest) new
released_name ps None rest owed old new apart e h = subst (λ (t : Tally). AreCounted ps (owing owed rest) t) (sym e) h
released_name ps (Some x) rest owed old new apart r h =
    ⊎_elim
    (λ (w : (k : ℕ) × (name_at ps k ≡ Some x) × (new ≡ released old k x)). subst (λ (t : Tally). AreCounted ps (owing owed rest) t) (sym w.2)
    (released_one ps x rest owed old w.0 apart w.1 h))
    (λ (w : ((k : ℕ) → name_at ps k ≡ Some x → ⊥) × (new ≡ old)). subst (λ (t : Tally). AreCounted ps (owing owed rest) t) (sym w.1) (released_none ps x rest owed old w.0 h))
    r

-- nothing more is owed
pub owing_nothing : (ps : List (Option (Name × Body))) (owed : Name → ℕ) (t : Tally) → AreCounted ps (owing owed []) t → AreCounted ps owed t
owing_nothing ps owed t h = counted_same ps (owing owed []) owed t (λ n. let z : times n [] ≡ 0 = times_none n in omega arith) h

-- before an object goes, what it names is owed
pub owing_own : (ps : List (Option (Name × Body))) (s : ℕ) (t : Tally) → s < length ps → AreCounted ps (namings ps) t
    → AreCounted ps (owing (namings (set ps s None)) (names_in (place ps s))) t
owing_own ps s t low h = counted_same ps (namings ps) (owing (namings (set ps s None)) (names_in (place ps s))) t (λ n. namings_gone ps s n low) h

pub name_at_gone : (ps : List (Option (Name × Body))) (s k : ℕ) → k ≢ s → name_at (set ps s None) k ≡ name_at ps k
name_at_gone ps s k ne = ap (option_map (λ (e : Name × Body). e.0)) (get_or-set_other ps s k None None ne)

pub name_at_none : (ps : List (Option (Name × Body))) (s : ℕ) → s < length ps → name_at (set ps s None) s ≡ None
name_at_none ps s low = ap (option_map (λ (e : Name × Body). e.0)) (get_or-set_same ps s None None low)

pub no_some : (p : Option (Name × Body)) → p ≡ None → IsSome p → ⊥
no_some None e h = absurd (cc)
no_some (Some q) e h = absurd (cc)

-- a pending object goes
pub removed_one : (ps : List (Option (Name × Body))) (owed : Name → ℕ) (t : Tally) (s : ℕ) → s < length ps → has t.pending s ≡ true → AreCounted ps owed t
    → AreCounted (set ps s None) owed (record t { pending = without s t.pending })
removed_one ps owed t s low in' h =
    let gone : name_at (set ps s None) s ≡ None = name_at_none ps s low in
    let w : (n : Name) × (name_at ps s ≡ Some n) × (t.first_new.0 ≤ n.0) × (get_or t.total s 0 ≡ 0) = (h.pending s).0 in' in
    let zero' : get_or t.total s 0 ≡ 0 = w.3 in
    let ts : get_or t.total s 0 ≡ get_or t.outside s 0 + due owed (name_at ps s) = h.totals s in
    record {
      sizes = h.sizes;
      room = λ k some. ⊎_elim
          (λ (same : k ≡ s). absurd (no_some (place (set ps s None) k) (rw same (get_or-set_same ps s None None low)) some))
          (λ (ne : k ≢ s). h.room k (subst (λ (p : Option (Name × Body)). IsSome p) (get_or-set_other ps s k None None ne) some))
          (cases_eq k s);
      totals = λ k. ⊎_elim
          (λ (same : k ≡ s). rw (same, gone) (omega arith))
          (λ (ne : k ≢ s). rw (name_at_gone ps s k ne) (h.totals k))
          (cases_eq k s);
      pending = λ k. ⊎_elim
          (λ (same : k ≡ s).
          let f : (k == s) ≡ true = grind (arith, nat_tests) in
          rw (has_without s k t.pending, f) (λ e. absurd (cc), λ v. absurd (let a : None ≡ Some v.0 = sym gone ∙ sym (ap (name_at (set ps s None)) same) ∙ v.1 in cc)))
          (λ (ne : k ≢ s).
          let f : (k == s) ≡ false = grind (arith, nat_tests) in
          rw (has_without s k t.pending, f, name_at_gone ps s k ne) (h.pending k))
          (cases_eq k s);
    }
