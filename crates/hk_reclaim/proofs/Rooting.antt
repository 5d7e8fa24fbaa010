-- The marked objects and the opening ones are those that are reached.
use Rattle.std.proofs.Common.{◌≡◌, ℕ, ◌+◌, ◌<◌, ◌≤◌, Bool, true, false, cond, List, length, get_or, refl, ap, ◌∙◌, sym, subst, arith, ⊎_elim, inl}
use Rattle.std.proofs.Common.{inr, Option, Some, None, IsSome, option_map, ◌||◌, ◌&&◌, not, nat_lt}
use Rattle.std.proofs.lemmas.Bool.Decides.{nat_tests}
use Rattle.std.proofs.lemmas.Bool.{cases_lt}
use Rattle.hk_model.specs.declared.names.Name.{Name}
use Rattle.hk_objects.specs.declared.body.Body.{Body}
use Rattle.hk_objects.specs.Slots.{place, name_at}
use Rattle.hk_reclaim.specs.Naming.{names_in, times, namings}
use Rattle.hk_reclaim.specs.Made.{is_made, AreMade, IsFirst, IsSweptTo, AreLeft}
use Rattle.hk_reclaim.specs.Marks.{Marked}
use Rattle.hk_reclaim.specs.Reach.{IsInRoom, IsWalked, IsMarking, is_opening, is_lost, stays}
use Rattle.hk_reclaim.specs.Tally.{has}
use Rattle.hk_reclaim.proofs.Counting.{times_none, times-le-namings, namer, no_some}
use Rattle.hk_reclaim.proofs.Settling.{name_of_some, some_name}
use Rattle.hk_reclaim.proofs.Reaching.{has_get, get_within, or_left, or_right, or_cases}

-- an object is an opening one or a made one
pub made_high : (first n : Name) → not (nat_lt n.0 first.0) ≡ true → first.0 ≤ n.0
made_high first n h = grind (arith, nat_tests)

pub high_made : (first n : Name) → first.0 ≤ n.0 → not (nat_lt n.0 first.0) ≡ true
high_made first n h = let f : nat_lt n.0 first.0 ≡ false = grind (arith, nat_tests) in rw f refl

opening_low : (first n : Name) → nat_lt n.0 first.0 ≡ true → n.0 < first.0
opening_low first n h = grind (arith, nat_tests)

low_opening : (first n : Name) → n.0 < first.0 → nat_lt n.0 first.0 ≡ true
low_opening first n h = grind (arith, nat_tests)

opening_unmade : (first : Name) (p : Option Name) → is_opening first p ≡ true → is_made first p ≡ false
opening_unmade first None h = refl
opening_unmade first (Some n) h = ap not h

unmade_opening : (first n : Name) → not (nat_lt n.0 first.0) ≡ false → n.0 < first.0
unmade_opening first n h = ⊎_elim
    (λ (low : n.0 < first.0). low)
    (λ (high : first.0 ≤ n.0). absurd (let t : not (nat_lt n.0 first.0) ≡ true = high_made first n high in cc))
    (cases_lt n.0 first.0)

pub stays_unlost : (first : Name) (ps : List (Option (Name × Body))) (marks : List ℕ) (k : ℕ) → stays first ps marks k ≡ true → is_lost first ps marks k ≡ false
stays_unlost first ps marks k h = by (name_at ps k) (has marks k) h where
  both : (a b : Bool) → (a || b) ≡ true → (not a && not b) ≡ false
  both true b h = refl
  both false true h = refl
  both false false h = absurd (cc)

  by : (p : Option Name) (b : Bool) → (is_opening first p || b) ≡ true → (is_made first p && not b) ≡ false
  by None b h = refl
  by (Some n) b h = both (nat_lt n.0 first.0) b h

pub leaves_lost : (first : Name) (ps : List (Option (Name × Body))) (marks : List ℕ) (k : ℕ) → stays first ps marks k ≡ false → IsSome (place ps k)
    → is_lost first ps marks k ≡ true
leaves_lost first ps marks k h some = by (place ps k) (has marks k) some h where
  both : (a b : Bool) → (a || b) ≡ false → (not a && not b) ≡ true
  both true b h = absurd (cc)
  both false true h = absurd (cc)
  both false false h = refl

  by : (p : Option (Name × Body)) (b : Bool) → IsSome p → (is_opening first (option_map (λ (e : Name × Body). e.0) p) || b) ≡ false
      → (is_made first (option_map (λ (e : Name × Body). e.0) p) && not b) ≡ true
  by None b some h = absurd (cc)
  by (Some q) b some h = both (nat_lt q.0.0 first.0) b h

names_some : (p : Option (Name × Body)) (n : Name) → 0 < times n (names_in p) → IsSome p
names_some None n h = absurd (omega (arith, times_none n))
names_some (Some q) n h = refl

-- no root stands below the first made object
pub none_below : (from size : ℕ) (flags : List Bool) (left : List ℕ) → IsFirst from size flags → (k : ℕ)
    → false ≡ (nat_lt k from && (get_or flags k false && nat_lt 0 (get_or left k 0)))
none_below from size flags left h k = ⊎_elim
    (λ (low : k < from). rw (h.below k low) (neither (nat_lt k from)))
    (λ (high : from ≤ k). let f : nat_lt k from ≡ false = grind (arith, nat_tests) in rw f refl)
    (cases_lt k from) where
      neither : (b : Bool) → false ≡ (b && false)
      neither true = refl
      neither false = refl

module _ (first : Name) (outside : List ℕ) (ps ws : List (Option (Name × Body))) (size : ℕ) (flags : List Bool) (left : List ℕ) (old new : Marked)
    (room : IsInRoom ps size) (made : AreMade first ps flags) (sw : IsSweptTo ps (λ k. is_made first (name_at ps k)) size ws) (al : AreLeft first ps outside (namings ws) left)
    (roots : (k : ℕ) → has old.slots k ≡ (nat_lt k size && (get_or flags k false && nat_lt 0 (get_or left k 0))))
    (h : IsWalked first ps old new (length new.slots)) where
  -- what is left of the table are the opening objects
  opening_left : (k : ℕ) → is_made first (name_at ps k) ≡ false → place ws k ≡ place ps k
  opening_left k down = sw.places k ∙ (rw down (neither (nat_lt k size))) where
    neither : (b : Bool) → cond (b && false) None (place ps k) ≡ place ps k
    neither true = refl
    neither false = refl

  made_gone : (k : ℕ) → IsSome (place ps k) → is_made first (name_at ps k) ≡ true → place ws k ≡ None
  made_gone k some up = sw.places k ∙ (let low : k < size = room k some in let f : nat_lt k size ≡ true = grind (arith, nat_tests) in rw (f, up) refl)

  -- what names an object among what is left is an opening object
  namer_opening : (n : Name) → 0 < namings ws n
      → (s : ℕ) × (m : Name) × (name_at ps s ≡ Some m) × (m.0 < first.0) × (0 < times n (names_in (place ps s)))
  namer_opening n some =
      let x : (j : ℕ) × (0 < times n (names_in (place ws j))) = namer ws n some in
      by x.0 x.1 (is_made first (name_at ps x.0)) refl where
        standing : (j : ℕ) (p : Option (Name × Body)) → place ps j ≡ p → IsSome (place ws j) → IsSome p
        standing j None e some = absurd (no_some (place ws j) (sw.places j ∙ (rw e (either (nat_lt j size && false)))) some) where
          either : (b : Bool) → cond {A = Option (Name × Body)} b None None ≡ None
          either true = refl
          either false = refl
        standing j (Some q) e some = refl

        by : (j : ℕ) → 0 < times n (names_in (place ws j)) → (b : Bool) → is_made first (name_at ps j) ≡ b
            → (s : ℕ) × (m : Name) × (name_at ps s ≡ Some m) × (m.0 < first.0) × (0 < times n (names_in (place ps s)))
        by j t true e = absurd (no_some (place ws j) (made_gone j (standing j (place ps j) refl (names_some (place ws j) n t)) e) (names_some (place ws j) n t))
        by j t false e =
            let same : place ws j ≡ place ps j = opening_left j e in
            let t' : 0 < times n (names_in (place ps j)) = subst (λ (p : Option (Name × Body)). 0 < times n (names_in p)) same t in
            let m : (y : Name) × (name_at ps j ≡ Some y) = some_name (place ps j) (names_some (place ps j) n t') in
            (j, m.0, m.1, unmade_opening first m.0 (sym (ap (is_made first) m.1) ∙ e), t')

  root_true : (k : ℕ) (n : Name) → name_at ps k ≡ Some n → first.0 ≤ n.0 → 0 < get_or outside k 0 + namings ws n → has new.slots k ≡ true
  root_true k n e high some =
      let low : k < size = room k (name_of_some (place ps k) n e) in
      let a : nat_lt k size ≡ true = grind (arith, nat_tests) in
      let b : get_or flags k false ≡ true = made k ∙ ap (is_made first) e ∙ high_made first n high in
      let l : get_or left k 0 ≡ get_or outside k 0 + namings ws n = al.namings k n e high in
      let c : nat_lt 0 (get_or left k 0) ≡ true = grind (arith, nat_tests) in
      h.kept k (roots k ∙ (rw (a, b, c) refl))

  and_left : (a b : Bool) → (a && b) ≡ true → a ≡ true
  and_left true b t = refl
  and_left false b t = absurd (cc)

  and_right : (a b : Bool) → (a && b) ≡ true → b ≡ true
  and_right true b t = t
  and_right false b t = absurd (cc)

  root_from : (k : ℕ) (n : Name) → name_at ps k ≡ Some n → has old.slots k ≡ true → 0 < get_or outside k 0 + namings ws n
  root_from k n e o =
      let t : (get_or flags k false && nat_lt 0 (get_or left k 0)) ≡ true = and_right (nat_lt k size) _ (sym (roots k) ∙ o) in
      let f : get_or flags k false ≡ true = and_left (get_or flags k false) (nat_lt 0 (get_or left k 0)) t in
      let high : first.0 ≤ n.0 = made_high first n (sym (made k ∙ ap (is_made first) e) ∙ f) in
      let l : get_or left k 0 ≡ get_or outside k 0 + namings ws n = al.namings k n e high in
      let z : nat_lt 0 (get_or left k 0) ≡ true = and_right (get_or flags k false) (nat_lt 0 (get_or left k 0)) t in
      let p : 0 < get_or left k 0 = grind (arith, nat_tests) in
      omega arith

  mark_stays : (k : ℕ) → has new.slots k ≡ true → stays first ps new.slots k ≡ true
  mark_stays k m = or_right (is_opening first (name_at ps k)) (has new.slots k) m

  opening_stays : (k : ℕ) (n : Name) → name_at ps k ≡ Some n → n.0 < first.0 → stays first ps new.slots k ≡ true
  opening_stays k n e low = or_left (is_opening first (name_at ps k)) (has new.slots k) (ap (is_opening first) e ∙ low_opening first n low)

  -- a root is named from outside or by an opening object
  pub marking : IsMarking first outside ps (stays first ps new.slots)
  marking = record {
    roots = λ k n e r. ⊎_elim
        (λ (low : n.0 < first.0). opening_stays k n e low)
        (λ (high : first.0 ≤ n.0).
        ⊎_elim (λ (low : n.0 < first.0). opening_stays k n e low) (λ (out : 0 < get_or outside k 0). mark_stays k (root_true k n e high (omega arith))) r)
        (cases_lt n.0 first.0);
    closed = λ s k n st named e. ⊎_elim
        (λ (low : n.0 < first.0). opening_stays k n e low)
        (λ (high : first.0 ≤ n.0). mark_stays k (⊎_elim
        (λ (o : is_opening first (name_at ps s) ≡ true).
        let same : place ws s ≡ place ps s = opening_left s (opening_unmade first (name_at ps s) o) in
        let t : 0 < times n (names_in (place ws s)) = subst (λ (p : Option (Name × Body)). 0 < times n (names_in p)) (sym same) named in
        root_true k n e high (omega (arith, times-le-namings ws s n)))
        (λ (m : has new.slots s ≡ true). let w = has_get new.slots s m in h.closed w.0 s (get_within new.slots w.0 s w.1) w.1 n k named high e)
        (or_cases (is_opening first (name_at ps s)) (has new.slots s) st)))
        (cases_lt n.0 first.0);
    held = λ k n st e. ⊎_elim
        (λ (o : is_opening first (name_at ps k) ≡ true). inl (inl (opening_low first n (sym (ap (is_opening first) e) ∙ o))))
        (λ (m : has new.slots k ≡ true). ⊎_elim
        (λ (o : has old.slots k ≡ true). ⊎_elim
        (λ (out : 0 < get_or outside k 0). inl (inr out))
        (λ (none : get_or outside k 0 ≤ 0).
        let w = namer_opening n (let r : 0 < get_or outside k 0 + namings ws n = root_from k n e o in omega arith) in
        inr (w.0, opening_stays w.0 w.1 w.2 w.3, w.4))
        (cases_lt 0 (get_or outside k 0)))
        (λ (w : (s : ℕ) × (x : Name) × (has new.slots s ≡ true) × (name_at ps k ≡ Some x) × (0 < times x (names_in (place ps s)))).
        let xn : w.1 ≡ n = (let a : Some w.1 ≡ Some n = sym w.3 ∙ e in cc) in
        inr (w.0, mark_stays w.0 w.2, subst (λ (q : Name). 0 < times q (names_in (place ps w.0))) xn w.4))
        (h.held k m))
        (or_cases (is_opening first (name_at ps k)) (has new.slots k) st);
    least = λ T closed k n st e. ⊎_elim
        (λ (o : is_opening first (name_at ps k) ≡ true). closed.roots n (k, e, inl (opening_low first n (sym (ap (is_opening first) e) ∙ o))))
        (λ (m : has new.slots k ≡ true). h.least T (λ j x o f. ⊎_elim
        (λ (out : 0 < get_or outside j 0). closed.roots x (j, f, inr out))
        (λ (none : get_or outside j 0 ≤ 0).
        let w = namer_opening x (let r : 0 < get_or outside j 0 + namings ws x = root_from j x f o in omega arith) in
        closed.named x j f (w.0, w.1, w.2, closed.roots w.1 (w.0, w.2, inl w.3), w.4))
        (cases_lt 0 (get_or outside j 0)))
        closed.named k n m e)
        (or_cases (is_opening first (name_at ps k)) (has new.slots k) st);
  }
