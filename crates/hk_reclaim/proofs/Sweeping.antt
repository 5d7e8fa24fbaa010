-- What taking away the unmarked objects keeps.
use Rattle.std.proofs.Common.{◌≡◌, ◌≢◌, ℕ, ◌+◌, ◌<◌, ◌≤◌, Bool, true, false, cond, List, [], length, get_or, set, refl, ap, ◌∙◌, sym, subst, arith, ⊎_elim, inl}
use Rattle.std.proofs.Common.{inr, ◌⊎◌, Option, Some, None, IsSome, option_map, ◌&&◌, not, nat_lt, get_or-set_same, get_or-set_other, length-set}
use Rattle.std.proofs.lemmas.Bool.Decides.{nat_tests}
use Rattle.std.proofs.lemmas.Bool.{cases_eq, cases_lt}
use Rattle.std.proofs.lemmas.List.{ext_get_or}
use Rattle.hk_links.specs.Chained.{without}
use Rattle.hk_model.specs.declared.names.Name.{Name}
use Rattle.hk_objects.specs.declared.body.Body.{Body}
use Rattle.hk_objects.specs.Slots.{place, name_at, AreApart}
use Rattle.hk_objects.proofs.Standing.{within_some}
use Rattle.hk_reclaim.specs.Naming.{names_in, times, namings, stands}
use Rattle.hk_reclaim.specs.Kept.{IsReached}
use Rattle.hk_reclaim.specs.Made.{is_made, AreMade, IsFirst, IsSweptTo}
use Rattle.hk_reclaim.specs.Tally.{Tally, has, owing, AreCounted, SameOutside}
use Rattle.hk_reclaim.specs.Reach.{IsInRoom, IsMarking, stays, is_lost, IsHalfSwept, IsDropped}
use Rattle.hk_reclaim.proofs.Counting.{times_none, times-le-namings, namer, counted_same, removed_one, no_some}
use Rattle.hk_reclaim.proofs.Leaving.{swept_none, swept_keeps, swept_loses, swept_owed, made_stands}
use Rattle.hk_reclaim.proofs.Rooting.{stays_unlost, leaves_lost}
use Rattle.hk_reclaim.proofs.Settling.{stands_at, stands_where, pending_stands, named_counts}

-- nothing is swept yet
pub sweep_starts : (first : Name) (ps : List (Option (Name × Body))) (flags : List Bool) (marks : List ℕ) (from size : ℕ) (t : Tally) → AreMade first ps flags
    → IsFirst from size flags → AreCounted ps (namings ps) t → IsHalfSwept ps (is_lost first ps marks) from t
sweep_starts first ps flags marks from size t made none h =
    (ps, swept_none ps (is_lost first ps marks) from (λ k low. rw (sym (made k) ∙ none.below k low) refl), h)

-- an object that is kept
pub sweep_keeps : (ps : List (Option (Name × Body))) (flag : ℕ → Bool) (i : ℕ) (t : Tally) → flag i ≡ false → IsHalfSwept ps flag i t → IsHalfSwept ps flag (i + 1) t
sweep_keeps ps flag i t down h = (h.0, swept_keeps ps h.0 flag i down h.1, h.2)

-- before the names of a lost object are taken back, they are owed
lost_counted : (ps : List (Option (Name × Body))) (flag : ℕ → Bool) (i : ℕ) (t : Tally) → IsSome (place ps i) → (h : IsHalfSwept ps flag i t)
    → AreCounted ps (owing (namings (set h.0 i None)) (names_in (place ps i))) t
lost_counted ps flag i t some h =
    counted_same ps (namings h.0) (owing (namings (set h.0 i None)) (names_in (place ps i))) t (swept_owed ps h.0 flag i some h.1) h.2

pub lost_owed : (ps : List (Option (Name × Body))) (so : Bool) (i : ℕ) (t : Tally) → IsSome (place ps i)
    → (flag : ℕ → Bool) × (so ≡ flag i) × IsHalfSwept ps flag i t
    → (owed : Name → ℕ) × AreCounted ps (owing owed (names_in (place ps i))) t
lost_owed ps so i t some w = (namings (set w.2.0 i None), lost_counted ps w.0 i t some w.2)

-- an object that is lost
pub sweep_loses : (ps : List (Option (Name × Body))) (flag : ℕ → Bool) (i : ℕ) (t u : Tally) → flag i ≡ true → IsSome (place ps i)
    → ((owed : Name → ℕ) → AreCounted ps (owing owed (names_in (place ps i))) t → AreCounted ps owed u) → IsHalfSwept ps flag i t → IsHalfSwept ps flag (i + 1) u
sweep_loses ps flag i t u up some release h = (
  set h.0 i None,
  swept_loses ps h.0 flag i up some h.1,
  release (namings (set h.0 i None)) (lost_counted ps flag i t some h),
)

-- a made object without a mark is lost
pub lost_at : (first : Name) (ps : List (Option (Name × Body))) (flags : List Bool) (marks : List ℕ) (i : ℕ) (so : Bool) → AreMade first ps flags
    → so ≡ (get_or flags i false && not (has marks i)) → so ≡ is_lost first ps marks i
lost_at first ps flags marks i so made e = e ∙ ap (λ (b : Bool). b && not (has marks i)) (made i)

pub lost_stands : (first : Name) (ps : List (Option (Name × Body))) (marks : List ℕ) (i : ℕ) (so : Bool) → so ≡ is_lost first ps marks i → so ≡ true → IsSome (place ps i)
lost_stands first ps marks i so e up = made_stands first ps i (left_true (is_made first (name_at ps i)) (not (has marks i)) (sym e ∙ up)) where
  left_true : (a b : Bool) → (a && b) ≡ true → a ≡ true
  left_true true b t = refl
  left_true false b t = absurd (cc)

-- dropping what is pending
pub drop_starts : (first : Name) (outside : List ℕ) (owed : Name → ℕ) (ps : List (Option (Name × Body))) → IsDropped first outside owed ps ps
drop_starts first outside owed ps = record { part = record { room = refl; places = λ k. inl refl }; gone = λ k e. inl e }

pub drop_step : (first : Name) (outside : List ℕ) (owed : Name → ℕ) (ps now new : List (Option (Name × Body))) (t : Tally) (s : ℕ) → t.first_new ≡ first → t.outside ≡ outside
    → has t.pending s ≡ true → new ≡ set now s None → AreCounted now owed t → IsDropped first outside owed ps now → IsDropped first outside owed ps new
drop_step first outside owed ps now new t s ef eo in' en h g =
    let some : IsSome (place now s) = pending_stands now owed t s h in' in
    let low : s < length now = within_some now s some in
    rw en (record {
      part = record {
        room = length-set now s None ∙ g.part.room;
        places = λ k. ⊎_elim
            (λ (same : k ≡ s). inr (rw same (get_or-set_same now s None None low)))
            (λ (ne : k ≢ s). rw (get_or-set_other now s k None None ne) (g.part.places k))
            (cases_eq k s);
      };
      gone = λ k e. ⊎_elim
          (λ (same : k ≡ s). inr (
          let w : (n : Name) × (name_at now s ≡ Some n) × (t.first_new.0 ≤ n.0) × (get_or t.total s 0 ≡ 0) = (h.pending s).0 in' in
          let z : get_or t.total s 0 ≡ 0 = w.3 in
          let c : get_or t.total s 0 ≡ get_or t.outside s 0 + owed w.0 = named_counts now owed t s w.0 h w.1 in
          let p : place now s ≡ place ps s = ⊎_elim (λ (p : place now s ≡ place ps s). p) (λ (p : place now s ≡ None). absurd (no_some (place now s) p some)) (g.part.places s) in
          let o : get_or outside s 0 ≡ 0 = subst (λ (xs : List ℕ). get_or xs s 0 ≡ 0) eo (omega arith) in
          (w.0, ap (name_at ps) same ∙ sym (ap (option_map (λ (q : Name × Body). q.0)) p) ∙ w.1, rw (← ef) w.2, ap (λ (j : ℕ). get_or outside j 0) same ∙ o, omega arith)))
          (λ (ne : k ≢ s). g.gone k (sym (get_or-set_other now s k None None ne) ∙ e))
          (cases_eq k s);
    })

pub drop_counted : (now new : List (Option (Name × Body))) (owed : Name → ℕ) (t u : Tally) (s : ℕ) → has t.pending s ≡ true → new ≡ set now s None
    → u ≡ record t { pending = without s t.pending } → AreCounted now owed t → AreCounted new owed u
drop_counted now new owed t u s in' en eu h = rw (en, eu) (removed_one now owed t s (within_some now s (pending_stands now owed t s h in')) in' h)

module _ (first : Name) (outside : List ℕ) (ps qs rs : List (Option (Name × Body))) (marks : List ℕ) (size : ℕ) (t : Tally)
    (apart : AreApart ps) (room : IsInRoom ps size) (m : IsMarking first outside ps (stays first ps marks)) (ef : t.first_new ≡ first) (eo : t.outside ≡ outside)
    (sw : IsSweptTo ps (is_lost first ps marks) size qs) (dr : IsDropped first outside (namings qs) ps rs) (h : AreCounted rs (namings qs) t) (none : t.pending ≡ []) where
  marked_place : (k : ℕ) → stays first ps marks k ≡ true → place qs k ≡ place ps k
  marked_place k i = sw.places k ∙ (rw (stays_unlost first ps marks k i) (last (nat_lt k size))) where
    last : (b : Bool) → cond (b && false) None (place ps k) ≡ place ps k
    last true = refl
    last false = refl

  unmarked_place : (k : ℕ) → stays first ps marks k ≡ false → place qs k ≡ None
  unmarked_place k i = by (place ps k) refl where
    none_is : (b : Bool) → cond {A = Option (Name × Body)} b None None ≡ None
    none_is true = refl
    none_is false = refl

    by : (p : Option (Name × Body)) → place ps k ≡ p → place qs k ≡ None
    by None e = sw.places k ∙ (rw e (none_is (nat_lt k size && false)))
    by (Some q) e =
        let some : IsSome (place ps k) = rw e refl in
        let low : k < size = room k some in
        let f : nat_lt k size ≡ true = grind (arith, nat_tests) in
        sw.places k ∙ (rw (f, leaves_lost first ps marks k i some) refl)

  by_mark : {A : Type 0} (k : ℕ) → (stays first ps marks k ≡ true → A) → (stays first ps marks k ≡ false → A) → A
  by_mark {A} k y n = by (stays first ps marks k) refl where
    by : (b : Bool) → stays first ps marks k ≡ b → A
    by true e = y e
    by false e = n e

  -- what is marked stays
  marked_stays : (k : ℕ) → stays first ps marks k ≡ true → place rs k ≡ place ps k
  marked_stays k i = ⊎_elim
      (λ (p : place rs k ≡ place ps k). p)
      (λ (p : place rs k ≡ None). ⊎_elim
      (λ (q : place ps k ≡ None). p ∙ sym q)
      (λ (w : (n : Name) × (name_at ps k ≡ Some n) × (first.0 ≤ n.0) × (get_or outside k 0 ≡ 0) × (namings qs n ≡ 0)). absurd (
      let a : first.0 ≤ w.0.0 = w.2 in
      let b : get_or outside k 0 ≡ 0 = w.3 in
      let c : namings qs w.0 ≡ 0 = w.4 in
      ⊎_elim
      (λ (r : (w.0.0 < first.0) ⊎ (0 < get_or outside k 0)). ⊎_elim (λ (l : w.0.0 < first.0). omega arith) (λ (o : 0 < get_or outside k 0). omega arith) r)
      (λ (v : (s : ℕ) × (stays first ps marks s ≡ true) × (0 < times w.0 (names_in (place ps s)))).
      let d : 0 < times w.0 (names_in (place qs v.0)) = rw (marked_place v.0 v.1) v.2 in
      omega (arith, times-le-namings qs v.0 w.0))
      (m.held k w.0 i w.1)))
      (dr.gone k p))
      (dr.part.places k)

  was : (k : ℕ) (n : Name) → name_at rs k ≡ Some n → (place rs k ≡ place ps k) × (name_at ps k ≡ Some n)
  was k n e = ⊎_elim
      (λ (p : place rs k ≡ place ps k). (p, sym (ap (option_map (λ (q : Name × Body). q.0)) p) ∙ e))
      (λ (p : place rs k ≡ None). absurd (let a : None ≡ Some n = sym (ap (option_map (λ (q : Name × Body). q.0)) p) ∙ e in cc))
      (dr.part.places k)

  names_some : (p : Option (Name × Body)) (n : Name) → 0 < times n (names_in p) → IsSome p
  names_some None n h = absurd (omega (arith, times_none n))
  names_some (Some q) n h = refl

  -- what stands in the end is marked
  left_marked : (k : ℕ) (n : Name) → name_at rs k ≡ Some n → stays first ps marks k ≡ true
  left_marked k n e =
      let e' : name_at ps k ≡ Some n = (was k n e).1 in
      let c : get_or t.total k 0 ≡ get_or t.outside k 0 + namings qs n = named_counts rs (namings qs) t k n h e in
      ⊎_elim
      (λ (low : n.0 < first.0). m.roots k n e' (inl low))
      (λ (high : first.0 ≤ n.0). ⊎_elim
      (λ (out : 0 < get_or t.outside k 0). m.roots k n e' (inr (subst (λ (xs : List ℕ). 0 < get_or xs k 0) eo out)))
      (λ (noout : get_or t.outside k 0 ≤ 0). ⊎_elim
      (λ (by : 0 < namings qs n).
      let x : (j : ℕ) × (0 < times n (names_in (place qs j))) = namer qs n by in
      by_mark x.0
      (λ y. m.closed x.0 k n y (subst (λ (p : Option (Name × Body)). 0 < times n (names_in p)) (marked_place x.0 y) x.1) e')
      (λ y. absurd (no_some (place qs x.0) (unmarked_place x.0 y) (names_some (place qs x.0) n x.1))))
      (λ (nonaming : namings qs n ≤ 0). absurd (
      let z : get_or t.total k 0 ≡ 0 = omega arith in
      let i : has t.pending k ≡ true = (h.pending k).1 (n, e, rw ef high, z) in
      let j : false ≡ true = sym (ap (λ (xs : List ℕ). has xs k) none) ∙ i in cc))
      (cases_lt 0 (namings qs n)))
      (cases_lt 0 (get_or t.outside k 0)))
      (cases_lt n.0 first.0)

  none_or : (p : Option (Name × Body)) → ((n : Name) → option_map (λ (q : Name × Body). q.0) p ≡ Some n → ⊥) → p ≡ None
  none_or None h = refl
  none_or (Some q) h = absurd (h q.0 refl)

  -- what stands in the end is what is marked
  pub swept_is : rs ≡ qs
  swept_is = ext_get_or None rs qs (dr.part.room ∙ sym sw.room) (λ k low. by_mark k
      (λ y. marked_stays k y ∙ sym (marked_place k y))
      (λ y. none_or (place rs k) (λ n e. let f : stays first ps marks k ≡ true = left_marked k n e in cc) ∙ sym (unmarked_place k y)))

  pub collected_counted : AreCounted rs (namings rs) t
  collected_counted = counted_same rs (namings qs) (namings rs) t (λ n. ap (λ (xs : List (Option (Name × Body))). namings xs n) (sym swept_is)) h

  marked_name : (k : ℕ) (n : Name) → stays first ps marks k ≡ true → name_at ps k ≡ Some n → stands rs n ≡ true
  marked_name k n i e = stands_at rs k n (ap (option_map (λ (q : Name × Body). q.0)) (marked_stays k i) ∙ e)

  -- and that is the least set that has the roots and all that its members name
  pub collected_reached : IsReached first outside ps (stands rs)
  collected_reached = record {
    closed = record {
      roots = λ n r. marked_name r.0 n (m.roots r.0 n r.1 r.2) r.1;
      named = λ n k e w.
          let v : (j : ℕ) × (name_at rs j ≡ Some w.1) = stands_where rs w.1 w.3 in
          let j : v.0 ≡ w.0 = apart v.0 w.0 w.1 (was v.0 w.1 v.1).1 w.2 in
          let i : stays first ps marks w.0 ≡ true = subst (λ (q : ℕ). stays first ps marks q ≡ true) j (left_marked v.0 w.1 v.1) in
          marked_name k n (m.closed w.0 k n i w.4 e) e;
    };
    least = λ T closed n s. let v : (j : ℕ) × (name_at rs j ≡ Some n) = stands_where rs n s in m.least T closed v.0 n (left_marked v.0 n v.1) (was v.0 n v.1).1;
  }

-- all of it
pub collected : (ps rs : List (Option (Name × Body))) (marks : List ℕ) (size : ℕ) (t u v : Tally) → AreApart ps → IsInRoom ps size
    → IsMarking t.first_new t.outside ps (stays t.first_new ps marks) → IsHalfSwept ps (is_lost t.first_new ps marks) size u → SameOutside t u → SameOutside u v
    → ((owed : Name → ℕ) → AreCounted ps owed u → IsDropped u.first_new u.outside owed ps rs)
    → ((owed : Name → ℕ) → AreCounted ps owed u → AreCounted rs owed v)
    → v.pending ≡ [] → IsReached t.first_new t.outside ps (stands rs) × AreCounted rs (namings rs) v
collected ps rs marks size t u v apart room m hs st sv dropped counted none =
    let qs : List (Option (Name × Body)) = hs.0 in
    let d : IsDropped t.first_new t.outside (namings qs) ps rs = rw (← st.first_new, ← st.outside) (dropped (namings qs) hs.2) in
    let c : AreCounted rs (namings qs) v = counted (namings qs) hs.2 in
    let ef : v.first_new ≡ t.first_new = sv.first_new ∙ st.first_new in
    let eo : v.outside ≡ t.outside = sv.outside ∙ st.outside in (
      collected_reached t.first_new t.outside ps qs rs marks size v apart room m ef eo hs.1 d c none,
      collected_counted t.first_new t.outside ps qs rs marks size v apart room m ef eo hs.1 d c none,
    )
