-- What stays as it was where objects vanish: who waits, and what is remembered of walks.
use Rattle.std.proofs.Common.{◌≡◌, ℕ, zero, suc, ◌<◌, ◌≤◌, ◌==◌, ◌||◌, ◌⊎◌, ◌↔◌, inl, inr, Bool, true, false, cond, List, [], ◌∷◌, Option, Some, None, option_map, refl, sym, ap, ◌∙◌, subst, arith, ⊎_elim}
use Rattle.std.specs.Prelude.{IsTrue, slice_index}
use Rattle.std.proofs.lemmas.Bool.{cases_lt}
use Rattle.std.proofs.lemmas.Bool.Decides.{nat_tests}
use Rattle.std.proofs.lemmas.List.Sums.{sum_by-cons}
use Rattle.hk_model.specs.declared.names.Name.{Name}
use Rattle.hk_model.specs.declared.entries.Entry.{Entry}
use Rattle.hk_model.specs.declared.objects.Process.{Process}
use Rattle.hk_model.specs.declared.objects.ProcessState.{ProcessState}
use Rattle.hk_model.specs.declared.objects.ProcessState.TheVariants.{Waiting}
use Rattle.hk_model.specs.Keeping.{run_names}
use Rattle.hk_objects.specs.declared.body.Body.{Body}
use Rattle.hk_objects.specs.Slots.{name_at}
use Rattle.hk_queues.specs.Queued.{Queued}
use Rattle.hk_reclaim.specs.Naming.{times, stands}
use Rattle.hk_reclaim.specs.Kept.{IsRoot, IsNamedIn, IsKept, IsReached, HasLost, only}
use Rattle.hk_reclaim.specs.Tally.{Tally}
use Rattle.hk_reclaim.proofs.Counting.{times_same, same_names}
use Rattle.hk_running.specs.Runners.{process_at}
use Rattle.hk_walk.specs.declared.trail.Trail.{Trail}
use Rattle.hk_walk.specs.Walks.{seen, AreRight}
use Rattle.hk_walk.proofs.Kept.{right_none}
use Rattle.hk_table.specs.Joined.{AreQueued}
use Rattle.hk_table.specs.Settled.{wait_namings, FreesUncounted}
use Rattle.hk_table.specs.Waits.{AreWaitsCounted}
use Rattle.hk_table.proofs.Holding.{Slots}

-- where nothing was lost, all is as it was
nothing_lost : (S : Name → Bool) (ps : Slots) → (HasLost ps (only S ps) → ⊥) → only S ps ≡ ps
nothing_lost S [] h = refl
nothing_lost S (None ∷ ps) h = ap (λ (qs : Slots). None ∷ qs) (nothing_lost S ps (λ w. h (suc w.0, w.1, w.2)))
nothing_lost S (Some e ∷ ps) h = by (S e.0) refl (nothing_lost S ps (λ w. h (suc w.0, w.1, w.2))) where
  by : (b : Bool) → S e.0 ≡ b → only S ps ≡ ps → only S (Some e ∷ ps) ≡ Some e ∷ ps
  by true is rest = ap (λ (b : Bool). cond b (Some e) None ∷ only S ps) is ∙ ap (λ (qs : Slots). Some e ∷ qs) rest
  by false is rest = absurd (h (0, refl, ap (λ (b : Bool). cond b (Some e) None) is))

pub walks_stay : (old new : Slots) (b : Bool) (pairs : List (Trail × Entry)) → new ≡ only (stands new) old → IsTrue b ↔ HasLost old new → b ≡ false → AreRight (seen old) pairs
    → AreRight (seen new) pairs
walks_stay old new b pairs left removed is right =
    let none : HasLost old new → ⊥ = λ lost. let t : b ≡ true = removed.1 lost in let f : true ≡ false = sym t ∙ is in cc in
    let same : new ≡ old = left ∙ nothing_lost (stands new) old (λ w. none (subst (λ (qs : Slots). HasLost old qs) (sym left) w)) in
    subst (λ (qs : Slots). AreRight (seen qs) pairs) (sym same) right

-- and where one has gone none is left
pub walks_left : (old new : Slots) (b : Bool) (pairs left : List (Trail × Entry)) → new ≡ only (stands new) old → IsTrue b ↔ HasLost old new → left ≡ cond b [] pairs
    → AreRight (seen old) pairs → AreRight (seen new) left
walks_left old new true pairs left part removed is right = subst (λ (es : List (Trail × Entry)). AreRight (seen new) es) (sym is) (right_none (seen new))
walks_left old new false pairs left part removed is right =
    subst (λ (es : List (Trail × Entry)). AreRight (seen new) es) (sym is) (walks_stay old new false pairs part removed refl right)

-- a root is kept
or_right : (b c : Bool) → c ≡ true → (b || c) ≡ true
or_right true c h = refl
or_right false c h = h

roots_kept : (first : Name) (outside : List ℕ) (ps : Slots) (S : Name → Bool) → IsKept first outside ps S → (n : Name) → IsRoot first outside ps n → S n ≡ true
roots_kept first outside ps S kept n root =
    kept.greatest with_root (record {
      stands = λ m h. ⊎_elim
          (λ (e : m ≡ n). (root.0, root.1 ∙ ap (λ (x : Name). Some x) (sym e)))
          (λ (s : S m ≡ true). kept.supported.stands m s)
          (member m h);
      held = λ m h. ⊎_elim
          (λ (e : m ≡ n). inl (subst (λ (x : Name). IsRoot first outside ps x) (sym e) root))
          (λ (s : S m ≡ true). ⊎_elim
          (λ (r : IsRoot first outside ps m). inl r)
          (λ (w : IsNamedIn ps S m). inr (w.0, w.1, w.2, or_right (w.1.0 == n.0) (S w.1) w.3, w.4))
          (kept.supported.held m s))
          (member m h);
    }) n here where
      with_root : Name → Bool
      with_root m = (m.0 == n.0) || S m

      here : with_root n ≡ true
      here = let e : (n.0 == n.0) ≡ true = grind (arith, nat_tests) in ap (λ (b : Bool). b || S n) e

      member : (m : Name) → with_root m ≡ true → (m ≡ n) ⊎ (S m ≡ true)
      member m h = by (m.0 == n.0) refl h where
        by : (b : Bool) → (m.0 == n.0) ≡ b → (b || S m) ≡ true → (m ≡ n) ⊎ (S m ≡ true)
        by true e h = let k : m.0 ≡ n.0 = grind (arith, nat_tests) in inl (same_names m n k)
        by false e h = inr h

-- what is kept stays in its slot
stays : (S : Name → Bool) (ps : Slots) (k : ℕ) (n : Name) → name_at ps k ≡ Some n → S n ≡ true → name_at (only S ps) k ≡ Some n
stays S [] k n named member = named
stays S (None ∷ ps) zero n named member = named
stays S (Some e ∷ ps) zero n named member =
    let i : e.0 ≡ n = cc in
    let m : S e.0 ≡ true = ap S i ∙ member in
    ap (λ (b : Bool). option_map (λ (x : Name × Body). x.0) (cond b (Some e) None)) m ∙ named
stays S (p ∷ ps) (suc k) n named member = stays S ps k n named member

some_wait : (ps : List Process) (q : ℕ) (n : Name) → (process_at ps q).run ≡ Waiting n → 0 < wait_namings n ps
some_wait [] q n e = absurd (cc)
some_wait (p ∷ ps) zero n e =
    let one : times n (run_names p.run) ≡ times n (n ∷ []) = ap (λ (run : ProcessState). times n (run_names run)) e in
    omega (arith, one, times_same n [], sum_by-cons (λ (p : Process). times n (run_names p.run)) p ps)
some_wait (p ∷ ps) (suc q) n e = let rest = some_wait ps q n e in omega (arith, rest, sum_by-cons (λ (p : Process). times n (run_names p.run)) p ps)

-- who waits at an object waits there still, where roots stay
queued_with_roots : (slots new : Slots) (q : Queued) (ps : List Process) (t : Tally) → AreWaitsCounted slots ps t
    → ((n : Name) → IsRoot t.first_new t.outside slots n → stands new n ≡ true)
    → new ≡ only (stands new) slots → AreQueued slots q ps → AreQueued new q ps
queued_with_roots slots new q ps t counted roots left h = record {
  lists = h.lists;
  all = h.all;
  ready = h.ready;
  waiting = λ s proc at.
      let w = h.waiting s proc at in
      let root : IsRoot t.first_new t.outside slots w.0 =
      ⊎_elim
      (λ (opens : w.0.0 < t.first_new.0). (s, w.1, inl opens))
      (λ (made : t.first_new.0 ≤ w.0.0). let few = counted s w.0 w.1 made in let some : 0 < slice_index t.outside s = omega (arith, some_wait ps proc.0 w.0 w.2, few) in (s, w.1, inr some))
      (cases_lt w.0.0 t.first_new.0) in
      (w.0, ap (λ (qs : Slots). name_at qs s) left ∙ stays (stands new) slots s w.0 w.1 (roots w.0 root), w.2);
  ready_once = h.ready_once;
  waiting_once = h.waiting_once;
}

pub kept_queued : (slots new : Slots) (q : Queued) (ps : List Process) (t : Tally) → IsKept t.first_new t.outside slots (stands new) → new ≡ only (stands new) slots
    → AreWaitsCounted slots ps t
    → AreQueued slots q ps
    → AreQueued new q ps
kept_queued slots new q ps t kept left counted h =
    queued_with_roots slots new q ps t counted (λ n root. roots_kept t.first_new t.outside slots (stands new) kept n root) left h

pub reached_queued : (slots new : Slots) (q : Queued) (ps : List Process) (t : Tally) → IsReached t.first_new t.outside slots (stands new) → new ≡ only (stands new) slots
    → AreWaitsCounted slots ps t
    → AreQueued slots q ps
    → AreQueued new q ps
reached_queued slots new q ps t reached left counted h = queued_with_roots slots new q ps t counted (λ n root. reached.closed.roots n root) left h

-- where nothing is left nothing was counted
frees : (slots new : Slots) (t : Tally) → ((n : Name) → IsRoot t.first_new t.outside slots n → stands new n ≡ true) → new ≡ only (stands new) slots → FreesUncounted slots new t
frees slots new t roots left k none = by (name_at slots k) refl where
  by : (o : Option Name) → name_at slots k ≡ o → (name_at slots k ≡ None) ⊎ (slice_index t.outside k ≡ 0)
  by None e = inl e
  by (Some n) e =
      ⊎_elim
      (λ (some : 0 < slice_index t.outside k).
      let here : name_at new k ≡ Some n = ap (λ (qs : Slots). name_at qs k) left ∙ stays (stands new) slots k n e (roots n (k, e, inr some)) in
      let f : None ≡ Some n = sym none ∙ here in absurd (cc))
      (λ (zero_is : slice_index t.outside k ≤ 0). inr (omega (arith, zero_is)))
      (cases_lt 0 (slice_index t.outside k))

pub kept_frees : (slots new : Slots) (t : Tally) → IsKept t.first_new t.outside slots (stands new) → new ≡ only (stands new) slots → FreesUncounted slots new t
kept_frees slots new t kept left = frees slots new t (λ n root. roots_kept t.first_new t.outside slots (stands new) kept n root) left

pub reached_frees : (slots new : Slots) (t : Tally) → IsReached t.first_new t.outside slots (stands new) → new ≡ only (stands new) slots → FreesUncounted slots new t
reached_frees slots new t reached left = frees slots new t (λ n root. reached.closed.roots n root) left
