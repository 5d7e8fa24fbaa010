-- What becomes of the queues where a process waits, is woken or yields.
use Rattle.std.proofs.Common.{◌≡◌, ℕ, zero, suc, ◌<◌, ◌==◌, ◌||◌, ◌⊎◌, inl, inr, Bool, true, false, List, [], ◌∷◌, ◌++◌, length, set, drop, Option, Some, refl, sym, ap, ◌∙◌}
use Rattle.std.proofs.Common.{subst, arith, ⊎_elim, get_or-set_same, get_or-set_other}
use Rattle.std.specs.Prelude.{slice_get, slice_set, slice_index_or}
use Rattle.std.proofs.lemmas.List.{length-set}
use Rattle.std.proofs.lemmas.Bool.{cases_eq}
use Rattle.std.proofs.lemmas.Bool.Decides.{nat_tests}
use Rattle.hk_model.specs.declared.names.Name.{Name}
use Rattle.hk_model.specs.declared.names.Proc.{Proc}
use Rattle.hk_model.specs.declared.objects.Process.{Process}
use Rattle.hk_model.specs.declared.objects.ProcessState.{ProcessState}
use Rattle.hk_model.specs.declared.objects.ProcessState.TheVariants.{Ready, Waiting}
use Rattle.hk_model.specs.declared.names.Inc.{Inc}
use Rattle.hk_model.specs.Processors.{is_running}
use Rattle.hk_objects.specs.declared.body.Body.{Body}
use Rattle.hk_objects.specs.Shelf.{Shelf}
use Rattle.hk_objects.specs.Slots.{name_at, AreApart}
use Rattle.hk_queues.specs.Queued.{Queued, IsIdle, waiters, is_queued}
use Rattle.hk_running.specs.Runners.{process_at, with_run}
use Rattle.hk_walk.specs.Remembered.{Remembered}
use Rattle.hk_table.specs.Stacked.{Stacked}
use Rattle.hk_table.specs.Joined.{AreOnce, AreQueued, IsCurrent, IsJoined}
use Rattle.hk_table.proofs.QueueMoves.{run_other, run_same, current_stays, same_proc, first_queued, behind_queued, split_first}

bool_false : (b : Bool) → (b ≡ true → ⊥) → b ≡ false
bool_false true h = absurd (h refl)
bool_false false h = refl

or_cases : (a b : Bool) → (a || b) ≡ true → (a ≡ true) ⊎ (b ≡ true)
or_cases true b h = inl refl
or_cases false b h = inr h

or_false : (a b : Bool) → (a || b) ≡ false → (a ≡ false) × (b ≡ false)
or_false true b h = absurd (cc)
or_false false b h = (refl, h)

same_number : (m n : ℕ) → (m == n) ≡ true → m ≡ n
same_number m n h = grind (arith, nat_tests)

not_same : (m n : ℕ) → (m == n) ≡ false → m ≡ n → ⊥
not_same m n h same = grind (arith, nat_tests)

-- who is in a list to whose end another came
queued_end : (p proc : Proc) (xs : List Proc) → is_queued p (xs ++ proc ∷ []) ≡ true → (p.0 ≡ proc.0) ⊎ (is_queued p xs ≡ true)
queued_end p proc [] h = ⊎_elim (λ (e : (p.0 == proc.0) ≡ true). inl (same_number p.0 proc.0 e)) (λ (e : false ≡ true). absurd (cc)) (or_cases (p.0 == proc.0) false h)
queued_end p proc (x ∷ xs) h =
    ⊎_elim (λ (e : (p.0 == x.0) ≡ true). inr (ap (λ (b : Bool). b || is_queued p xs) e))
    (λ (e : is_queued p (xs ++ proc ∷ []) ≡ true).
    ⊎_elim (λ (same : p.0 ≡ proc.0). inl same) (λ (in' : is_queued p xs ≡ true). inr (behind_queued p x xs in')) (queued_end p proc xs e))
    (or_cases (p.0 == x.0) (is_queued p (xs ++ proc ∷ [])) h)

unqueued_same : (p proc : Proc) (xs : List Proc) → p.0 ≡ proc.0 → is_queued proc xs ≡ is_queued p xs
unqueued_same p proc xs same = ap (λ (q : Proc). is_queued q xs) (sym (same_proc p proc same))

once_end : (proc : Proc) (xs : List Proc) → AreOnce xs → is_queued proc xs ≡ false → AreOnce (xs ++ proc ∷ [])
once_end proc [] once out = (refl, tt)
once_end proc (x ∷ xs) once out =
    let apart : (proc.0 == x.0 ≡ false) × (is_queued proc xs ≡ false) = or_false (proc.0 == x.0) (is_queued proc xs) out in (
      bool_false (is_queued x (xs ++ proc ∷ [])) (λ in'. ⊎_elim (λ (same : x.0 ≡ proc.0). not_same proc.0 x.0 apart.0 (sym same))
          (λ (behind : is_queued x xs ≡ true). let e : false ≡ true = sym once.0 ∙ behind in absurd (cc)) (queued_end x proc xs in')),
      once_end proc xs once.1 apart.1,
    )

-- a process that runs is in no list
pub idle_running : (slots : List (Option (Name × Body))) (q : Queued) (ps : List Process) (proc : Proc) → AreQueued slots q ps → is_running (process_at ps proc.0).run ≡ true
    → IsIdle q proc
idle_running slots q ps proc h runs = record {
  unready = bool_false (is_queued proc q.ready) (λ in'. let e : is_running Ready ≡ true = ap is_running (sym (h.ready proc in')) ∙ runs in absurd (cc));
  awake = λ s low. bool_false (is_queued proc (waiters q s)) (λ in'.
      let w = h.waiting s proc in' in
      let e : is_running (Waiting w.0) ≡ true = ap is_running (sym w.2) ∙ runs in absurd (cc));
}

within_run : (ps : List Process) (k : ℕ) → is_running (process_at ps k).run ≡ true → k < length ps
within_run [] k e = absurd (cc)
within_run (p ∷ ps) zero e = omega arith
within_run (p ∷ ps) (suc k) e = let h = within_run ps k e in omega (arith, h)

pub runs_within : (ps : List Process) (proc : Proc) → is_running (process_at ps proc.0).run ≡ true → proc.0 < length ps
runs_within ps proc runs = within_run ps proc.0 runs

-- who is in a list afterwards is the process that moved, or another that was there before
pub record IsMove (slots : List (Option (Name × Body))) (q r : Queued) (proc : Proc) (run : ProcessState) : Type 0 where
  pub processes : r.processes ≡ q.processes
  pub many : length r.waiting ≡ length q.waiting
  pub ready : (p : Proc) → is_queued p r.ready ≡ true → ((p.0 ≡ proc.0) × (run ≡ Ready)) ⊎ ((p.0 ≡ proc.0 → ⊥) × (is_queued p q.ready ≡ true))
  pub waiting : (s : ℕ) (p : Proc) → is_queued p (waiters r s) ≡ true
      → ((p.0 ≡ proc.0) × ((n : Name) × (name_at slots s ≡ Some n) × (run ≡ Waiting n))) ⊎ ((p.0 ≡ proc.0 → ⊥) × (is_queued p (waiters q s) ≡ true))
  pub ready_once : AreOnce r.ready
  pub waiting_once : (s : ℕ) → AreOnce (waiters r s)

run_number : (ps : List Process) (proc p : Proc) (run : ProcessState) → proc.0 < length ps → p.0 ≡ proc.0 → (process_at (with_run ps proc run) p.0).run ≡ run
run_number ps proc p run low same = ap (λ (k : ℕ). (process_at (with_run ps proc run) k).run) same ∙ ap (λ (x : Process). x.run) (run_same ps proc run low)

queued_moved : (slots : List (Option (Name × Body))) (q r : Queued) (ps : List Process) (proc : Proc) (run : ProcessState) → proc.0 < length ps → AreQueued slots q ps
    → IsMove slots q r proc run → AreQueued slots r (with_run ps proc run)
queued_moved slots q r ps proc run low h m = record {
  lists = m.many ∙ h.lists;
  all = m.processes ∙ h.all ∙ sym (length-set ps proc.0 (record (process_at ps proc.0) { run = run }));
  ready = λ p in'.
      ⊎_elim (λ (here : (p.0 ≡ proc.0) × (run ≡ Ready)). run_number ps proc p run low here.0 ∙ here.1)
      (λ (other : (p.0 ≡ proc.0 → ⊥) × (is_queued p q.ready ≡ true)). ap (λ (x : Process). x.run) (run_other ps proc run p.0 other.0) ∙ h.ready p other.1)
      (m.ready p in');
  waiting = λ s p in'.
      ⊎_elim (λ (here : (p.0 ≡ proc.0) × ((n : Name) × (name_at slots s ≡ Some n) × (run ≡ Waiting n))). (here.1.0, here.1.1, run_number ps proc p run low here.0 ∙ here.1.2))
      (λ (other : (p.0 ≡ proc.0 → ⊥) × (is_queued p (waiters q s) ≡ true)).
      let w = h.waiting s p other.1 in (w.0, w.1, ap (λ (x : Process). x.run) (run_other ps proc run p.0 other.0) ∙ w.2))
      (m.waiting s p in');
  ready_once = m.ready_once;
  waiting_once = m.waiting_once;
}

pub run_joined : (objects : Shelf) (q r : Queued) (ps : List Process) (st : Stacked) (w : Remembered) (proc : Proc) (run : ProcessState) → proc.0 < length ps
    → IsJoined objects q ps st w → IsMove objects.slots q r proc run → IsJoined objects r (with_run ps proc run) st w
run_joined objects q r ps st w proc run low h m =
    let many : length (with_run ps proc run) ≡ length ps = length-set ps proc.0 (record (process_at ps proc.0) { run = run }) in
    record {
      queued = queued_moved objects.slots q r ps proc run low h.queued m;
      stacked = h.stacked ∙ sym many;
      current = λ n inside'.
          let inside : n < length ps = omega (arith, many) in
          subst (λ (inc : Inc). IsCurrent st.stacks inc n) (sym (current_stays ps proc run n inside)) (h.current n inside);
      known = λ n inside'.
          let inside : n < length ps = omega (arith, many) in
          subst (λ (inc : Inc). inc.0 < st.next.0) (sym (current_stays ps proc run n inside)) (h.known n inside);
      right = h.right;
    }

-- who is in a list while another is not is that other one not
in_other : (p proc : Proc) (xs : List Proc) → is_queued p xs ≡ true → is_queued proc xs ≡ false → p.0 ≡ proc.0 → ⊥
in_other p proc xs in' out same = let e : false ≡ true = sym out ∙ unqueued_same p proc xs same ∙ in' in cc

waiters_past : (q : Queued) (s : ℕ) (p : Proc) → is_queued p (waiters q s) ≡ true → s < length q.waiting
waiters_past q s p in' = by q.waiting s in' where
  by : (ws : List (List Proc)) (s : ℕ) → is_queued p (slice_index_or ws s []) ≡ true → s < length ws
  by [] s e = absurd (cc)
  by (x ∷ ws) zero e = omega arith
  by (x ∷ ws) (suc s) e = let h = by ws s e in omega (arith, h)

-- a process that runs yields
pub yield_move : (slots : List (Option (Name × Body))) (q r : Queued) (ps : List Process) (proc : Proc) → AreQueued slots q ps → IsIdle q proc
    → r ≡ record q { ready = q.ready ++ proc ∷ [] } → IsMove slots q r proc Ready
yield_move slots q r ps proc h idle e = subst (λ (v : Queued). IsMove slots q v proc Ready) (sym e) (record {
  processes = refl;
  many = refl;
  ready = λ p in'.
      ⊎_elim (λ (same : p.0 ≡ proc.0). inl (same, refl)) (λ (before : is_queued p q.ready ≡ true). inr (in_other p proc q.ready before idle.unready, before))
      (queued_end p proc q.ready in');
  waiting = λ s p in'. inr (in_other p proc (waiters q s) in' (idle.awake s (waiters_past q s p in')), in');
  ready_once = once_end proc q.ready h.ready_once idle.unready;
  waiting_once = h.waiting_once;
})

-- a process that runs waits in no list
pub stray_move : (slots : List (Option (Name × Body))) (q : Queued) (ps : List Process) (proc : Proc) (run : ProcessState) → AreQueued slots q ps → IsIdle q proc
    → IsMove slots q q proc run
stray_move slots q ps proc run h idle = record {
  processes = refl;
  many = refl;
  ready = λ p in'. inr (in_other p proc q.ready in' idle.unready, in');
  waiting = λ s p in'. inr (in_other p proc (waiters q s) in' (idle.awake s (waiters_past q s p in')), in');
  ready_once = h.ready_once;
  waiting_once = h.waiting_once;
}

-- who waits at a slot after the list of one was changed
waiters_here : (q : Queued) (s k : ℕ) (procs : List Proc) → s < length q.waiting → k ≡ s → slice_index_or (set q.waiting s procs) k [] ≡ procs
waiters_here q s k procs low same = ap (λ (m : ℕ). slice_index_or (set q.waiting s procs) m []) same ∙ get_or-set_same q.waiting s procs [] low

waiters_there : (q : Queued) (s k : ℕ) (procs : List Proc) → (k ≡ s → ⊥) → slice_index_or (set q.waiting s procs) k [] ≡ waiters q k
waiters_there q s k procs other = get_or-set_other q.waiting s k procs [] other

-- a process that runs waits at an object
pub wait_move : (slots : List (Option (Name × Body))) (q r : Queued) (ps : List Process) (proc : Proc) (s : ℕ) (n : Name) → AreQueued slots q ps → IsIdle q proc
    → s < length q.waiting → name_at slots s ≡ Some n
    → r ≡ record q { waiting = slice_set q.waiting s (waiters q s ++ proc ∷ []) } → IsMove slots q r proc (Waiting n)
wait_move slots q r ps proc s n h idle low named e = subst (λ (v : Queued). IsMove slots q v proc (Waiting n)) (sym e) (record {
  processes = refl;
  many = length-set q.waiting s (waiters q s ++ proc ∷ []);
  ready = λ p in'. inr (in_other p proc q.ready in' idle.unready, in');
  waiting = λ k p in'.
      ⊎_elim (λ (same : k ≡ s).
      ⊎_elim (λ (here : p.0 ≡ proc.0). inl (here, (n, ap (λ (m : ℕ). name_at slots m) same ∙ named, refl)))
      (λ (before : is_queued p (waiters q s) ≡ true).
      inr (in_other p proc (waiters q s) before (idle.awake s low), ap (λ (m : ℕ). is_queued p (waiters q m)) same ∙ before))
      (queued_end p proc (waiters q s) (ap (is_queued p) (sym (waiters_here q s k (waiters q s ++ proc ∷ []) low same)) ∙ in')))
      (λ (other : k ≡ s → ⊥).
      let before : is_queued p (waiters q k) ≡ true = ap (is_queued p) (sym (waiters_there q s k (waiters q s ++ proc ∷ []) other)) ∙ in' in
      inr (in_other p proc (waiters q k) before (idle.awake k (waiters_past q k p before)), before))
      (cases_eq k s);
  ready_once = h.ready_once;
  waiting_once = λ k.
      ⊎_elim (λ (same : k ≡ s).
      subst (λ (procs : List Proc). AreOnce procs) (sym (waiters_here q s k (waiters q s ++ proc ∷ []) low same))
      (once_end proc (waiters q s) (h.waiting_once s) (idle.awake s low)))
      (λ (other : k ≡ s → ⊥). subst (λ (procs : List Proc). AreOnce procs) (sym (waiters_there q s k (waiters q s ++ proc ∷ []) other)) (h.waiting_once k))
      (cases_eq k s);
})

-- the first who waits at an object is woken
module _ (slots : List (Option (Name × Body))) (q m : Queued) (ps : List Process) (first : Proc) (s : ℕ) (apart : AreApart slots) (h : AreQueued slots q ps)
    (low : s < length q.waiting) (is_first : Some first ≡ slice_get (waiters q s) 0) (rest : m ≡ record q { waiting = slice_set q.waiting s (drop 1 (waiters q s)) }) where
  split : waiters q s ≡ first ∷ drop 1 (waiters q s)
  split = split_first (waiters q s) first is_first

  pub woken_waiters : waiters q s ≡ first ∷ drop 1 (waiters q s)
  woken_waiters = split

  waits : is_queued first (waiters q s) ≡ true
  waits = ap (is_queued first) split ∙ first_queued first (drop 1 (waiters q s))

  once : AreOnce (first ∷ drop 1 (waiters q s))
  once = subst (λ (procs : List Proc). AreOnce procs) split (h.waiting_once s)

  pub woken_known : first.0 < q.processes
  woken_known =
      let w = h.waiting s first waits in
      let low : first.0 < length ps = known ps first.0 w.0 w.2 in
      omega (arith, low, h.all) where
        known : (ps : List Process) (k : ℕ) (n : Name) → (process_at ps k).run ≡ Waiting n → k < length ps
        known [] k n e = absurd (cc)
        known (p ∷ ps) zero n e = omega arith
        known (p ∷ ps) (suc k) n e = let h = known ps k n e in omega (arith, h)

  pub woken_within : first.0 < length ps
  woken_within = omega (arith, woken_known, h.all)

  unready : is_queued first q.ready ≡ false
  unready = bool_false (is_queued first q.ready) (λ in'. let e : Ready ≡ Waiting (h.waiting s first waits).0 = sym (h.ready first in') ∙ (h.waiting s first waits).2 in absurd (cc))

  elsewhere : (k : ℕ) → (k ≡ s → ⊥) → is_queued first (waiters q k) ≡ false
  elsewhere k other = bool_false (is_queued first (waiters q k)) (λ in'.
      let a = h.waiting s first waits in
      let b = h.waiting k first in' in
      let e : Waiting b.0 ≡ Waiting a.0 = sym b.2 ∙ a.2 in
      let same : b.0 ≡ a.0 = cc in
      other (apart k s a.0 (b.1 ∙ ap (λ (n : Name). Some n) same) a.1))

  -- behind the first who waits here, and elsewhere, it is not
  left : (k : ℕ) → is_queued first (slice_index_or (set q.waiting s (drop 1 (waiters q s))) k []) ≡ false
  left k = ⊎_elim (λ (same : k ≡ s). ap (is_queued first) (waiters_here q s k (drop 1 (waiters q s)) low same) ∙ once.0)
      (λ (other : k ≡ s → ⊥). ap (is_queued first) (waiters_there q s k (drop 1 (waiters q s)) other) ∙ elsewhere k other) (cases_eq k s)

  pub woken_idle : IsIdle m first
  woken_idle = subst (λ (v : Queued). IsIdle v first) (sym rest) (record { unready = unready; awake = λ k inside. left k })

  before : (k : ℕ) (p : Proc) → is_queued p (slice_index_or (set q.waiting s (drop 1 (waiters q s))) k []) ≡ true → is_queued p (waiters q k) ≡ true
  before k p in' =
      ⊎_elim (λ (same : k ≡ s).
      ap (λ (j : ℕ). is_queued p (waiters q j)) same ∙ ap (is_queued p) split
      ∙ behind_queued p first (drop 1 (waiters q s)) (ap (is_queued p) (sym (waiters_here q s k (drop 1 (waiters q s)) low same)) ∙ in'))
      (λ (other : k ≡ s → ⊥). ap (is_queued p) (sym (waiters_there q s k (drop 1 (waiters q s)) other)) ∙ in') (cases_eq k s)

  pub wake_move : (r : Queued) → r ≡ record m { ready = m.ready ++ first ∷ [] } → IsMove slots q r first Ready
  wake_move r e =
      subst (λ (v : Queued). IsMove slots q v first Ready) (sym (e ∙ ap (λ (v : Queued). record v { ready = v.ready ++ first ∷ [] }) rest)) (record {
        processes = refl;
        many = length-set q.waiting s (drop 1 (waiters q s));
        ready = λ p in'.
            ⊎_elim (λ (same : p.0 ≡ first.0). inl (same, refl)) (λ (in'' : is_queued p q.ready ≡ true). inr (in_other p first q.ready in'' unready, in''))
            (queued_end p first q.ready in');
        waiting = λ k p in'. inr (in_other p first (slice_index_or (set q.waiting s (drop 1 (waiters q s))) k []) in' (left k), before k p in');
        ready_once = once_end first q.ready h.ready_once unready;
        waiting_once = λ k.
            ⊎_elim (λ (same : k ≡ s). subst (λ (procs : List Proc). AreOnce procs) (sym (waiters_here q s k (drop 1 (waiters q s)) low same)) once.1)
            (λ (other : k ≡ s → ⊥). subst (λ (procs : List Proc). AreOnce procs) (sym (waiters_there q s k (drop 1 (waiters q s)) other)) (h.waiting_once k))
            (cases_eq k s);
      })
