-- What keeps the queues and the processes together.
use Rattle.std.proofs.Common.{◌≡◌, ℕ, ◌<◌, ◌==◌, ◌||◌, Bool, true, false, List, [], ◌∷◌, length, drop, Some, refl, sym, ap, ◌∙◌}
use Rattle.std.proofs.Common.{subst, arith, ⊎_elim}
use Rattle.std.specs.Prelude.{slice_get}
use Rattle.std.proofs.lemmas.List.{length-set}
use Rattle.std.proofs.lemmas.Bool.{cases_eq}
use Rattle.std.proofs.lemmas.Bool.Decides.{nat_tests}
use Rattle.hk_model.specs.declared.names.Name.{Name}
use Rattle.hk_model.specs.declared.names.Inc.{Inc}
use Rattle.hk_model.specs.declared.names.Proc.{Proc}
use Rattle.hk_model.specs.declared.names.Cpu.{Cpu}
use Rattle.hk_model.specs.declared.objects.Process.{Process}
use Rattle.hk_model.specs.declared.objects.ProcessState.{ProcessState}
use Rattle.hk_model.specs.declared.objects.ProcessState.TheVariants.{Ready, Running, Waiting, Ended}
use Rattle.hk_objects.specs.Shelf.{Shelf}
use Rattle.hk_queues.specs.Queued.{Queued, waiters, is_queued}
use Rattle.hk_running.specs.Runners.{process_at, with_run}
use Rattle.hk_running.proofs.RunnerLemmas.{set_same, set_other}
use Rattle.hk_walk.specs.Remembered.{Remembered}
use Rattle.hk_table.specs.Stacked.{Stacked}
use Rattle.hk_table.specs.Joined.{AreOnce, IsCurrent, IsJoined}

abbrev pub ended : Process
ended = record { run = Ended; current = record { 0 = 0 } }

-- what the processes do after one of them does something else
pub run_other : (ps : List Process) (proc : Proc) (run : ProcessState) (q : ℕ) → (q ≡ proc.0 → ⊥) → process_at (with_run ps proc run) q ≡ process_at ps q
run_other ps proc run q other = set_other ended ps proc.0 q (record (process_at ps proc.0) { run = run }) other

pub run_same : (ps : List Process) (proc : Proc) (run : ProcessState) → proc.0 < length ps → process_at (with_run ps proc run) proc.0 ≡ record (process_at ps proc.0) { run = run }
run_same ps proc run there = set_same ended ps proc.0 (record (process_at ps proc.0) { run = run }) there

-- all have the current incarnation that they had
pub current_stays : (ps : List Process) (proc : Proc) (run : ProcessState) (q : ℕ) → q < length ps → (process_at (with_run ps proc run) q).current ≡ (process_at ps q).current
current_stays ps proc run q there =
    ⊎_elim
    (λ (same : q ≡ proc.0).
    let low : proc.0 < length ps = omega arith in
    ap (λ (k : ℕ). (process_at (with_run ps proc run) k).current) same ∙ ap (λ (p : Process). p.current) (run_same ps proc run low) ∙ ap
    (λ (k : ℕ). (process_at ps k).current) (sym same))
    (λ (other : q ≡ proc.0 → ⊥). ap (λ (p : Process). p.current) (run_other ps proc run q other))
    (cases_eq q proc.0)

pub same_proc : (p q : Proc) → p.0 ≡ q.0 → p ≡ q
same_proc p q e = ap (λ (n : ℕ). let r : Proc = record { 0 = n } in r) e

-- who is first in a list is in it, and who is behind is
pub first_queued : (first : Proc) (rest : List Proc) → is_queued first (first ∷ rest) ≡ true
first_queued first rest = let e : (first.0 == first.0) ≡ true = grind (arith, nat_tests) in rw e refl

pub behind_queued : (proc first : Proc) (rest : List Proc) → is_queued proc rest ≡ true → is_queued proc (first ∷ rest) ≡ true
behind_queued proc first rest h = rw h (either (proc.0 == first.0)) where
  either : (b : Bool) → (b || true) ≡ true
  either true = refl
  either false = refl

-- the first of a list, and the rest
pub split_first : (procs : List Proc) (first : Proc) → Some first ≡ slice_get procs 0 → procs ≡ first ∷ drop 1 procs
split_first [] first e = absurd (cc)
split_first (p ∷ procs) first e = let same : p ≡ first = cc in ap (λ (q : Proc). q ∷ procs) same

-- the first ready process gets a processor
module _ (objects : Shelf) (q r : Queued) (ps : List Process) (st : Stacked) (w : Remembered) (first : Proc) (cpu : Cpu) (h : IsJoined objects q ps st w)
    (is_first : Some first ≡ slice_get q.ready 0) (rest : r ≡ record q { ready = drop 1 q.ready }) where
  split : q.ready ≡ first ∷ drop 1 q.ready
  split = split_first q.ready first is_first

  was_ready : (process_at ps first.0).run ≡ Ready
  was_ready = h.queued.ready first (ap (is_queued first) split ∙ first_queued first (drop 1 q.ready))

  once : AreOnce (first ∷ drop 1 q.ready)
  once = subst (λ (procs : List Proc). AreOnce procs) split h.queued.ready_once

  -- who is still in a list is another process
  ready_other : (proc : Proc) → is_queued proc (drop 1 q.ready) ≡ true → proc.0 ≡ first.0 → ⊥
  ready_other proc in' same =
      let e : false ≡ true = sym once.0 ∙ ap (λ (p : Proc). is_queued p (drop 1 q.ready)) (sym (same_proc proc first same)) ∙ in' in cc

  waiting_other : (n : Name) (proc : Proc) → (process_at ps proc.0).run ≡ Waiting n → proc.0 ≡ first.0 → ⊥
  waiting_other n proc waits same =
      let e : Ready ≡ Waiting n = sym was_ready ∙ ap (λ (k : ℕ). (process_at ps k).run) (sym same) ∙ waits in cc

  pub dispatched_joined : IsJoined objects r (with_run ps first (Running cpu)) st w
  dispatched_joined =
      let many : length (with_run ps first (Running cpu)) ≡ length ps = length-set ps first.0 (record (process_at ps first.0) { run = Running cpu }) in
      let same_lists : (s : ℕ) → waiters r s ≡ waiters q s = λ s. ap (λ (v : Queued). waiters v s) rest in
      let left : r.ready ≡ drop 1 q.ready = ap (λ (v : Queued). v.ready) rest in
      record {
        queued = record {
          lists = ap (λ (v : Queued). length v.waiting) rest ∙ h.queued.lists;
          all = ap (λ (v : Queued). v.processes) rest ∙ h.queued.all ∙ sym many;
          ready = λ proc in'.
              let behind : is_queued proc (drop 1 q.ready) ≡ true = ap (is_queued proc) (sym left) ∙ in' in
              ap (λ (p : Process). p.run) (run_other ps first (Running cpu) proc.0 (ready_other proc behind))
              ∙ h.queued.ready proc (ap (is_queued proc) split ∙ behind_queued proc first (drop 1 q.ready) behind);
          waiting = λ s proc in'.
              let w = h.queued.waiting s proc (ap (is_queued proc) (sym (same_lists s)) ∙ in') in
              (w.0, w.1, ap (λ (p : Process). p.run) (run_other ps first (Running cpu) proc.0 (waiting_other w.0 proc w.2)) ∙ w.2);
          ready_once = subst (λ (procs : List Proc). AreOnce procs) (sym left) once.1;
          waiting_once = λ s. subst (λ (procs : List Proc). AreOnce procs) (sym (same_lists s)) (h.queued.waiting_once s);
        };
        stacked = h.stacked ∙ sym many;
        current = λ n low.
            let inside : n < length ps = omega (arith, many) in
            subst (λ (inc : Inc). IsCurrent st.stacks inc n) (sym (current_stays ps first (Running cpu) n inside)) (h.current n inside);
        known = λ n low.
            let inside : n < length ps = omega (arith, many) in
            subst (λ (inc : Inc). inc.0 < st.next.0) (sym (current_stays ps first (Running cpu) n inside)) (h.known n inside);
        right = h.right;
      }
