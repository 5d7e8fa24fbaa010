-- Queues of processes: all do the same, and none stands twice.
use Rattle.std.specs.Prelude.{◌≡◌, ℕ, zero, suc, ◌+◌, ◌==◌, List, [], ◌∷◌, ◌++◌, Bool, true, false, Some, slice_get, slice_set, refl}
use Rattle.std.specs.Option.{unwrap_or}
use Rattle.std.specs.List.{AllByRecursion}
use Rattle.std.proofs.Common.{arith, ap, sym, ◌∙◌, cond}
use Rattle.std.proofs.lemmas.Bool.{true≢false}
use Rattle.std.proofs.lemmas.Bool.Decides.{nat_tests}
use Rattle.hk_model.specs.declared.names.Proc.{Proc}
use Rattle.hk_model.specs.declared.names.Cpu.{Cpu}
use Rattle.hk_model.specs.declared.objects.Process.{Process}
use Rattle.hk_model.specs.declared.objects.ProcessState.{ProcessState}
use Rattle.hk_model.specs.declared.objects.ProcessState.TheVariants.{Ready, Running, Waiting, Ended}
use Rattle.hk_model.specs.Processors.{is_on, runner_from}

-- what a process of this number does; one that is not there has ended
abbrev pub run_at : List Process → ℕ → ProcessState
run_at ps n = (unwrap_or (slice_get ps n) (record { run = Ended; current = record { 0 = 0 } })).run

-- the process is in the list, with other numbers than this
abbrev pub Other : ℕ → List Proc → Type 0
Other n qs = AllByRecursion (λ (q : Proc). q.0 ≡ n → ⊥) qs

abbrev pub AreOnce : List Proc → Type 0
AreOnce [] = Unit {0}
AreOnce (q ∷ qs) = Other q.0 qs × AreOnce qs

abbrev pub AllDo : List Process → ProcessState → List Proc → Type 0
AllDo ps r qs = AllByRecursion (λ (q : Proc). run_at ps q.0 ≡ r) qs

-- all of these processes do this, and none of them stands twice
abbrev pub IsQueue : List Process → ProcessState → List Proc → Type 0
IsQueue ps r qs = AllDo ps r qs × AreOnce qs

-- ---- one process changed

pub run_there : (ps : List Process) (n m : ℕ) (new : Process) → (m ≡ n → ⊥) → run_at (slice_set ps n new) m ≡ run_at ps m
run_there [] n m new h = refl
run_there (p ∷ ps) zero zero new h = absurd (h refl)
run_there (p ∷ ps) zero (suc m) new h = refl
run_there (p ∷ ps) (suc n) zero new h = refl
run_there (p ∷ ps) (suc n) (suc m) new h = run_there ps n m new (λ e. h (ap suc e))

-- one that has not ended is there
pub run_here : (ps : List Process) (n : ℕ) (new : Process) → (run_at ps n ≡ Ended → ⊥) → run_at (slice_set ps n new) n ≡ new.run
run_here [] n new h = absurd (h refl)
run_here (p ∷ ps) zero new h = refl
run_here (p ∷ ps) (suc n) new h = run_here ps n new h

-- who does something else is another
others_do : (ps : List Process) (r : ProcessState) (n : ℕ) (qs : List Proc) → (run_at ps n ≡ r → ⊥) → AllDo ps r qs → Other n qs
others_do ps r n [] h all = tt
others_do ps r n (q ∷ qs) h all = (λ e. h (ap (λ (k : ℕ). run_at ps k) (sym e) ∙ all.0), others_do ps r n qs h all.1)

others_kept : (ps : List Process) (r : ProcessState) (n : ℕ) (new : Process) (qs : List Proc) → Other n qs → AllDo ps r qs → AllDo (slice_set ps n new) r qs
others_kept ps r n new [] h all = tt
others_kept ps r n new (q ∷ qs) h all = (run_there ps n q.0 new h.0 ∙ all.0, others_kept ps r n new qs h.1 all.1)

-- a queue that the process is not in
pub queue_kept : (ps : List Process) (r : ProcessState) (n : ℕ) (new : Process) (qs : List Proc) → (run_at ps n ≡ r → ⊥) → IsQueue ps r qs → IsQueue (slice_set ps n new) r qs
queue_kept ps r n new qs h g = (others_kept ps r n new qs (others_do ps r n qs h g.0) g.0, g.1)

all_same : (ps : List Process) (r : ProcessState) (n : ℕ) (new : Process) (qs : List Proc) → new.run ≡ run_at ps n → AllDo ps r qs → AllDo (slice_set ps n new) r qs
all_same ps r n new [] h all = tt
all_same ps r n new (q ∷ qs) h all = (by q.0 ps n h ∙ all.0, all_same ps r n new qs h all.1)
  where
    by : (m : ℕ) (ps : List Process) (n : ℕ) → new.run ≡ run_at ps n → run_at (slice_set ps n new) m ≡ run_at ps m
    by m [] n h = refl
    by zero (p ∷ ps) zero h = h
    by (suc m) (p ∷ ps) zero h = refl
    by zero (p ∷ ps) (suc n) h = refl
    by (suc m) (p ∷ ps) (suc n) h = by m ps n h

-- the process does as before
pub queue_same : (ps : List Process) (r : ProcessState) (n : ℕ) (new : Process) (qs : List Proc) → new.run ≡ run_at ps n → IsQueue ps r qs → IsQueue (slice_set ps n new) r qs
queue_same ps r n new qs h g = (all_same ps r n new qs h g.0, g.1)

-- the first leaves the queue
pub queue_left : (ps : List Process) (r : ProcessState) (new : Process) (q : Proc) (qs : List Proc) → IsQueue ps r (q ∷ qs) → IsQueue (slice_set ps q.0 new) r qs
queue_left ps r new q qs g = (others_kept ps r q.0 new qs g.1.0 g.0.1, g.1.1)

all_more : (ps : List Process) (r : ProcessState) (q : Proc) (qs : List Proc) → run_at ps q.0 ≡ r → AllDo ps r qs → AllDo ps r (qs ++ q ∷ [])
all_more ps r q [] h all = (h, tt)
all_more ps r q (x ∷ qs) h all = (all.0, all_more ps r q qs h all.1)

others_more : (n : ℕ) (q : Proc) (qs : List Proc) → (q.0 ≡ n → ⊥) → Other n qs → Other n (qs ++ q ∷ [])
others_more n q [] h all = (h, tt)
others_more n q (x ∷ qs) h all = (all.0, others_more n q qs h all.1)

once_more : (q : Proc) (qs : List Proc) → Other q.0 qs → AreOnce qs → AreOnce (qs ++ q ∷ [])
once_more q [] h g = (tt, tt)
once_more q (x ∷ qs) h g = (others_more x.0 q qs (λ e. h.0 (sym e)) g.0, once_more q qs h.1 g.1)

-- a process joins the queue
pub queue_joined : (ps : List Process) (r : ProcessState) (new : Process) (q : Proc) (qs : List Proc) → (run_at ps q.0 ≡ r → ⊥) → (run_at ps q.0 ≡ Ended → ⊥) → new.run ≡ r
    → IsQueue ps r qs → IsQueue (slice_set ps q.0 new) r (qs ++ q ∷ [])
queue_joined ps r new q qs h there e g =
    let other = others_do ps r q.0 qs h g.0 in
    (all_more (slice_set ps q.0 new) r q qs (run_here ps q.0 new there ∙ e) (others_kept ps r q.0 new qs other g.0), once_more q qs other g.1)

-- ---- who runs on a processor

-- a process that was not on the processor and is not now
pub runner_kept : (ps : List Process) (cpu : Cpu) (n k : ℕ) (new : Process) → is_on cpu new.run ≡ is_on cpu (run_at ps n)
    → runner_from (slice_set ps n new) cpu k ≡ runner_from ps cpu k
runner_kept [] cpu n k new h = refl
runner_kept (p ∷ ps) cpu zero k new h = rw h refl
runner_kept (p ∷ ps) cpu (suc n) k new h = rw (runner_kept ps cpu n (k + 1) new h) refl

runs_from : (ps : List Process) (cpu : Cpu) (k : ℕ) (proc : Proc) → runner_from ps cpu k ≡ Some proc → (j : ℕ) × (proc.0 ≡ k + j) × (is_on cpu (run_at ps j) ≡ true)
runs_from [] cpu k proc h = absurd (cc)
runs_from (p ∷ ps) cpu k proc h = by (is_on cpu p.run) refl h (λ g. runs_from ps cpu (k + 1) proc g)
  where
    by : (b : Bool) → is_on cpu p.run ≡ b → cond b (Some (record { 0 = k })) (runner_from ps cpu (k + 1)) ≡ Some proc
        → (runner_from ps cpu (k + 1) ≡ Some proc → (j : ℕ) × (proc.0 ≡ k + 1 + j) × (is_on cpu (run_at ps j) ≡ true))
        → (j : ℕ) × (proc.0 ≡ k + j) × (is_on cpu (run_at (p ∷ ps) j) ≡ true)
    by true e g rest = let same : record { 0 = k } ≡ proc = cc in let n : k ≡ proc.0 = ap (λ (x : Proc). x.0) same in (0, omega arith, e)
    by false e g rest = let r = rest g in (suc r.0, omega (arith, r.1), r.2)

-- the process that a processor runs is on it
pub runs_on : (ps : List Process) (cpu : Cpu) (proc : Proc) → runner_from ps cpu 0 ≡ Some proc → is_on cpu (run_at ps proc.0) ≡ true
runs_on ps cpu proc h =
    let r = runs_from ps cpu 0 proc h in
    let e : r.0 ≡ proc.0 = omega (arith, r.1) in
    rw e at r.2

-- who is on a processor does nothing else, and is on no other
pub on_not : (cpu : Cpu) (run r : ProcessState) → is_on cpu run ≡ true → is_on cpu r ≡ false → run ≡ r → ⊥
on_not cpu run r h g e = true≢false (sym h ∙ ap (λ (x : ProcessState). is_on cpu x) e ∙ g)

pub on_one : (cpu other : Cpu) (run : ProcessState) → (cpu.0 ≡ other.0 → ⊥) → is_on cpu run ≡ true → is_on other run ≡ false
on_one cpu other Ready apart h = refl
on_one cpu other (Waiting at) apart h = refl
on_one cpu other Ended apart h = refl
on_one cpu other (Running c) apart h = by c.0 cpu.0 other.0 apart h
  where
    by : (a b d : ℕ) → (b ≡ d → ⊥) → (a == b) ≡ true → (a == d) ≡ false
    by a b d apart h = grind (arith, nat_tests, apart)
