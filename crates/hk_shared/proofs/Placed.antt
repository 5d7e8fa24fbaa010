-- No two processes run on one processor, and the ready processes stand in the ready list.
use Rattle.std.specs.Prelude.{◌≡◌, ◌⊎◌, ℕ, zero, suc, ◌+◌, ◌==◌, List, [], ◌∷◌, ◌++◌, Bool, true, false, Option, Some, None, slice_set, refl, not, is_some, ◌||◌}
use Rattle.std.specs.List.{list_any}
use Rattle.std.proofs.Common.{arith, ap, sym, ◌∙◌, cond, subst}
use Rattle.std.proofs.lemmas.Bool.{true≢false}
use Rattle.std.proofs.lemmas.Bool.Decides.{nat_tests}
use mathlib.Core.Logic.{inl, inr}
use Rattle.hk_model.specs.declared.names.Proc.{Proc}
use Rattle.hk_model.specs.declared.names.Cpu.{Cpu}
use Rattle.hk_model.specs.declared.objects.Process.{Process}
use Rattle.hk_model.specs.declared.objects.ProcessState.{ProcessState}
use Rattle.hk_model.specs.declared.objects.ProcessState.TheVariants.{Ready, Running, Waiting, Ended}
use Rattle.hk_model.specs.State.{State, process}
use Rattle.hk_model.specs.Processors.{is_on, is_running, is_waiting, is_ready, runner, runner_from, is_over}
use Rattle.hk_model.proofs.Steps.{given_to}
use Rattle.hk_program.proofs.Queues.{run_at, run_there, run_here, runs_on}
use Rattle.hk_shared.specs.Contexts.{is_resting}
use Rattle.hk_shared.proofs.Moves.{Moves, Calm, Same, Rests, Yields, Wakes}

-- ---- one process changed

-- what holds of a process afterwards, and of the changed one only if it did before, held before
back : (P : ProcessState → Type 0) (ps : List Process) (n i : ℕ) (new : Process) → (P new.run → P (run_at ps n)) → P (run_at (slice_set ps n new) i) → P (run_at ps i)
back P [] n i new h g = g
back P (p ∷ ps) zero zero new h g = h g
back P (p ∷ ps) zero (suc i) new h g = g
back P (p ∷ ps) (suc n) zero new h g = g
back P (p ∷ ps) (suc n) (suc i) new h g = back P ps n i new h g

-- it holds of the changed one, or held before
back_or : (P : ProcessState → Type 0) (ps : List Process) (n i : ℕ) (new : Process) → P (run_at (slice_set ps n new) i) → ((i ≡ n) × P new.run) ⊎ P (run_at ps i)
back_or P [] n i new g = inr g
back_or P (p ∷ ps) zero zero new g = inl (refl, g)
back_or P (p ∷ ps) zero (suc i) new g = inr g
back_or P (p ∷ ps) (suc n) zero new g = inr g
back_or P (p ∷ ps) (suc n) (suc i) new g = more (back_or P ps n i new g)
  where
    more : ((i ≡ n) × P new.run) ⊎ P (run_at ps i) → ((suc i ≡ suc n) × P new.run) ⊎ P (run_at ps i)
    more (inl e) = inl (ap suc e.0, e.1)
    more (inr e) = inr e

-- one that is set to do as before
set_same : (ps : List Process) (n i : ℕ) (new : Process) → new.run ≡ run_at ps n → run_at (slice_set ps n new) i ≡ run_at ps i
set_same [] n i new h = refl
set_same (p ∷ ps) zero zero new h = h
set_same (p ∷ ps) zero (suc i) new h = refl
set_same (p ∷ ps) (suc n) zero new h = refl
set_same (p ∷ ps) (suc n) (suc i) new h = set_same ps n i new h

not_on : (cpu : Cpu) (r : ProcessState) → is_running r ≡ false → is_on cpu r ≡ true → ⊥
not_on cpu Ready h g = absurd (cc)
not_on cpu (Running c) h g = absurd (cc)
not_on cpu (Waiting at) h g = absurd (cc)
not_on cpu Ended h g = absurd (cc)

pub on_runs : (cpu : Cpu) (r : ProcessState) → is_on cpu r ≡ true → is_running r ≡ true
on_runs cpu Ready g = absurd (cc)
on_runs cpu (Running c) g = refl
on_runs cpu (Waiting at) g = absurd (cc)
on_runs cpu Ended g = absurd (cc)

-- an event puts no process on a processor
pub moves_on : (cpu : Cpu) (s : State) (p : Proc) (t : State) (i : ℕ) → Moves s p t → is_on cpu (run_at t.processes i) ≡ true → is_on cpu (run_at s.processes i) ≡ true
moves_on cpu s p t i (Calm a b) g = rw a at g
moves_on cpu s p t i (Same n new a b c) g = back (λ r. is_on cpu r ≡ true) s.processes n i new (λ h. ap (λ r. is_on cpu r) (sym b) ∙ h) (rw a at g)
moves_on cpu s p t i (Rests new a b c d) g = back (λ r. is_on cpu r ≡ true) s.processes p.0 i new (λ h. absurd (not_on cpu new.run b h)) (rw a at g)
moves_on cpu s p t i (Yields new a b c) g = back (λ r. is_on cpu r ≡ true) s.processes p.0 i new (λ h. absurd (not_on cpu new.run (ap is_running b) h)) (rw a at g)
moves_on cpu s p t i (Wakes q new a b c d) g = back (λ r. is_on cpu r ≡ true) s.processes q.0 i new (λ h. absurd (not_on cpu new.run (ap is_running b) h)) (rw a at g)

-- ---- no two on one processor

abbrev pub AreApart : List Process → Type 0
AreApart ps = (i j : ℕ) (cpu : Cpu) → is_on cpu (run_at ps i) ≡ true → is_on cpu (run_at ps j) ≡ true → i ≡ j

pub moves_apart : (s : State) (p : Proc) (t : State) → Moves s p t → AreApart s.processes → AreApart t.processes
moves_apart s p t m h i j cpu f g = h i j cpu (moves_on cpu s p t i m f) (moves_on cpu s p t j m g)

abbrev proc_of : ℕ → Proc
proc_of n = record { 0 = n }

abbrev cpu_of : ℕ → Cpu
cpu_of n = record { 0 = n }

-- the processor of the first process that runs there
runner_there : (ps : List Process) (cpu : Cpu) (k i : ℕ) → is_on cpu (run_at ps i) ≡ true → (proc : Proc) × (runner_from ps cpu k ≡ Some proc)
runner_there [] cpu k i h = absurd (cc)
runner_there (q ∷ ps) cpu k zero h = (record { 0 = k }, rw h refl)
runner_there (q ∷ ps) cpu k (suc i) h = by (is_on cpu q.run) (runner_there ps cpu (k + 1) i h)
  where
    by : (b : Bool) → ((proc : Proc) × (runner_from ps cpu (k + 1) ≡ Some proc)) → (proc : Proc) × (cond b (Some (record { 0 = k })) (runner_from ps cpu (k + 1)) ≡ Some proc)
    by true r = (record { 0 = k }, refl)
    by false r = r

-- where no two run on one processor, who is on it is its runner
pub runner_is : (ps : List Process) (cpu : Cpu) (proc : Proc) → AreApart ps → is_on cpu (run_at ps proc.0) ≡ true → runner_from ps cpu 0 ≡ Some proc
runner_is ps cpu proc apart h =
    let r = runner_there ps cpu 0 proc.0 h in
    let same : r.0.0 ≡ proc.0 = apart r.0.0 proc.0 cpu (runs_on ps cpu r.0 r.1) h in
    let e : r.0 ≡ proc = ap proc_of same in
    r.1 ∙ ap Some e

pub no_runner : (ps : List Process) (cpu : Cpu) → ((i : ℕ) → is_on cpu (run_at ps i) ≡ true → ⊥) → runner_from ps cpu 0 ≡ None
no_runner ps cpu h = by (runner_from ps cpu 0) refl
  where
    by : (found : Option Proc) → runner_from ps cpu 0 ≡ found → runner_from ps cpu 0 ≡ None
    by None e = e
    by (Some proc) e = absurd (h proc.0 (runs_on ps cpu proc e))

-- ---- a dispatch

same_cpu : (a b : ℕ) → (a == b) ≡ true → a ≡ b
same_cpu a b h = grind (arith, nat_tests)

nobody : (s : State) (cpu other : Cpu) (k : ℕ) → runner s cpu ≡ None → is_on other (Running cpu) ≡ true → is_on other (run_at s.processes k) ≡ true → ⊥
nobody s cpu other k idle h g =
    let n : cpu.0 ≡ other.0 = same_cpu cpu.0 other.0 h in
    let on : is_on cpu (run_at s.processes k) ≡ true = subst (λ (c : Cpu). is_on c (run_at s.processes k) ≡ true) (sym (ap cpu_of n)) g in
    let r = runner_there s.processes cpu 0 k on in
    true≢false (sym (ap is_some r.1) ∙ ap is_some idle)

-- no process ran on the processor that gets one
pub dispatch_apart : (s : State) (cpu : Cpu) (first : Proc) (rest : List Proc) → runner s cpu ≡ None → AreApart s.processes → AreApart (given_to s cpu first rest).processes
dispatch_apart s cpu first rest idle h i j other f g = by (cases i f) (cases j g)
  where
    cases : (k : ℕ) → is_on other (run_at (given_to s cpu first rest).processes k) ≡ true
        → ((k ≡ first.0) × (is_on other (Running cpu) ≡ true)) ⊎ (is_on other (run_at s.processes k) ≡ true)
    cases k e = back_or (λ r. is_on other r ≡ true) s.processes first.0 k (record (process s first) { run = Running cpu }) e

    by : (((i ≡ first.0) × (is_on other (Running cpu) ≡ true)) ⊎ (is_on other (run_at s.processes i) ≡ true))
        → (((j ≡ first.0) × (is_on other (Running cpu) ≡ true)) ⊎ (is_on other (run_at s.processes j) ≡ true)) → i ≡ j
    by (inl a) (inl b) = a.0 ∙ sym b.0
    by (inl a) (inr b) = absurd (nobody s cpu other j idle a.1 b)
    by (inr a) (inl b) = absurd (nobody s cpu other i idle b.1 a)
    by (inr a) (inr b) = h i j other a b

-- ---- the ready list

-- the process of this number stands there
abbrev pub Stands : ℕ → List Proc → Type 0
Stands n [] = ⊥
Stands n (q ∷ qs) = (q.0 ≡ n) ⊎ Stands n qs

stands_more : (n : ℕ) (q : Proc) (qs : List Proc) → Stands n qs → Stands n (qs ++ q ∷ [])
stands_more n q [] h = absurd h
stands_more n q (x ∷ qs) (inl e) = inl e
stands_more n q (x ∷ qs) (inr h) = inr (stands_more n q qs h)

stands_last : (q : Proc) (qs : List Proc) → Stands q.0 (qs ++ q ∷ [])
stands_last q [] = inl refl
stands_last q (x ∷ qs) = inr (stands_last q qs)

-- each process that is ready stands in the ready list
abbrev pub AreListed : State → Type 0
AreListed s = (n : ℕ) → run_at s.processes n ≡ Ready → Stands n s.ready

unready : (r : ProcessState) → is_ready r ≡ false → r ≡ Ready → ⊥
unready r h g = true≢false (sym (ap is_ready g) ∙ h)

joined : (s t : State) (q : Proc) (new : Process) → t.processes ≡ slice_set s.processes q.0 new → t.ready ≡ s.ready ++ q ∷ [] → AreListed s → AreListed t
joined s t q new a b h n g = rw b (by (back_or (λ r. r ≡ Ready) s.processes q.0 n new (rw a at g)))
  where
    by : ((n ≡ q.0) × (new.run ≡ Ready)) ⊎ (run_at s.processes n ≡ Ready) → Stands n (s.ready ++ q ∷ [])
    by (inl e) = rw e.0 (stands_last q s.ready)
    by (inr e) = stands_more n q s.ready (h n e)

pub moves_listed : (s : State) (p : Proc) (t : State) → Moves s p t → AreListed s → AreListed t
moves_listed s p t (Calm a b) h n g = rw b (h n (rw a at g))
moves_listed s p t (Same k new a b c) h n g = rw c (h n (back (λ r. r ≡ Ready) s.processes k n new (λ e. sym b ∙ e) (rw a at g)))
moves_listed s p t (Rests new a b c d) h n g = rw d (h n (back (λ r. r ≡ Ready) s.processes p.0 n new (λ e. absurd (unready new.run c e)) (rw a at g)))
moves_listed s p t (Yields new a b c) h n g = joined s t p new a c h n g
moves_listed s p t (Wakes q new a b c d) h n g = joined s t q new a d h n g

pub dispatch_listed : (s : State) (cpu : Cpu) (first : Proc) (rest : List Proc) → s.ready ≡ first ∷ rest → run_at s.processes first.0 ≡ Ready → AreListed s
    → AreListed (given_to s cpu first rest)
dispatch_listed s cpu first rest e ready h n g =
    by (subst (λ qs. Stands n qs) e (h n (back (λ r. r ≡ Ready) s.processes first.0 n new (λ x. absurd (unready (Running cpu) refl x)) g)))
  where
    new : Process
    new = record (process s first) { run = Running cpu }

    by : Stands n (first ∷ rest) → Stands n rest
    by (inr x) = x
    by (inl x) =
        let here : run_at (slice_set s.processes first.0 new) first.0 ≡ Running cpu = run_here s.processes first.0 new (λ z. ended (sym ready ∙ z)) in
        let there : run_at (slice_set s.processes first.0 new) first.0 ≡ Ready = subst (λ (k : ℕ). run_at (slice_set s.processes first.0 new) k ≡ Ready) (sym x) g in
        absurd (unready (Running cpu) refl (sym here ∙ there))
      where
        ended : Ready ≡ Ended → ⊥
        ended z = true≢false (ap is_ready z)

-- ---- what the process itself does afterwards

waiting_off : (cpu : Cpu) (r : ProcessState) → is_waiting r ≡ true → is_on cpu r ≡ true → ⊥
waiting_off cpu Ready h g = absurd (cc)
waiting_off cpu (Running c) h g = absurd (cc)
waiting_off cpu (Waiting at) h g = absurd (cc)
waiting_off cpu Ended h g = absurd (cc)

on_stands : (cpu : Cpu) (r : ProcessState) → is_on cpu r ≡ true → r ≡ Ended → ⊥
on_stands cpu r h e = true≢false (sym h ∙ ap (λ x. is_on cpu x) e)

-- where it still runs, it runs where it did
pub own_runs : (cpu : Cpu) (s : State) (p : Proc) (t : State) → Moves s p t → is_on cpu (run_at s.processes p.0) ≡ true → is_running (run_at t.processes p.0) ≡ true
    → is_on cpu (run_at t.processes p.0) ≡ true
own_runs cpu s p t (Calm a b) on h = rw a on
own_runs cpu s p t (Same k new a b c) on h = rw (a, set_same s.processes k p.0 new b) on
own_runs cpu s p t (Rests new a b c d) on h =
    let here : run_at (slice_set s.processes p.0 new) p.0 ≡ new.run = run_here s.processes p.0 new (on_stands cpu (run_at s.processes p.0) on) in
    absurd (true≢false (sym (rw a at h) ∙ (ap is_running here ∙ b)))
own_runs cpu s p t (Yields new a b c) on h =
    let here : run_at (slice_set s.processes p.0 new) p.0 ≡ new.run = run_here s.processes p.0 new (on_stands cpu (run_at s.processes p.0) on) in
    absurd (true≢false (sym (rw a at h) ∙ ap is_running (here ∙ b)))
own_runs cpu s p t (Wakes q new a b c d) on h =
    rw (a, run_there s.processes q.0 p.0 new (λ e. waiting_off cpu (run_at s.processes q.0) c (rw (← e) on))) on

-- the processor goes on with it, or runs nothing
pub goes_on : (cpu : Cpu) (s : State) (p : Proc) (t : State) → Moves s p t → AreApart s.processes → runner s cpu ≡ Some p → is_running (run_at t.processes p.0) ≡ true
    → runner t cpu ≡ Some p
goes_on cpu s p t m apart r h = runner_is t.processes cpu p (moves_apart s p t m apart) (own_runs cpu s p t m (runs_on s.processes cpu p r) h)

pub gives_up : (cpu : Cpu) (s : State) (p : Proc) (t : State) → Moves s p t → AreApart s.processes → runner s cpu ≡ Some p → is_running (run_at t.processes p.0) ≡ false
    → runner t cpu ≡ None
gives_up cpu s p t m apart r h = no_runner t.processes cpu (λ i on.
    let same : i ≡ p.0 = apart i p.0 cpu (moves_on cpu s p t i m on) (runs_on s.processes cpu p r) in
    true≢false (sym (on_runs cpu (run_at t.processes p.0) (rw same at on)) ∙ h))

-- ---- who rests, as ready or waiting

waiting_rests : (r : ProcessState) → is_waiting r ≡ true → is_resting r ≡ true
waiting_rests Ready h = absurd (cc)
waiting_rests (Running c) h = absurd (cc)
waiting_rests (Waiting at) h = refl
waiting_rests Ended h = absurd (cc)

-- any other process that rests afterwards has rested before
pub rests_back : (s : State) (p : Proc) (t : State) (i : ℕ) → Moves s p t → (i ≡ p.0 → ⊥) → is_resting (run_at t.processes i) ≡ true → is_resting (run_at s.processes i) ≡ true
rests_back s p t i (Calm a b) apart g = rw a at g
rests_back s p t i (Same n new a b c) apart g = back (λ r. is_resting r ≡ true) s.processes n i new (λ h. ap is_resting (sym b) ∙ h) (rw a at g)
rests_back s p t i (Rests new a b c d) apart g = rw (a, run_there s.processes p.0 i new apart) at g
rests_back s p t i (Yields new a b c) apart g = rw (a, run_there s.processes p.0 i new apart) at g
rests_back s p t i (Wakes q new a b c d) apart g = back (λ r. is_resting r ≡ true) s.processes q.0 i new (λ h. waiting_rests (run_at s.processes q.0) c) (rw a at g)

-- a dispatch: the first ready process rests no more, and any other that rests has rested before
pub dispatch_rests : (s : State) (cpu : Cpu) (first : Proc) (rest : List Proc) (i : ℕ) → run_at s.processes first.0 ≡ Ready
    → is_resting (run_at (given_to s cpu first rest).processes i) ≡ true → (i ≡ first.0 → ⊥) × (is_resting (run_at s.processes i) ≡ true)
dispatch_rests s cpu first rest i ready g = (
  (λ e. true≢false (sym (rw e at g) ∙ ap is_resting (run_here s.processes first.0 new (λ z. true≢false (ap is_ready (sym ready ∙ z)))))),
  back (λ r. is_resting r ≡ true)
      s.processes first.0 i new (λ h. absurd (true≢false (sym h))) g,
)
  where
    new : Process
    new = record (process s first) { run = Running cpu }

pub dispatch_runs : (s : State) (cpu : Cpu) (first : Proc) (rest : List Proc) → run_at s.processes first.0 ≡ Ready → runner s cpu ≡ None → AreApart s.processes
    → runner (given_to s cpu first rest) cpu ≡ Some first
dispatch_runs s cpu first rest ready idle apart =
    let new : Process = record (process s first) { run = Running cpu } in
    let here : run_at (slice_set s.processes first.0 new) first.0 ≡ Running cpu = run_here s.processes first.0 new (λ z. true≢false (ap is_ready (sym ready ∙ z))) in
    runner_is (given_to s cpu first rest).processes cpu first (dispatch_apart s cpu first rest idle apart) (rw here (equal cpu.0))
  where
    equal : (n : ℕ) → (n == n) ≡ true
    equal n = grind (arith, nat_tests)

-- ---- nothing is ready, and some process runs

none_ready : (ps : List Process) → ((n : ℕ) → run_at ps n ≡ Ready → ⊥) → list_any (λ (p : Process). is_ready p.run) ps ≡ false
none_ready [] h = refl
none_ready (p ∷ ps) h = rw (by p.run (h 0), none_ready ps (λ n. h (suc n))) refl
  where
    by : (r : ProcessState) → (r ≡ Ready → ⊥) → is_ready r ≡ false
    by Ready g = absurd (g refl)
    by (Running c) g = refl
    by (Waiting at) g = refl
    by Ended g = refl

one_runs : (ps : List Process) → list_any (λ (p : Process). is_ready p.run || is_running p.run) ps ≡ true → list_any (λ (p : Process). is_ready p.run) ps ≡ false
    → list_any (λ (p : Process). is_running p.run) ps ≡ true
one_runs [] h g = h
one_runs (p ∷ ps) h g =
    by (is_ready p.run) (is_running p.run) (list_any (λ (p : Process). is_ready p.run) ps) (list_any (λ (p : Process). is_running p.run) ps)
    (list_any (λ (p : Process). is_ready p.run || is_running p.run) ps) (one_runs ps) h g
  where
    by : (a b c d e : Bool) → (e ≡ true → c ≡ false → d ≡ true) → ((a || b) || e) ≡ true → (a || c) ≡ false → (b || d) ≡ true
    by true b c d e f h g = absurd (cc)
    by false true c d e f h g = refl
    by false false c d e f h g = f h g

pub idle_shows : (s : State) → AreListed s → s.ready ≡ [] → is_over s ≡ false
    → (list_any (λ (p : Process). is_ready p.run) s.processes ≡ false) × (list_any (λ (p : Process). is_running p.run) s.processes ≡ true)
idle_shows s listed e over =
    let none = none_ready s.processes (λ n g. subst (λ qs. Stands n qs) e (listed n g)) in
    (none, one_runs s.processes (by (list_any (λ (p : Process). is_ready p.run || is_running p.run) s.processes) over) none)
  where
    by : (b : Bool) → not b ≡ false → b ≡ true
    by true h = refl
    by false h = absurd (cc)
