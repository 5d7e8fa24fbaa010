-- A process that ran on a processor can run there again, where the event that changed it is taken back.
use Rattle.std.proofs.Common.{◌≡◌, ℕ, zero, suc, ◌+◌, ◌<◌, List, [], ◌∷◌, ◌++◌, Bool, true, false, Option, Some, None, Result, Ok, Err, refl, ◌∙◌, ap, subst, arith}
use mathlib.Core.Logic.{inl, inr}
use Rattle.std.specs.Prelude.{IfOk, IfSome, nat_lt, slice_get, slice_set, not, ◌⊎◌, ◌==◌, ⊤}
use Rattle.std.specs.Map.{remove_entry}
use Rattle.std.specs.Option.{unwrap_or}
use Rattle.std.proofs.lemmas.Bool.{false≢true}
use Rattle.std.proofs.lemmas.Bool.Decides.{nat_tests}
use Rattle.hk_model.specs.declared.names.Name.{Name}
use Rattle.hk_model.specs.declared.names.Inc.{Inc}
use Rattle.hk_model.specs.declared.names.Proc.{Proc}
use Rattle.hk_model.specs.declared.names.Cpu.{Cpu}
use Rattle.hk_model.specs.declared.names.Slot.{Slot}
use Rattle.hk_model.specs.declared.entries.Cap.{Cap}
use Rattle.hk_model.specs.declared.entries.Entry.{Entry}
use Rattle.hk_model.specs.declared.calls.Call.{Call}
use Rattle.hk_model.specs.declared.calls.Call.TheVariants as call
use Rattle.hk_model.specs.declared.calls.Refusal.{Refusal}
use Rattle.hk_model.specs.declared.calls.Answer.{Answer}
use Rattle.hk_model.specs.declared.objects.Object.{Object}
use Rattle.hk_model.specs.declared.objects.Incarnation.{Incarnation}
use Rattle.hk_model.specs.declared.objects.Process.{Process}
use Rattle.hk_model.specs.declared.objects.ProcessState.{ProcessState}
use Rattle.hk_model.specs.declared.objects.ProcessState.TheVariants.{Ready, Running, Waiting, Ended}
use Rattle.hk_rights.specs.Rights.{has, unconf_right}
use Rattle.hk_model.specs.State.{State, object, incarnation, process, put_process, same_inc}
use Rattle.hk_model.specs.Refusing.{◌>>=◌}
use Rattle.hk_model.specs.Targets.{SEMAPHORE, is_general, is_listed, is_of_type, PUTDATA+MODIFY, ADDDATA+MODIFY, STORE+MODIFY, APPEND+MODIFY, KILL+MODIFY, MODIFY+A0}
use Rattle.hk_model.specs.Targets.{MODIFY+A1, target}
use Rattle.hk_model.specs.Rule.{outcome, token_given, counted, enter, called_incarnation, leave_to, enter_procedure, leave, take_token, give_token}
use Rattle.hk_model.specs.Processors.{is_on, runner, runner_from, dispatched, dispatched_from, halted}
use Rattle.hk_model.proofs.TestLemmas.{then_is, and_is, if_ok, ok_each}
use Rattle.hk_running.specs.Runners.{process_at}
use Rattle.hk_plain.specs.declared.changes.Part.{Part}
use Rattle.hk_plain.specs.declared.changes.Saved.{Saved}
use Rattle.hk_plain.specs.Changes.{CanRun, call_saved, part_saved, wait_saved, give_saved, token_saved, process_saved, leave_saved, dispatch_saved, halt_saved}
use Rattle.hk_plain.proofs.CallsTakenBack.{taken, wait_part}

-- each processor runs one process at most, and there are 16
pub record RunAlone (ps : List Process) : Type 0 where
  pub alone : (q r : ℕ) (cpu : Cpu) → is_on cpu (process_at ps q).run ≡ true → is_on cpu (process_at ps r).run ≡ true → q ≡ r
  pub few : (q : ℕ) (cpu : Cpu) → (process_at ps q).run ≡ Running cpu → cpu.0 < 16

-- ---- one process has changed

-- no process of these runs there
none_runs : (ps : List Process) (cpu : Cpu) (n : ℕ) → ((q : ℕ) → is_on cpu (process_at ps q).run ≡ false) → runner_from ps cpu n ≡ None
none_runs [] cpu n off = refl
none_runs (p ∷ ps) cpu n off = rw (off 0) (none_runs ps cpu (n + 1) (λ q. off (suc q)))

at_changed : (ps : List Process) (n : ℕ) (new old : Process) → slice_get ps n ≡ Some old → process_at (slice_set ps n new) n ≡ new
at_changed [] n new old there = absurd (cc)
at_changed (p ∷ ps) zero new old there = refl
at_changed (p ∷ ps) (suc n) new old there = at_changed ps n new old there

at_others : (ps : List Process) (n q : ℕ) (new : Process) → (q ≡ n → ⊥) → process_at (slice_set ps n new) q ≡ process_at ps q
at_others [] n q new apart = refl
at_others (p ∷ ps) zero zero new apart = absurd (apart refl)
at_others (p ∷ ps) zero (suc q) new apart = refl
at_others (p ∷ ps) (suc n) zero new apart = refl
at_others (p ∷ ps) (suc n) (suc q) new apart = at_others ps n q new (λ h. apart (ap suc h))

-- a process that runs is there
running_there : (ps : List Process) (n : ℕ) (cpu : Cpu) → (process_at ps n).run ≡ Running cpu → slice_get ps n ≡ Some (process_at ps n)
running_there ps n cpu runs = by (slice_get ps n) runs
  where
    by : (o : Option Process) → (unwrap_or o (record { run = Ended; current = record { 0 = 0 } })).run ≡ Running cpu
        → o ≡ Some (unwrap_or o (record { run = Ended; current = record { 0 = 0 } }))
    by None ended = absurd (cc)
    by (Some p) runs = refl

on_running : (cpu : Cpu) → is_on cpu (Running cpu) ≡ true
on_running cpu = itself cpu.0
  where
    itself : (n : ℕ) → (n == n) ≡ true
    itself n = grind (arith, nat_tests)

running_on : (cpu : Cpu) (run : ProcessState) → is_on cpu run ≡ true → run ≡ Running cpu
running_on cpu Ready on = absurd (false≢true on)
running_on cpu (Running other) on = ap (λ (n : ℕ). let it : Cpu = record { 0 = n } in Running it) (same other.0 cpu.0 on)
  where
    same : (a b : ℕ) → (a == b) ≡ true → a ≡ b
    same a b h = grind (arith, nat_tests)
running_on cpu (Waiting at) on = absurd (false≢true on)
running_on cpu Ended on = absurd (false≢true on)

-- it runs there still, or the processor runs nothing
pub can_run : (s after : State) (proc : Proc) (new : Process) → RunAlone s.processes → after.processes ≡ slice_set s.processes proc.0 new → CanRun after proc (process s proc).run
can_run s after proc new alone is = by (process s proc).run refl
  where
    same_number : (a b : ℕ) → (a == b) ≡ true → a ≡ b
    same_number a b h = grind (arith, nat_tests)

    other_number : (a b : ℕ) → (a == b) ≡ false → a ≡ b → ⊥
    other_number a b h e = grind (arith, nat_tests)

    -- the processor runs no other process than this one did before
    off : (cpu : Cpu) → (process s proc).run ≡ Running cpu → is_on cpu new.run ≡ false → (q : ℕ) → is_on cpu (process_at (slice_set s.processes proc.0 new) q).run ≡ false
    off cpu runs gone q = at (q == proc.0) refl
      where
        alone_off : (q ≡ proc.0 → ⊥) → (b : Bool) → is_on cpu (process_at s.processes q).run ≡ b → b ≡ false
        alone_off apart true on = absurd (apart (alone.alone q proc.0 cpu on (ap (is_on cpu) runs ∙ on_running cpu)))
        alone_off apart false on = refl

        at : (b : Bool) → (q == proc.0) ≡ b → is_on cpu (process_at (slice_set s.processes proc.0 new) q).run ≡ false
        at true same =
            let here : q ≡ proc.0 = same_number q proc.0 same in
            rw here (ap (λ (p : Process). is_on cpu p.run) (at_changed s.processes proc.0 new (process s proc) (running_there s.processes proc.0 cpu runs)) ∙ gone)
        at false apart =
            let other : q ≡ proc.0 → ⊥ = other_number q proc.0 apart in
            ap (λ (p : Process). is_on cpu p.run) (at_others s.processes proc.0 q new other) ∙ alone_off other (is_on cpu (process_at s.processes q).run) refl

    still : (cpu : Cpu) → (process s proc).run ≡ Running cpu → (b : Bool) → is_on cpu new.run ≡ b → ((process after proc).run ≡ Running cpu) ⊎ (runner after cpu ≡ None)
    still cpu runs true on =
        inl (ap (λ (ps : List Process). (process_at ps proc.0).run) is
        ∙ (ap (λ (p : Process). p.run) (at_changed s.processes proc.0 new (process s proc) (running_there s.processes proc.0 cpu runs)) ∙ running_on cpu new.run on))
    still cpu runs false gone =
        inr (ap (λ (ps : List Process). runner_from ps cpu 0) is ∙ none_runs (slice_set s.processes proc.0 new) cpu 0 (off cpu runs gone))

    by : (run : ProcessState) → (process s proc).run ≡ run → CanRun after proc run
    by Ready runs = tt
    by (Running cpu) runs = (alone.few proc.0 cpu runs, still cpu runs (is_on cpu new.run) refl)
    by (Waiting at) runs = tt
    by Ended runs = tt

-- ---- what an event saved can run behind it

abbrev pub SavedRuns : Saved → State → Type 0
SavedRuns v after = IfSome v.process (λ (p : Proc × Process). CanRun after p.0 p.1.run)

-- that is a matter of the processes alone
pub runs_same : (v : Saved) (s t : State) → s.processes ≡ t.processes → SavedRuns v s → SavedRuns v t
runs_same v s t alike runs = by v.process runs
  where
    by : (o : Option (Proc × Process)) → IfSome o (λ (p : Proc × Process). CanRun s p.0 p.1.run) → IfSome o (λ (p : Proc × Process). CanRun t p.0 p.1.run)
    by None h = tt
    by (Some p) h = does p.1.run h
      where
        does : (run : ProcessState) → CanRun s p.0 run → CanRun t p.0 run
        does Ready g = tt
        does (Running cpu) g =
            subst (λ (ps : List Process). (cpu.0 < 16) × (((process_at ps p.0.0).run ≡ Running cpu) ⊎ (runner_from ps cpu 0 ≡ None))) alike g
        does (Waiting place) g = tt
        does Ended g = tt

part_runs : (s t : State) (r : Result Cap Refusal) (part : Object → Part) → SavedRuns (part_saved s r part) t
part_runs s t (Ok cap) part = tt
part_runs s t (Err e) part = tt

module _ (s : State) (alone : RunAlone s.processes) where
  entered_runs : (new : Incarnation) → CanRun (enter s new) new.proc (process s new.proc).run
  entered_runs new = can_run s (enter s new) new.proc (record (process s new.proc) { current = s.next_inc }) alone refl

  enter_runs : (proc : Proc) (inc : Inc) (path args : List ℕ) (into : Slot)
      → IfOk (enter_procedure s proc inc path args into) (λ f. SavedRuns (record (process_saved s proc) { entered = true }) f.1)
  unfolding enter_procedure
  enter_runs proc inc path args into = search (and_is, then_is, left) depth 12
    where
      left : (cap : Cap) (slots : List Entry)
          → CanRun (enter s (called_incarnation proc cap.name inc into (not (has cap.rights unconf_right)) slots)) proc (process s proc).run
      left cap slots = entered_runs (called_incarnation proc cap.name inc into (not (has cap.rights unconf_right)) slots)

  left_runs : (proc : Proc) (inc : Inc) (caller : Option Inc) (into : Slot) (cap : Option Cap)
      → SavedRuns (leave_saved s proc caller into) (leave_to (record s { incarnations = remove_entry (same_inc inc) s.incarnations }) proc caller into.0 cap)
  left_runs proc inc None into cap =
      can_run s (leave_to (record s { incarnations = remove_entry (same_inc inc) s.incarnations }) proc None into.0 cap) proc (record (process s proc) { run = Ended }) alone refl
  left_runs proc inc (Some caller) into None =
      can_run s (leave_to (record s { incarnations = remove_entry (same_inc inc) s.incarnations }) proc (Some caller) into.0 None) proc
      (record (process s proc) { current = caller }) alone refl
  left_runs proc inc (Some caller) into (Some cap) =
      can_run s (leave_to (record s { incarnations = remove_entry (same_inc inc) s.incarnations }) proc (Some caller) into.0 (Some cap)) proc
      (record (process s proc) { current = caller }) alone refl

  leave_runs : (proc : Proc) (inc : Inc) (give : Option Slot)
      → IfOk (leave s proc inc give) (λ f. SavedRuns (leave_saved s proc (incarnation s inc).caller (incarnation s inc).into) f.1)
  unfolding leave
  leave_runs proc inc give = search (then_is, left_runs)

  taken_runs : (proc : Proc) (cap : Cap) (b : Bool) → SavedRuns (wait_part s proc cap b) (taken s proc cap b).1
  taken_runs proc cap true = tt
  taken_runs proc cap false = can_run s (taken s proc cap false).1 proc (record (process s proc) { run = Waiting cap.name }) alone refl

  take_runs : (proc : Proc) (r : Result Cap Refusal)
      → IfOk (r >>= (λ cap. Ok (taken s proc cap (nat_lt 0 (object s cap.name).count)))) (λ f. SavedRuns (wait_saved s proc r) f.1)
  take_runs proc (Ok cap) = taken_runs proc cap (nat_lt 0 (object s cap.name).count)
  take_runs proc (Err e) = tt

  token_runs : (name : Name) (waiters : List Proc) → IfOk (token_given s name (object s name) waiters) (λ f. SavedRuns (token_saved s name waiters) f.1)
  token_runs name [] = ok_each (λ (f : Answer × State). ⊤) (token_given s name (object s name) []) (λ f. tt)
  token_runs name (first ∷ rest) =
      can_run s (record (put_process s first (record (process s first) { run = Ready })) { ready = s.ready }) first (record (process s first) { run = Ready }) alone refl

  give_runs : (r : Result Cap Refusal)
      → IfOk (r >>= (λ cap. token_given s cap.name (object s cap.name) (object s cap.name).waiters)) (λ f. SavedRuns (give_saved s r) f.1)
  give_runs (Ok cap) = token_runs cap.name (object s cap.name).waiters
  give_runs (Err e) = tt

  outcome_runs : (proc : Proc) (inc : Inc) (c : Call) → IfOk (outcome s proc inc c) (λ f. SavedRuns (call_saved s proc inc c) f.1)
  unfolding take_token give_token
  outcome_runs proc inc (call.Get of at) = ok_each (λ (f : Answer × State). ⊤) (outcome s proc inc (call.Get of at)) (λ f. tt)
  outcome_runs proc inc (call.Put of at word) =
      ok_each (λ (f : Answer × State). SavedRuns (call_saved s proc inc (call.Put of at word)) f.1) (outcome s proc inc (call.Put of at word))
      (λ f. part_runs s f.1 (target s inc of is_general PUTDATA+MODIFY) _)
  outcome_runs proc inc (call.Add of word) =
      ok_each (λ (f : Answer × State). SavedRuns (call_saved s proc inc (call.Add of word)) f.1) (outcome s proc inc (call.Add of word))
      (λ f. part_runs s f.1 (target s inc of is_general ADDDATA+MODIFY) _)
  outcome_runs proc inc (call.Length of) = ok_each (λ (f : Answer × State). ⊤) (outcome s proc inc (call.Length of)) (λ f. tt)
  outcome_runs proc inc (call.Load from into) = ok_each (λ (f : Answer × State). ⊤) (outcome s proc inc (call.Load from into)) (λ f. tt)
  outcome_runs proc inc (call.Store list at from) =
      ok_each (λ (f : Answer × State). SavedRuns (call_saved s proc inc (call.Store list at from)) f.1) (outcome s proc inc (call.Store list at from))
      (λ f. part_runs s f.1 (target s inc list is_listed STORE+MODIFY) _)
  outcome_runs proc inc (call.Append list from) =
      ok_each (λ (f : Answer × State). SavedRuns (call_saved s proc inc (call.Append list from)) f.1) (outcome s proc inc (call.Append list from))
      (λ f. part_runs s f.1 (target s inc list is_listed APPEND+MODIFY) _)
  outcome_runs proc inc (call.Erase list at) =
      ok_each (λ (f : Answer × State). SavedRuns (call_saved s proc inc (call.Erase list at)) f.1) (outcome s proc inc (call.Erase list at))
      (λ f. part_runs s f.1 (target s inc list is_listed KILL+MODIFY) _)
  outcome_runs proc inc (call.Drop slot) = ok_each (λ (f : Answer × State). ⊤) (outcome s proc inc (call.Drop slot)) (λ f. tt)
  outcome_runs proc inc (call.Restrict slot keep) = ok_each (λ (f : Answer × State). ⊤) (outcome s proc inc (call.Restrict slot keep)) (λ f. tt)
  outcome_runs proc inc (call.Look of) = ok_each (λ (f : Answer × State). ⊤) (outcome s proc inc (call.Look of)) (λ f. tt)
  outcome_runs proc inc (call.MakeTemplate of kind into) = ok_each (λ (f : Answer × State). ⊤) (outcome s proc inc (call.MakeTemplate of kind into)) (λ f. tt)
  outcome_runs proc inc (call.Create by into) = ok_each (λ (f : Answer × State). ⊤) (outcome s proc inc (call.Create by into)) (λ f. tt)
  outcome_runs proc inc (call.Merge with from into) = ok_each (λ (f : Answer × State). ⊤) (outcome s proc inc (call.Merge with from into)) (λ f. tt)
  outcome_runs proc inc (call.Copy of into) = ok_each (λ (f : Answer × State). ⊤) (outcome s proc inc (call.Copy of into)) (λ f. tt)
  outcome_runs proc inc (call.Enter path args into) = enter_runs proc inc path args into
  outcome_runs proc inc (call.Leave give) = leave_runs proc inc give
  outcome_runs proc inc (call.P of) = take_runs proc (target s inc of (is_of_type SEMAPHORE) MODIFY+A0)
  outcome_runs proc inc (call.V of) = give_runs (target s inc of (is_of_type SEMAPHORE) MODIFY+A1)
  outcome_runs proc inc call.Yield =
      can_run s (record (put_process s proc (record (process s proc) { run = Ready })) { ready = s.ready ++ proc ∷ [] }) proc (record (process s proc) { run = Ready }) alone refl

  pub call_runs : (proc : Proc) (inc : Inc) (c : Call) (answer : Answer) (after : State) → outcome s proc inc c ≡ Ok (answer, after) → SavedRuns (call_saved s proc inc c) after
  call_runs proc inc c answer after is =
      if_ok (λ (f : Answer × State). SavedRuns (call_saved s proc inc c) f.1) (outcome s proc inc c) (answer, after) (outcome_runs proc inc c) is

  pub dispatch_runs : (cpu : Cpu) (first : Proc) (after : State) → dispatched s cpu ≡ Some (first, after) → SavedRuns (dispatch_saved s first) after
  dispatch_runs cpu first after is = by s.ready is
    where
      by : (ready : List Proc) → dispatched_from s cpu ready ≡ Some (first, after) → SavedRuns (dispatch_saved s first) after
      by [] found = absurd (cc)
      by (head ∷ rest) found =
          let same : head ≡ first = ap (λ (o : Option (Proc × State)). (unwrap_or o (first, after)).0) found in
          let left : counted (s.events + 1) (record (put_process s head (record (process s head) { run = Running cpu })) { ready = rest }) ≡ after =
          ap (λ (o : Option (Proc × State)). (unwrap_or o (first, after)).1) found in
          rw (← left, ← same)
          (can_run s (counted (s.events + 1) (record (put_process s head (record (process s head) { run = Running cpu })) { ready = rest })) head
          (record (process s head) { run = Running cpu }) alone refl)

  pub halt_runs : (proc : Proc) → SavedRuns (halt_saved s proc) (halted s proc)
  halt_runs proc = can_run s (halted s proc) proc (record (process s proc) { run = Ended }) alone refl
