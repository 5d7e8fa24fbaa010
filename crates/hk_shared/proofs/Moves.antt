-- What an event does to the processes and the ready list: at most one process does something else after it.
use Rattle.std.specs.Prelude.{◌≡◌, ℕ, ◌+◌, ◌-◌, List, [], ◌∷◌, ◌++◌, Bool, true, false, Option, Some, None, Ok, Err, IfOk, nat_lt, slice_set, refl}
use Rattle.std.specs.Map.{remove_entry}
use Rattle.std.proofs.Common.{ap, sym, subst}
use Rattle.hk_model.specs.declared.names.Name.{Name}
use Rattle.hk_model.specs.declared.names.Inc.{Inc}
use Rattle.hk_model.specs.declared.names.Proc.{Proc}
use Rattle.hk_model.specs.declared.names.Slot.{Slot}
use Rattle.hk_model.specs.declared.entries.Cap.{Cap}
use Rattle.hk_model.specs.declared.calls.Call.{Call}
use Rattle.hk_model.specs.declared.calls.Call.TheVariants as call
use Rattle.hk_model.specs.declared.calls.Refusal.TheVariants as refused
use Rattle.hk_model.specs.declared.calls.What8.TheVariants as full
use Rattle.hk_model.specs.declared.calls.Answer.{Answer}
use Rattle.hk_model.specs.declared.calls.Answer.TheVariants.{Done, Waits}
use Rattle.hk_model.specs.declared.objects.Process.{Process}
use Rattle.hk_model.specs.declared.objects.ProcessState.TheVariants.{Ready, Waiting, Ended}
use Rattle.hk_model.specs.Limits.{token_limit}
use Rattle.hk_model.specs.WorldValue.{WorldValue}
use Rattle.hk_model.specs.State.{State, object, process, put_object, put_process, same_inc}
use Rattle.hk_model.specs.Refusing.{unless}
use Rattle.hk_model.specs.Targets.{SEMAPHORE, is_of_type, MODIFY+A0, MODIFY+A1, target}
use Rattle.hk_model.specs.Rule.{Outcome, outcome, rule, settled, counted, leave_to, token_given, enter_procedure, leave, take_token, give_token}
use Rattle.hk_model.specs.Keeping.{restricted}
use Rattle.hk_model.specs.Processors.{is_waiting, is_running, is_ready, halted}
use Rattle.hk_model.proofs.TestLemmas.{then_is, and_is}
use Rattle.hk_model.proofs.Turns.{EntersBy, enters_by}
use Rattle.hk_program.proofs.Queues.{run_at, IsQueue}
use Rattle.hk_program.proofs.Calm.{Calm as IsCalm, outcome_calm}
use Rattle.hk_program.proofs.Regular.{Regular}

-- what an event of process p, which ran before it, does to the processes
pub data Moves : State → Proc → State → Type 0 where
  Calm : {s : State} {p : Proc} {t : State} → t.processes ≡ s.processes → t.ready ≡ s.ready → Moves s p t
  Same : {s : State} {p : Proc} {t : State} (n : ℕ) (new : Process) → t.processes ≡ slice_set s.processes n new → new.run ≡ run_at s.processes n → t.ready ≡ s.ready → Moves s p t
  Rests : {s : State} {p : Proc} {t : State} (new : Process) → t.processes ≡ slice_set s.processes p.0 new → is_running new.run ≡ false → is_ready new.run ≡ false
      → t.ready ≡ s.ready → Moves s p t
  Yields : {s : State} {p : Proc} {t : State} (new : Process) → t.processes ≡ slice_set s.processes p.0 new → new.run ≡ Ready → t.ready ≡ s.ready ++ p ∷ [] → Moves s p t
  Wakes : {s : State} {p : Proc} {t : State} (q : Proc) (new : Process) → t.processes ≡ slice_set s.processes q.0 new → new.run ≡ Ready → is_waiting (run_at s.processes q.0) ≡ true
      → t.ready ≡ s.ready ++ q ∷ [] → Moves s p t

module _ (w : WorldValue) (s : State) (reg : Regular w s) where
  enters : (proc : Proc) (inc : Inc) (path args : List ℕ) (into : Slot) → IfOk (enter_procedure s proc inc path args into) (λ f. Moves s proc f.1)
  enters proc inc path args into = by (enter_procedure s proc inc path args into) (enters_by s proc inc path args into)
    where
      by : (o : Outcome) → IfOk o (EntersBy s proc inc) → IfOk o (λ f. Moves s proc f.1)
      by (Err e) h = tt
      by (Ok f) h = subst (λ t. Moves s proc t) (sym h.after) (Same h.new.proc.0 (record (process s h.new.proc) { current = s.next_inc }) refl refl refl)

  leaves_to : (proc : Proc) (inc : Inc) (caller : Option Inc) (slot : ℕ) (c : Option Cap)
      → Moves s proc (leave_to (record s { incarnations = remove_entry (same_inc inc) s.incarnations }) proc caller slot c)
  leaves_to proc inc None slot c = Rests (record (process s proc) { run = Ended }) refl refl refl refl
  leaves_to proc inc (Some k) slot None = Same proc.0 (record (process s proc) { current = k }) refl refl refl
  leaves_to proc inc (Some k) slot (Some c) = Same proc.0 (record (process s proc) { current = k }) refl refl refl

  leaves : (proc : Proc) (inc : Inc) (give : Option Slot) → IfOk (leave s proc inc give) (λ f. Moves s proc f.1)
  unfolding leave
  leaves proc inc give = search (then_is, leaves_to)

  takes : (proc : Proc) (inc : Inc) (path : List ℕ) → IfOk (take_token s proc inc path) (λ f. Moves s proc f.1)
  unfolding take_token
  takes proc inc path =
      then_is (λ f. Moves s proc f.1) (target s inc path (is_of_type SEMAPHORE) MODIFY+A0) (λ c. Ok (elim (nat_lt 0 (object s c.name).count) [
        | true ↦ (Done, put_object s c.name (record (object s c.name) { count = (object s c.name).count - 1 }))
        | false ↦ (
          Waits,
          put_process (put_object s c.name (record (object s c.name) { waiters = (object s c.name).waiters ++ proc ∷ [] })) proc
              (record (process s proc) { run = Waiting c.name }),
        )
      ])) (λ c g. by c (nat_lt 0 (object s c.name).count))
    where
      by : (c : Cap) (b : Bool) → Moves s proc (elim b as (λ x. Answer × State) [
        | true ↦ (Done, put_object s c.name (record (object s c.name) { count = (object s c.name).count - 1 }))
        | false ↦ (
          Waits,
          put_process (put_object s c.name (record (object s c.name) { waiters = (object s c.name).waiters ++ proc ∷ [] })) proc
              (record (process s proc) { run = Waiting c.name }),
        )
      ]).1
      by c true = Calm refl refl
      by c false = Rests (record (process s proc) { run = Waiting c.name }) refl refl refl refl

  token_moves : (proc : Proc) (name : Name) (waiters : List Proc) → (object s name).waiters ≡ waiters → IfOk (token_given s name (object s name) waiters) (λ f. Moves s proc f.1)
  token_moves proc name [] e =
      and_is (λ f. Moves s proc f.1) (unless (nat_lt (object s name).count token_limit) (refused.Full full.Tokens))
      (Ok (Done, put_object s name (record (object s name) { count = (object s name).count + 1 })))
      (λ u g. Calm refl refl)
  token_moves proc name (first ∷ rest) e =
      let queue : IsQueue s.processes (Waiting name) (first ∷ rest) = subst (λ qs. IsQueue s.processes (Waiting name) qs) e (reg.waiting name) in
      Wakes first (record (process s first) { run = Ready }) refl refl (ap is_waiting queue.0.0) refl

  gives : (proc : Proc) (inc : Inc) (path : List ℕ) → IfOk (give_token s inc path) (λ f. Moves s proc f.1)
  unfolding give_token
  gives proc inc path =
      then_is (λ f. Moves s proc f.1) (target s inc path (is_of_type SEMAPHORE) MODIFY+A1) (λ c. token_given s c.name (object s c.name) (object s c.name).waiters)
      (λ c g. token_moves proc c.name (object s c.name).waiters refl)

  calm_moves : (proc : Proc) (o : Outcome) → IfOk o (λ f. IsCalm s f.1) → IfOk o (λ f. Moves s proc f.1)
  calm_moves proc (Ok f) h = Calm h.processes h.ready
  calm_moves proc (Err e) h = tt

  outcome_moves : (proc : Proc) (inc : Inc) (c : Call) → IfOk (outcome s proc inc c) (λ f. Moves s proc f.1)
  outcome_moves proc inc (call.Enter path args into) = enters proc inc path args into
  outcome_moves proc inc (call.Leave give) = leaves proc inc give
  outcome_moves proc inc (call.P of) = takes proc inc of
  outcome_moves proc inc (call.V of) = gives proc inc of
  outcome_moves proc inc call.Yield = Yields (record (process s proc) { run = Ready }) refl refl refl
  outcome_moves proc inc c = calm_moves proc (outcome s proc inc c) (outcome_calm s proc inc c)

  counted_moves : (proc : Proc) (t : State) (n : ℕ) → Moves s proc t → Moves s proc (counted n (restricted t))
  counted_moves proc t n (Calm a b) = Calm a b
  counted_moves proc t n (Same i new a b c) = Same i new a b c
  counted_moves proc t n (Rests new a b c d) = Rests new a b c d
  counted_moves proc t n (Yields new a b c) = Yields new a b c
  counted_moves proc t n (Wakes q new a b c d) = Wakes q new a b c d

  settled_moves : (proc : Proc) (o : Outcome) → IfOk o (λ f. Moves s proc f.1) → Moves s proc (settled s o).1
  settled_moves proc (Ok f) h = counted_moves proc f.1 (s.events + 1) h
  settled_moves proc (Err e) h = Calm refl refl

  -- of a call
  pub call_moves : (proc : Proc) (c : Call) → Moves s proc (rule s proc c).1
  call_moves proc c = settled_moves proc (outcome s proc (process s proc).current c) (outcome_moves proc (process s proc).current c)

-- of a halt
pub halt_moves : (s : State) (proc : Proc) → Moves s proc (halted s proc)
halt_moves s proc = Rests (record (process s proc) { run = Ended }) refl refl refl refl
