-- Which processes have ended after an event: those that had before, and the one of the event where it halts or returns from its
-- last incarnation.
use Rattle.std.specs.Prelude.{◌≡◌, ℕ, zero, suc, ◌-◌, ◌+◌, ◌++◌, List, [], ◌∷◌, Bool, true, false, Option, Some, None, Ok, Err, IfOk, nat_lt, slice_set, refl}
use Rattle.std.specs.Map.{remove_entry}
use Rattle.std.proofs.Common.{ap, sym, ◌∙◌, subst}
use Rattle.std.proofs.lemmas.Bool.{true≢false}
use Rattle.hk_model.specs.declared.names.Name.{Name}
use Rattle.hk_model.specs.declared.names.Inc.{Inc}
use Rattle.hk_model.specs.declared.names.Proc.{Proc}
use Rattle.hk_model.specs.declared.names.Cpu.{Cpu}
use Rattle.hk_model.specs.declared.names.Slot.{Slot}
use Rattle.hk_model.specs.declared.entries.Cap.{Cap}
use Rattle.hk_model.specs.declared.calls.Call.{Call}
use Rattle.hk_model.specs.declared.calls.Call.TheVariants as call
use Rattle.hk_model.specs.declared.calls.Refusal.TheVariants as refused
use Rattle.hk_model.specs.declared.calls.What8.TheVariants as full
use Rattle.hk_model.specs.declared.calls.Answer.{Answer}
use Rattle.hk_model.specs.declared.calls.Answer.TheVariants.{Done, Waits}
use Rattle.hk_model.specs.declared.objects.Process.{Process}
use Rattle.hk_model.specs.declared.objects.ProcessState.{ProcessState}
use Rattle.hk_model.specs.declared.objects.ProcessState.TheVariants.{Ready, Running, Waiting, Ended}
use Rattle.hk_model.specs.Limits.{token_limit}
use Rattle.hk_model.specs.WorldValue.{WorldValue}
use Rattle.hk_model.specs.State.{State, object, incarnation, process, put_object, put_process, same_inc}
use Rattle.hk_model.specs.Refusing.{unless}
use Rattle.hk_model.specs.Targets.{SEMAPHORE, is_of_type, MODIFY+A0, MODIFY+A1, target}
use Rattle.hk_model.specs.Rule.{Outcome, outcome, leave_to, token_given, enter_procedure, leave, take_token, give_token}
use Rattle.hk_model.specs.Processors.{is_on, has_ended}
use Rattle.hk_model.proofs.TestLemmas.{then_is, and_is}
use Rattle.hk_model.proofs.Turns.{EntersBy, enters_by}
use Rattle.hk_program.proofs.Queues.{run_at, IsQueue, run_there, run_here}
use Rattle.hk_program.proofs.Calm.{Calm, outcome_calm}
use Rattle.hk_program.proofs.Regular.{Regular}

-- every other process has ended exactly where it had, and whether this one has is so
abbrev pub HaveEnded : List Process → ℕ → Bool → List Process → Type 0
HaveEnded ps p so qs = ((q : ℕ) → (q ≡ p → ⊥) → has_ended (run_at qs q) ≡ has_ended (run_at ps q)) × (has_ended (run_at qs p) ≡ so)

-- whether the caller of the last incarnation is none
abbrev pub is_base : Option Inc → Bool
is_base None = true
is_base (Some caller) = false

-- whether the call ends the process, where it is answered
abbrev pub ends_by : State → Inc → Call → Bool
ends_by s inc (call.Leave give) = is_base (incarnation s inc).caller
ends_by s inc c = false

-- a process that does as much as before
pub as_ended : (m : ℕ) (ps : List Process) (n : ℕ) (new : Process) → has_ended new.run ≡ has_ended (run_at ps n) → has_ended (run_at (slice_set ps n new) m) ≡ has_ended (run_at ps m)
as_ended m [] n new h = refl
as_ended zero (p ∷ ps) zero new h = h
as_ended (suc m) (p ∷ ps) zero new h = refl
as_ended zero (p ∷ ps) (suc n) new h = refl
as_ended (suc m) (p ∷ ps) (suc n) new h = as_ended m ps n new h

-- who is on a processor has not ended
pub going_on : (cpu : Cpu) (r : ProcessState) → is_on cpu r ≡ true → has_ended r ≡ false
going_on cpu Ready h = refl
going_on cpu (Running c) h = refl
going_on cpu (Waiting at) h = refl
going_on cpu Ended h = absurd (true≢false (sym h))

module _ (w : WorldValue) (s : State) (reg : Regular w s) (cpu : Cpu) (proc : Proc) (runs : is_on cpu (run_at s.processes proc.0) ≡ true) where
  going : has_ended (run_at s.processes proc.0) ≡ false
  going = going_on cpu (run_at s.processes proc.0) runs

  not_ended : run_at s.processes proc.0 ≡ Ended → ⊥
  not_ended e = true≢false (sym (ap has_ended e) ∙ going)

  abbrev Leaves : Bool → Answer × State → Type 0
  Leaves so f = HaveEnded s.processes proc.0 so f.1.processes

  pub kept : HaveEnded s.processes proc.0 false s.processes
  kept = (λ q h. refl, going)

  pub changed : (new : Process) → HaveEnded s.processes proc.0 (has_ended new.run) (slice_set s.processes proc.0 new)
  changed new = (λ q h. ap has_ended (run_there s.processes proc.0 q new h), ap has_ended (run_here s.processes proc.0 new not_ended))

  moved : (n : ℕ) (new : Process) → has_ended new.run ≡ has_ended (run_at s.processes n) → HaveEnded s.processes proc.0 false (slice_set s.processes n new)
  moved n new e = (λ q h. as_ended q s.processes n new e, as_ended proc.0 s.processes n new e ∙ going)

  enters : (inc : Inc) (path args : List ℕ) (into : Slot) → IfOk (enter_procedure s proc inc path args into) (Leaves false)
  enters inc path args into = by (enter_procedure s proc inc path args into) (enters_by s proc inc path args into)
    where
      by : (o : Outcome) → IfOk o (EntersBy s proc inc) → IfOk o (Leaves false)
      by (Err e) h = tt
      by (Ok f) h =
          subst (λ (t : State). HaveEnded s.processes proc.0 false t.processes) (sym h.after)
          (moved h.new.proc.0 (record (process s h.new.proc) { current = s.next_inc }) refl)

  leaves_to : (inc : Inc) (caller : Option Inc) (slot : ℕ) (c : Option Cap)
      → HaveEnded s.processes proc.0 (is_base caller) (leave_to (record s { incarnations = remove_entry (same_inc inc) s.incarnations }) proc caller slot c).processes
  leaves_to inc None slot c = changed (record (process s proc) { run = Ended })
  leaves_to inc (Some k) slot None = moved proc.0 (record (process s proc) { current = k }) refl
  leaves_to inc (Some k) slot (Some c) = moved proc.0 (record (process s proc) { current = k }) refl

  leaves : (inc : Inc) (give : Option Slot) → IfOk (leave s proc inc give) (Leaves (is_base (incarnation s inc).caller))
  unfolding leave
  leaves inc give = search (then_is, leaves_to)

  takes : (inc : Inc) (path : List ℕ) → IfOk (take_token s proc inc path) (Leaves false)
  unfolding take_token
  takes inc path =
      then_is (Leaves false) (target s inc path (is_of_type SEMAPHORE) MODIFY+A0) (λ c. Ok (elim (nat_lt 0 (object s c.name).count) [
        | true ↦ (Done, put_object s c.name (record (object s c.name) { count = (object s c.name).count - 1 }))
        | false ↦ (
          Waits,
          put_process (put_object s c.name (record (object s c.name) { waiters = (object s c.name).waiters ++ proc ∷ [] })) proc
              (record (process s proc) { run = Waiting c.name }),
        )
      ])) (λ c g. by c (nat_lt 0 (object s c.name).count))
    where
      by : (c : Cap) (b : Bool) → Leaves false (elim b as (λ x. Answer × State) [
        | true ↦ (Done, put_object s c.name (record (object s c.name) { count = (object s c.name).count - 1 }))
        | false ↦ (
          Waits,
          put_process (put_object s c.name (record (object s c.name) { waiters = (object s c.name).waiters ++ proc ∷ [] })) proc
              (record (process s proc) { run = Waiting c.name }),
        )
      ])
      by c true = kept
      by c false = changed (record (process s proc) { run = Waiting c.name })

  token_leaves : (name : Name) (waiters : List Proc) → (object s name).waiters ≡ waiters → IfOk (token_given s name (object s name) waiters) (Leaves false)
  token_leaves name [] e =
      and_is (Leaves false) (unless (nat_lt (object s name).count token_limit) (refused.Full full.Tokens))
      (Ok (Done, put_object s name (record (object s name) { count = (object s name).count + 1 })))
      (λ u g. kept)
  token_leaves name (first ∷ rest) e =
      let queue : IsQueue s.processes (Waiting name) (first ∷ rest) = subst (λ qs. IsQueue s.processes (Waiting name) qs) e (reg.waiting name) in
      moved first.0 (record (process s first) { run = Ready }) (sym (ap has_ended queue.0.0))

  gives : (inc : Inc) (path : List ℕ) → IfOk (give_token s inc path) (Leaves false)
  unfolding give_token
  gives inc path =
      then_is (Leaves false) (target s inc path (is_of_type SEMAPHORE) MODIFY+A1) (λ c. token_given s c.name (object s c.name) (object s c.name).waiters)
      (λ c g. token_leaves c.name (object s c.name).waiters refl)

  calm_leaves : (o : Outcome) → IfOk o (λ f. Calm s f.1) → IfOk o (Leaves false)
  calm_leaves (Ok f) h = rw h.processes kept
  calm_leaves (Err e) h = tt

  -- an answered call
  pub outcome_leaves : (inc : Inc) (c : Call) → IfOk (outcome s proc inc c) (Leaves (ends_by s inc c))
  outcome_leaves inc (call.Enter path args into) = enters inc path args into
  outcome_leaves inc (call.Leave give) = leaves inc give
  outcome_leaves inc (call.P of) = takes inc of
  outcome_leaves inc (call.V of) = gives inc of
  outcome_leaves inc call.Yield = changed (record (process s proc) { run = Ready })
  outcome_leaves inc c = calm_leaves (outcome s proc inc c) (outcome_calm s proc inc c)
