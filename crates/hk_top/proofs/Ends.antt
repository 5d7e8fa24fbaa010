-- Where processor 0 has no step, the state has an end word.
use Rattle.std.proofs.Common.{◌≡◌, ◌≢◌, ℕ, ◌+◌, List, [], ◌∷◌, Bool, true, false, Option, Some, None, refl, subst, cond, inl, inr}
use Rattle.std.specs.Prelude.{◌⊎◌, ◌||◌, ◌&&◌, not}
use Rattle.std.specs.List.{list_all, list_any}
use Rattle.hk_model.specs.declared.names.Inc.{Inc}
use Rattle.hk_model.specs.declared.names.Proc.{Proc}
use Rattle.hk_model.specs.declared.lines.End.TheVariants as end
use Rattle.hk_model.specs.declared.objects.Process.{Process}
use Rattle.hk_model.specs.declared.objects.ProcessState.{ProcessState}
use Rattle.hk_model.specs.declared.objects.ProcessState.TheVariants.{Ready, Running, Waiting, Ended}
use Rattle.hk_model.specs.WorldValue.{WorldValue}
use Rattle.hk_model.specs.State.{State}
use Rattle.hk_model.specs.Processors.{runner, runner_from, is_ready, is_running, is_waiting, has_ended, may_step, dispatched_from}
use Rattle.hk_model.specs.Running.{Machine, event_of, dispatch_event, step}
use Rattle.hk_model.specs.Legal.{end_word}
use Rattle.hk_top.specs.Runs.{first_processor}
use Rattle.hk_top.proofs.Scheduled.{Placed, ArePlaced, IsPlaced}

-- none of the processes is ready or runs
abbrev pub AreStill : List Process → Type 0
AreStill ps = list_any (λ (p : Process). is_ready p.run || is_running p.run) ps ≡ false

-- of processes that are still all have ended, or some waits
pub settled : (ps : List Process) → AreStill ps → (list_all (λ (p : Process). has_ended p.run) ps ≡ true) ⊎ (list_any (λ (p : Process). is_waiting p.run) ps ≡ true)
settled [] h = inl refl
settled (p ∷ ps) h = by p.run (settled ps) h
  where
    by : (run : ProcessState) → (AreStill ps → (list_all (λ (p : Process). has_ended p.run) ps ≡ true) ⊎ (list_any (λ (p : Process). is_waiting p.run) ps ≡ true))
        → ((is_ready run || is_running run) || list_any (λ (p : Process). is_ready p.run || is_running p.run) ps) ≡ false
        → ((has_ended run && list_all (λ (p : Process). has_ended p.run) ps) ≡ true) ⊎ ((is_waiting run || list_any (λ (p : Process). is_waiting p.run) ps) ≡ true)
    by Ready rest h = absurd (cc)
    by (Running cpu) rest h = absurd (cc)
    by (Waiting at) rest h = inr refl
    by Ended rest h = rest h

-- a process before processes that are still
still_before : (n : ℕ) (run : ProcessState) (current : Inc) (ps : List Process) → IsPlaced [] n run
    → runner_from (record { run = run; current = current } ∷ ps) first_processor n ≡ None
    → (runner_from ps first_processor (n + 1) ≡ None → AreStill ps) → AreStill (record { run = run; current = current } ∷ ps)
still_before n Ready current ps h r rest = absurd h
still_before n (Running cpu) current ps h r rest = let g = rw h at r in absurd (cc)
still_before n (Waiting at) current ps h r rest = rest r
still_before n Ended current ps h r rest = rest r

-- processes in their places are still where none is ready and processor 0 runs none
still : (n : ℕ) (ps : List Process) → ArePlaced [] n ps → runner_from ps first_processor n ≡ None → AreStill ps
still n [] h r = refl
still n (p ∷ ps) h r = still_before n p.run p.current ps h.0 r (still (n + 1) ps h.1)

-- where processor 0 has no step
data HasNone (s : State) : Type 0 where
  at_limit : may_step s ≡ false → HasNone s
  idle : runner s first_processor ≡ None → s.ready ≡ [] → HasNone s

none_of : (w : WorldValue) (m : Machine) → step w m first_processor ≡ None → HasNone m.state
unfolding step
none_of w m h = by (may_step m.state) refl h
  where
    waits : (ready : List Proc) → m.state.ready ≡ ready → runner m.state first_processor ≡ None
        → dispatch_event m first_processor (dispatched_from m.state first_processor ready) ≡ None → HasNone m.state
    waits [] e r g = idle r e
    waits (first ∷ rest) e r g = absurd (cc)

    runs : (found : Option Proc) → runner m.state first_processor ≡ found → event_of w m first_processor found ≡ None → HasNone m.state
    runs (Some proc) e g = absurd (cc)
    runs None e g = waits m.state.ready refl e g

    by : (b : Bool) → may_step m.state ≡ b → cond b (event_of w m first_processor (runner m.state first_processor)) None ≡ None → HasNone m.state
    by true e g = runs (runner m.state first_processor) refl g
    by false e g = at_limit e

-- the choice of the end word, by its tests
word_by : (ended busy waits may : Bool) → ((busy ≡ false) × ((ended ≡ true) ⊎ (waits ≡ true))) ⊎ (may ≡ false)
    → cond ended (Some end.Done) (cond (not busy && waits) (Some end.Stuck) (cond (not may) (Some end.Limit) None)) ≢ None
word_by true busy waits may h e = absurd (cc)
word_by false busy waits false h e = by busy waits e
  where
    by : (busy waits : Bool) → cond (not busy && waits) (Some end.Stuck) (Some end.Limit) ≢ None
    by true waits e = absurd (cc)
    by false true e = absurd (cc)
    by false false e = absurd (cc)
word_by false true waits true (inl h) e = absurd (cc)
word_by false true waits true (inr h) e = absurd (cc)
word_by false false true true h e = absurd (cc)
word_by false false false true (inl (h, inl g)) e = absurd (cc)
word_by false false false true (inl (h, inr g)) e = absurd (cc)
word_by false false false true (inr h) e = absurd (cc)

-- where no process is ready or runs, or the limit is reached, the state has an end word
pub word_there : (s : State) → AreStill s.processes ⊎ (may_step s ≡ false) → end_word s ≢ None
word_there s (inl h) =
    word_by (list_all (λ (p : Process). has_ended p.run) s.processes) (list_any (λ (p : Process). is_ready p.run || is_running p.run) s.processes)
    (list_any (λ (p : Process). is_waiting p.run) s.processes) (may_step s) (inl (h, settled s.processes h))
word_there s (inr h) =
    word_by (list_all (λ (p : Process). has_ended p.run) s.processes) (list_any (λ (p : Process). is_ready p.run || is_running p.run) s.processes)
    (list_any (λ (p : Process). is_waiting p.run) s.processes) (may_step s) (inr h)

-- the end word of a state in whose places processor 0 has no step
pub ends : (w : WorldValue) (m : Machine) → Placed m.state → step w m first_processor ≡ None → end_word m.state ≢ None
ends w m p h = by (none_of w m h)
  where
    by : HasNone m.state → end_word m.state ≢ None
    by (at_limit e) = word_there m.state (inr e)
    by (idle r e) = word_there m.state (inl (still 0 m.state.processes (subst (λ ready. ArePlaced ready 0 m.state.processes) e p) r))
