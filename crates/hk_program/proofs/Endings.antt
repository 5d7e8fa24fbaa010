-- What the processes do, by what a snapshot shows of them, and by the contexts of a machine.
use Rattle.std.specs.Prelude.{◌≡◌, ℕ, suc, Some, None, if◌then◌else◌, List, [], ◌∷◌, length, Bool, true, false, not, ◌||◌, ◌&&◌, map, is_none, slice_get, refl}
use Rattle.std.specs.Option.{unwrap_or}
use Rattle.std.proofs.Common.{arith, sym, ◌∙◌}
use Rattle.std.proofs.lemmas.Bool.{true≢false}
use Rattle.std.specs.List.{list_all, list_any}
use Rattle.hk_model.specs.declared.objects.Process.{Process}
use Rattle.hk_model.specs.declared.objects.ProcessState.{ProcessState}
use Rattle.hk_model.specs.declared.objects.ProcessState.TheVariants.{Ready, Running, Waiting, Ended}
use Rattle.hk_model.specs.declared.lines.End.TheVariants as end
use Rattle.hk_model.specs.Legal.{end_word}
use Rattle.hk_model.specs.State.{State}
use Rattle.hk_model.specs.Processors.{is_ready, is_running, is_waiting, has_ended, is_over, may_step}
use Rattle.hk_model.specs.Control.{Context}
use Rattle.hk_model.specs.Running.{Machine}
use Rattle.hk_model.specs.WorldValue.{WorldValue}
use Rattle.hk_program.specs.Contexts.{has_no_frame}
use Rattle.hk_program.specs.Machines.{IsSound}
use Rattle.hk_program.proofs.Queues.{run_at}
use Rattle.hk_program.proofs.Machines.{sound_kept}
use Rattle.hk_program.proofs.EndedFrames.{sound_ended}

pub all_runs : (test : ProcessState → Bool) (ps : List Process) → list_all test (map (λ (p : Process). p.run) ps) ≡ list_all (λ (p : Process). test p.run) ps
all_runs test [] = refl
all_runs test (p ∷ ps) = rw (all_runs test ps) refl

pub any_run : (test : ProcessState → Bool) (ps : List Process) → list_any test (map (λ (p : Process). p.run) ps) ≡ list_any (λ (p : Process). test p.run) ps
any_run test [] = refl
any_run test (p ∷ ps) = rw (any_run test ps) refl

-- where one process is ready or runs, not all have ended
pub one_lives : (ps : List Process) → list_any (λ (p : Process). is_ready p.run || is_running p.run) ps ≡ true → list_all (λ (p : Process). has_ended p.run) ps ≡ false
one_lives [] h = sym h
one_lives (p ∷ ps) h = by p.run refl h (one_lives ps)
  where
    Lives : Bool
    Lives = list_any (λ (q : Process). is_ready q.run || is_running q.run) ps

    by : (run : ProcessState) → p.run ≡ run → (is_ready run || is_running run) || Lives ≡ true → (Lives ≡ true → list_all (λ (q : Process). has_ended q.run) ps ≡ false)
        → list_all (λ (q : Process). has_ended q.run) (p ∷ ps) ≡ false
    by Ready e g rest = rw e refl
    by (Running cpu) e g rest = rw e refl
    by (Waiting at) e g rest = rw e refl
    by Ended e g rest = rw (e, rest g) refl

pub not_over : (s : State) → is_over s ≡ false → list_all (λ (p : Process). has_ended p.run) s.processes ≡ false
not_over s h = one_lives s.processes (by (list_any (λ (p : Process). is_ready p.run || is_running p.run) s.processes) h)
  where
    by : (b : Bool) → not b ≡ false → b ≡ true
    by true e = refl
    by false e = sym e

-- where none is ready or runs, some process waits exactly where not all have ended
pub over_waits : (ps : List Process) → list_any (λ (p : Process). is_ready p.run || is_running p.run) ps ≡ false
    → list_any (λ (p : Process). is_waiting p.run) ps ≡ not (list_all (λ (p : Process). has_ended p.run) ps)
over_waits [] h = refl
over_waits (p ∷ ps) h = by p.run h (over_waits ps)
  where
    Lives : Bool
    Lives = list_any (λ (q : Process). is_ready q.run || is_running q.run) ps

    by : (run : ProcessState) → (is_ready run || is_running run) || Lives ≡ false
        → (Lives ≡ false → list_any (λ (q : Process). is_waiting q.run) ps ≡ not (list_all (λ (q : Process). has_ended q.run) ps))
        → is_waiting run || list_any (λ (q : Process). is_waiting q.run) ps ≡ not (has_ended run && list_all (λ (q : Process). has_ended q.run) ps)
    by Ready g rest = absurd (true≢false g)
    by (Running cpu) g rest = absurd (true≢false g)
    by (Waiting at) g rest = refl
    by Ended g rest = rest g

-- all have ended exactly where no context has a frame, if so it is with each
pub ended_all : (ps : List Process) (contexts : List Context) → length contexts ≡ length ps
    → ((q : ℕ) → has_ended (run_at ps q) ≡ has_no_frame (unwrap_or (slice_get contexts q) [])) → list_all (λ (p : Process). has_ended p.run) ps ≡ list_all has_no_frame contexts
ended_all [] [] same each = refl
ended_all [] (x ∷ contexts) same each = absurd (omega (arith, same))
ended_all (p ∷ ps) [] same each = absurd (omega (arith, same))
ended_all (p ∷ ps) (x ∷ contexts) same each =
    let first = each 0 in
    let rest = ended_all ps contexts (omega (arith, same)) (λ q. each (suc q)) in
    rw (first, rest) refl

pub machine_ended : (w : WorldValue) (m : Machine) → IsSound w m → list_all (λ (p : Process). has_ended p.run) m.state.processes ≡ list_all has_no_frame m.contexts
machine_ended w m sound = ended_all m.state.processes m.contexts (sound_kept w m sound).count (sound_ended w m sound)

pub no_first : (x : Context) → is_none (slice_get x 0) ≡ has_no_frame x
no_first [] = refl
no_first (f ∷ x) = refl

pub not_going : (s : State) → is_over s ≡ true → list_any (λ (p : Process). is_ready p.run || is_running p.run) s.processes ≡ false
not_going s h = by (list_any (λ (p : Process). is_ready p.run || is_running p.run) s.processes) h
  where
    by : (b : Bool) → not b ≡ true → b ≡ false
    by true e = sym e
    by false e = refl

-- the end word where none is ready or runs, by whether no context has a frame
pub over_word : (w : WorldValue) (m : Machine) → IsSound w m → is_over m.state ≡ true → (full done : Bool) → full ≡ not (may_step m.state) → done ≡ list_all has_no_frame m.contexts
    → (if done then Some end.Done else (if not done then Some end.Stuck else (if full then Some end.Limit else None))) ≡ end_word m.state
over_word w m sound over full done f d =
    let ended = d ∙ sym (machine_ended w m sound) in
    let waits = over_waits m.state.processes (not_going m.state over) in
    rw (ended, f, over, waits) refl

-- and where some process is ready or runs
pub going_word : (s : State) → is_over s ≡ false → (full : Bool) → full ≡ not (may_step s) → (if full then Some end.Limit else None) ≡ end_word s
going_word s over full f = rw (f, over, not_over s over) refl
