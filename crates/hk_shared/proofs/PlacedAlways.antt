-- After every history no two processes run on one processor, and the ready processes stand in the ready list.
use Rattle.std.specs.Prelude.{◌≡◌, ℕ, zero, suc, ◌+◌, List, [], ◌∷◌, Bool, true, false, Option, Some, None, nat_lt, option_map, refl, if◌then◌else◌}
use Rattle.std.specs.Option.{unwrap_or}
use Rattle.std.proofs.Common.{arith, subst}
use mathlib.Core.Logic.{inl, inr}
use Rattle.hk_model.specs.declared.names.Proc.{Proc}
use Rattle.hk_model.specs.declared.names.Cpu.{Cpu}
use Rattle.hk_model.specs.declared.lines.Line.{Line}
use Rattle.hk_model.specs.declared.objects.ProcessState.TheVariants.{Ready}
use Rattle.hk_model.specs.declared.frames.Todo.{Todo}
use Rattle.hk_model.specs.declared.frames.Todo.TheVariants.{Do, Halt}
use Rattle.hk_model.specs.declared.world.Task.{Task}
use Rattle.hk_model.specs.Limits.{cpu_limit}
use Rattle.hk_model.specs.WorldValue.{WorldValue, IsWorld}
use Rattle.hk_model.specs.State.{State}
use Rattle.hk_model.specs.Control.{Context, next}
use Rattle.hk_model.specs.Opening.{opening, all_ready, proc_numbers}
use Rattle.hk_model.specs.Rule.{rule}
use Rattle.hk_model.specs.Processors.{is_on, runner, may_step, dispatched_from, halted}
use Rattle.hk_model.specs.Running.{Machine, context_of, event, event_of, dispatch_event, step, moved, opened, after_lines, state_after}
use Rattle.hk_program.specs.Machines.{IsSound}
use Rattle.hk_program.proofs.Queues.{run_at, IsQueue}
use Rattle.hk_program.proofs.Regular.{Regular}
use Rattle.hk_program.proofs.Machines.{sound_kept, moved_sound, opened_sound}
use Rattle.hk_shared.proofs.Moves.{call_moves, halt_moves}
use Rattle.hk_shared.proofs.Placed.{AreApart, AreListed, Stands, moves_apart, moves_listed, dispatch_apart, dispatch_listed}

pub record IsPlaced (s : State) : Type 0 where
  pub apart : AreApart s.processes
  pub listed : AreListed s

-- who is first in the ready list is ready
pub first_ready : (w : WorldValue) (s : State) (first : Proc) (rest : List Proc) → Regular w s → s.ready ≡ first ∷ rest → run_at s.processes first.0 ≡ Ready
first_ready w s first rest reg e =
    let queue : IsQueue s.processes Ready (first ∷ rest) = subst (λ qs. IsQueue s.processes Ready qs) e reg.ready in queue.0.0

module _ (w : WorldValue) (m : Machine) (cpu : Cpu) (reg : Regular w m.state) (placed : IsPlaced m.state) where
  abbrev after_step : Option (Line × Machine) → Machine
  after_step found = unwrap_or (option_map (λ f. f.1) found) m

  of_process : (proc : Proc) (todo : Todo × Context) → IsPlaced (event w m cpu proc todo).1.state
  of_process proc (Do c, frames) =
      let t = (rule m.state proc c).1 in
      let moves = call_moves w m.state reg proc c in
      record { apart = moves_apart m.state proc t moves placed.apart; listed = moves_listed m.state proc t moves placed.listed }
  of_process proc (Halt, frames) =
      let t = halted m.state proc in
      let moves = halt_moves m.state proc in
      record { apart = moves_apart m.state proc t moves placed.apart; listed = moves_listed m.state proc t moves placed.listed }

  of_ready : (ready : List Proc) → runner m.state cpu ≡ None → m.state.ready ≡ ready → IsPlaced (after_step (dispatch_event m cpu (dispatched_from m.state cpu ready))).state
  of_ready [] idle e = placed
  of_ready (first ∷ rest) idle e = record {
    apart = dispatch_apart m.state cpu first rest idle placed.apart;
    listed = dispatch_listed m.state cpu first rest e (first_ready w m.state first rest reg e) placed.listed;
  }

  of_runner : (found : Option Proc) → runner m.state cpu ≡ found → IsPlaced (after_step (event_of w m cpu found)).state
  of_runner (Some proc) e = of_process proc (next w (context_of m proc))
  of_runner None e = of_ready m.state.ready e refl

  of_tests : (a b : Bool) → IsPlaced (after_step (if a then (if b then event_of w m cpu (runner m.state cpu) else None) else None)).state
  of_tests false b = placed
  of_tests true false = placed
  of_tests true true = of_runner (runner m.state cpu) refl

  moved_placed : IsPlaced (moved w m cpu).state
  unfolding step
  moved_placed = of_tests (may_step m.state) (nat_lt cpu.0 cpu_limit)

from_placed : (w : WorldValue) (m : Machine) (lines : List Line) → IsSound w m → IsPlaced m.state → IsPlaced (after_lines w m lines).state
from_placed w m [] sound h = h
from_placed w m (line ∷ lines) sound h =
    from_placed w (moved w m line.cpu) lines (moved_sound w m line.cpu sound) (moved_placed w m line.cpu (sound_kept w m sound).regular h)

-- ---- the opening

pub none_on : (n : ℕ) (ts : List Task) (i : ℕ) (cpu : Cpu) → is_on cpu (run_at (all_ready n ts) i) ≡ true → ⊥
none_on n [] i cpu h = absurd (cc)
none_on n (t ∷ ts) zero cpu h = absurd (cc)
none_on n (t ∷ ts) (suc i) cpu h = none_on (n + 1) ts i cpu h

all_listed : (n : ℕ) (ts : List Task) (i : ℕ) → run_at (all_ready n ts) i ≡ Ready → Stands (n + i) (proc_numbers n ts)
all_listed n [] i h = absurd (cc)
all_listed n (t ∷ ts) zero h = inl (omega arith)
all_listed n (t ∷ ts) (suc i) h = let same : n + 1 + i ≡ n + suc i = omega arith in inr (subst (λ (k : ℕ). Stands k (proc_numbers (n + 1) ts)) same (all_listed (n + 1) ts i h))

opened_placed : (w : WorldValue) → IsPlaced (opened w).state
unfolding opened opening
opened_placed w = record {
  apart = λ i j cpu f g. absurd (none_on 0 w.tasks i cpu f);
  listed = λ n h. let same : 0 + n ≡ n = omega arith in subst (λ (k : ℕ). Stands k (proc_numbers 0 w.tasks)) same (all_listed 0 w.tasks n h);
}

pub placed_after : (w : WorldValue) (lines : List Line) → IsWorld w → IsPlaced (state_after w lines)
placed_after w lines world = from_placed w (opened w) lines (opened_sound w world) (opened_placed w)
