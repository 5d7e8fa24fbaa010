-- A law of each kind of event is a law of the step of a processor.
use Rattle.std.specs.Prelude.{◌≡◌, ℕ, ◌≤◌, List, [], ◌∷◌, Bool, true, false, Option, Some, None, IfSome, nat_lt, option_map, refl, if◌then◌else◌}
use Rattle.std.specs.Option.{unwrap_or}
use Rattle.std.proofs.Common.{arith}
use Rattle.std.proofs.lemmas.Bool.Decides.{nat_tests}
use Rattle.hk_model.specs.declared.names.Proc.{Proc}
use Rattle.hk_model.specs.declared.names.Cpu.{Cpu}
use Rattle.hk_model.specs.declared.calls.Call.{Call}
use Rattle.hk_model.specs.declared.calls.Reply.TheVariants.{Done}
use Rattle.hk_model.specs.declared.lines.What.TheVariants as what
use Rattle.hk_model.specs.declared.lines.Line.{Line}
use Rattle.hk_model.specs.declared.frames.Todo.{Todo}
use Rattle.hk_model.specs.declared.frames.Todo.TheVariants.{Do, Halt}
use Rattle.hk_model.specs.Limits.{cpu_limit}
use Rattle.hk_model.specs.WorldValue.{WorldValue}
use Rattle.hk_model.specs.Processors.{runner, may_step, dispatched_from}
use Rattle.hk_model.specs.Control.{Context, next}
use Rattle.hk_model.specs.Running.{Machine, context_of, event, event_of, dispatch_event, step, moved}
use Rattle.hk_model.proofs.Steps.{proc_line, given_to}

-- what is to hold of a step, by the kinds of events
pub record ByEvent (w : WorldValue) (m : Machine) (cpu : Cpu) (Q : Option (Line × Machine) → Type 0) : Type 0 where
  pub none : Q None
  pub calls : (proc : Proc) (c : Call) (frames : Context) → may_step m.state ≡ true → runner m.state cpu ≡ Some proc → next w (context_of m proc) ≡ (Do c, frames)
      → Q (Some (event w m cpu proc (Do c, frames)))
  pub halts : (proc : Proc) (frames : Context) → may_step m.state ≡ true → runner m.state cpu ≡ Some proc → next w (context_of m proc) ≡ (Halt, frames)
      → Q (Some (event w m cpu proc (Halt, frames)))
  pub dispatches : (first : Proc) (rest : List Proc) → may_step m.state ≡ true → m.state.ready ≡ first ∷ rest
      → Q (Some (proc_line m.state cpu first what.Dispatch Done, record m { state = given_to m.state cpu first rest }))

module _ (w : WorldValue) (m : Machine) (cpu : Cpu) (Q : Option (Line × Machine) → Type 0) (each : ByEvent w m cpu Q) where
  of_process : (proc : Proc) (todo : Todo × Context) → may_step m.state ≡ true → runner m.state cpu ≡ Some proc → next w (context_of m proc) ≡ todo
      → Q (Some (event w m cpu proc todo))
  of_process proc (Do c, frames) may r e = each.calls proc c frames may r e
  of_process proc (Halt, frames) may r e = each.halts proc frames may r e

  of_ready : (ready : List Proc) → may_step m.state ≡ true → m.state.ready ≡ ready → Q (dispatch_event m cpu (dispatched_from m.state cpu ready))
  of_ready [] may e = each.none
  of_ready (first ∷ rest) may e = each.dispatches first rest may e

  of_runner : (found : Option Proc) → may_step m.state ≡ true → runner m.state cpu ≡ found → Q (event_of w m cpu found)
  of_runner (Some proc) may e = of_process proc (next w (context_of m proc)) may e refl
  of_runner None may e = of_ready m.state.ready may refl

  of_test : (b : Bool) → may_step m.state ≡ b → Q (if b then (if nat_lt cpu.0 cpu_limit then event_of w m cpu (runner m.state cpu) else None) else None)
  of_test false e = each.none
  of_test true e = of_cpu (nat_lt cpu.0 cpu_limit)
    where
      of_cpu : (b : Bool) → Q (if b then event_of w m cpu (runner m.state cpu) else None)
      of_cpu true = of_runner (runner m.state cpu) e refl
      of_cpu false = each.none

  -- it holds of the step
  pub step_by : Q (step w m cpu)
  unfolding step
  step_by = of_test (may_step m.state) refl

-- what holds of the machine after each event, and of the machine as it is, holds after a step
pub moved_by : (w : WorldValue) (m : Machine) (cpu : Cpu) (P : Machine → Type 0) → P m → ByEvent w m cpu (λ found. IfSome found (λ f. P f.1)) → P (moved w m cpu)
moved_by w m cpu P same each = by (step w m cpu) (step_by w m cpu (λ found. IfSome found (λ f. P f.1)) each)
  where
    by : (found : Option (Line × Machine)) → IfSome found (λ f. P f.1) → P (unwrap_or (option_map (λ f. f.1) found) m)
    by None h = same
    by (Some f) h = h

-- ---- the step by what is known of its processor

module _ (w : WorldValue) (m : Machine) (cpu : Cpu) (may : may_step m.state ≡ true) (low : nat_lt cpu.0 cpu_limit ≡ true) where
  pub step_is : step w m cpu ≡ event_of w m cpu (runner m.state cpu)
  unfolding step
  step_is = rw (may, low) refl

pub no_step : (w : WorldValue) (m : Machine) (cpu : Cpu) → may_step m.state ≡ false → step w m cpu ≡ None
unfolding step
no_step w m cpu h = rw h refl

pub no_processor : (w : WorldValue) (m : Machine) (cpu : Cpu) → 16 ≤ cpu.0 → step w m cpu ≡ None
unfolding step
no_processor w m cpu h = rw (high cpu.0 h) (by (may_step m.state))
  where
    high : (n : ℕ) → 16 ≤ n → nat_lt n cpu_limit ≡ false
    high n h = grind (arith, nat_tests, h)

    by : (b : Bool) → ◌≡◌ {A = Option (Line × Machine)} (if b then None else None) None
    by true = refl
    by false = refl
