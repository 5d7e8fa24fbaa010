-- A history grows by the step of processor 0.
use Rattle.std.proofs.Common.{◌≡◌, ◌≢◌, ◌+◌, ◌-◌, ◌<◌, List, [], ◌∷◌, ◌++◌, Bool, true, false, Option, Some, None, refl, sym, ◌∙◌, ap, subst, arith, cond}
use Rattle.std.specs.Prelude.{All, IfNone, IfSome, nat_lt, option_map}
use Rattle.std.specs.Option.{unwrap_or}
use Rattle.std.proofs.lemmas.Bool.{ltb-true}
use Rattle.std.proofs.lemmas.List.Elements.{All-nil, All-push}
use Rattle.hk_model.specs.declared.names.Proc.{Proc}
use Rattle.hk_model.specs.declared.names.Cpu.{Cpu}
use Rattle.hk_model.specs.declared.lines.Line.{Line}
use Rattle.hk_model.specs.declared.lines.End.{End}
use Rattle.hk_model.specs.declared.frames.Todo.{Todo}
use Rattle.hk_model.specs.declared.frames.Todo.TheVariants as todo
use Rattle.hk_model.specs.WorldValue.{WorldValue}
use Rattle.hk_model.specs.State.{State}
use Rattle.hk_model.specs.Legal.{end_word}
use Rattle.hk_model.specs.Processors.{runner, may_step, dispatched_from}
use Rattle.hk_model.specs.Control.{Context, next}
use Rattle.hk_model.specs.Running.{Machine, AreSteps, AreStepsOf, after_lines, context_of, dispatch_event, event, event_of, line_of, moved, opened, state_after, step}
use Rattle.hk_model.proofs.Steps.{moved_holds}
use Rattle.hk_model.proofs.EventCounts.{events_each}
use Rattle.hk_top.specs.Runs.{first_processor, IsWholeRun}
use Rattle.hk_top.proofs.Ends.{ends}
use Rattle.hk_top.proofs.Scheduled.{GoesOn, Placed, each_goes, opening_placed}

-- a step that a processor has is a step of the events that may come, and its line is of the processor
record IsStep (m : Machine) (cpu : Cpu) (line : Line) : Type 0 where
  cpu_is : line.cpu ≡ cpu
  may : may_step m.state ≡ true

event_cpu : (w : WorldValue) (m : Machine) (cpu : Cpu) (proc : Proc) (t : Todo × Context) → (event w m cpu proc t).0.cpu ≡ cpu
event_cpu w m cpu proc (todo.Do c, context) = refl
event_cpu w m cpu proc (todo.Halt, context) = refl

-- the processor of the line that was found
abbrev cpu_in : Cpu → Option (Line × Machine) → Cpu
cpu_in cpu None = cpu
cpu_in cpu (Some found) = found.0.cpu

step_is : (w : WorldValue) (m : Machine) (cpu : Cpu) (line : Line) (after : Machine) → step w m cpu ≡ Some (line, after) → IsStep m cpu line
unfolding step
step_is w m cpu line after h = by (may_step m.state) (nat_lt cpu.0 16) refl h
  where
    cpu_is : (found : Option Proc) → event_of w m cpu found ≡ Some (line, after) → line.cpu ≡ cpu
    cpu_is (Some proc) g = sym (ap (cpu_in cpu) g) ∙ event_cpu w m cpu proc (next w (context_of m proc))
    cpu_is None g = by_ready m.state.ready g
      where
        by_ready : (ready : List Proc) → dispatch_event m cpu (dispatched_from m.state cpu ready) ≡ Some (line, after) → line.cpu ≡ cpu
        by_ready [] g = absurd (cc)
        by_ready (first ∷ rest) g = sym (ap (cpu_in cpu) g)

    by : (may low : Bool) → may_step m.state ≡ may → cond may (cond low (event_of w m cpu (runner m.state cpu)) None) None ≡ Some (line, after) → IsStep m cpu line
    by true true e g = record { cpu_is = cpu_is (runner m.state cpu) g; may = e }
    by true false e g = absurd (cc)
    by false low e g = absurd (cc)

-- one line more

after_one : (w : WorldValue) (m : Machine) (lines : List Line) (line : Line) → after_lines w m (lines ++ line ∷ []) ≡ moved w (after_lines w m lines) line.cpu
after_one w m [] line = refl
after_one w m (x ∷ lines) line = after_one w (moved w m x.cpu) lines line

steps_one : (w : WorldValue) (m : Machine) (lines : List Line) (line : Line) → AreSteps w m lines → line_of w (after_lines w m lines) line.cpu ≡ Some line
    → AreSteps w m (lines ++ line ∷ [])
steps_one w m [] line h e = (e, tt)
steps_one w m (x ∷ lines) line h e = (h.0, steps_one w (moved w m x.cpu) lines line h.1 e)

-- the lines of processor 0 alone, and the machine behind them
pub record IsHistory (w : WorldValue) (lines : List Line) (m : Machine) : Type 0 where
  pub steps : AreStepsOf w lines
  pub machine : after_lines w (opened w) lines ≡ m
  pub alone : All (λ (line : Line). line.cpu ≡ first_processor) lines
  pub placed : Placed m.state

opened_placed : (w : WorldValue) → Placed (opened w).state
unfolding opened
opened_placed w = opening_placed w

pub begins : (w : WorldValue) (lines : List Line) (m : Machine) → lines ≡ [] → m ≡ opened w → IsHistory w lines m
begins w lines m e f = rw (e, f) (record { steps = tt; machine = refl; alone = All-nil (λ (l : Line). l.cpu ≡ first_processor); placed = opened_placed w })

-- what the step of processor 0 does to a history
pub record Grows (w : WorldValue) (lines : List Line) (m : Machine) (line : Line) (after : Machine) : Type 0 where
  pub history : IsHistory w (lines ++ line ∷ []) after
  pub fewer : after.state.limit - after.state.events < m.state.limit - m.state.events

pub grows : (w : WorldValue) (lines : List Line) (m : Machine) (line : Line) (after : Machine) → IsHistory w lines m → step w m first_processor ≡ Some (line, after)
    → Grows w lines m line after
grows w lines m line after h e =
    let i = step_is w m first_processor line after e in
    let there : step w m line.cpu ≡ Some (line, after) = ap (step w m) i.cpu_is ∙ e in
    let tells : line_of w m line.cpu ≡ Some line = ap (λ (found : Option (Line × Machine)). option_map (λ f. f.0) found) there in
    let moves : moved w m line.cpu ≡ after = ap (λ (found : Option (Line × Machine)). unwrap_or (option_map (λ f. f.1) found) m) there in
    let goes : GoesOn m.state line after.state = subst (λ (x : Machine). GoesOn m.state line x.state) moves (moved_holds GoesOn each_goes w m line tells) in
    let event : after.state.events ≡ m.state.events + 1 = ap (λ (x : Machine). x.state.events) (sym moves) ∙ moved_holds (λ s l t. t.events ≡ s.events + 1)
    events_each w m line tells in
    let below : m.state.events < m.state.limit = ltb-true m.state.events m.state.limit i.may in
    record {
      history = record {
        steps = steps_one w (opened w) lines line h.steps (ap (λ (x : Machine). line_of w x line.cpu) h.machine ∙ tells);
        machine = after_one w (opened w) lines line ∙ ap (λ (x : Machine). moved w x line.cpu) h.machine ∙ moves;
        alone = All-push (λ (l : Line). l.cpu ≡ first_processor) lines line h.alone i.cpu_is;
        placed = goes.placed (ap (λ (c : Cpu). c.0) i.cpu_is) h.placed;
      };
      fewer = omega (arith, below, event, goes.limit);
    }

-- the same, of the step that was found
pub grows_by : (w : WorldValue) (lines : List Line) (m : Machine) (found : Option Line) (line : Line) (after : Machine) → IsHistory w lines m
    → IfSome found (λ line. step w m first_processor ≡ Some (line, after)) → found ≡ Some line → Grows w lines m line after
grows_by w lines m found line after h made is = let e = rw is at made in grows w lines m line after h e

-- the end of a history of processor 0
pub record IsLast (w : WorldValue) (lines : List Line) (s : State) (word : Option End) : Type 0 where
  pub state : s ≡ state_after w lines
  pub whole : (end : End) → word ≡ Some end → IsWholeRun w lines end
  pub there : word ≢ None

pub last : (w : WorldValue) (lines : List Line) (m : Machine) (found : Option Line) (after : Machine) (s : State) (word : Option End) → IsHistory w lines m
    → IfNone found ((step w m first_processor ≡ None) × (after ≡ m)) → found ≡ None
    → s ≡ after.state → word ≡ end_word s → IsLast w lines s word
last w lines m found after s word h none is at e =
    let n = rw is at none in
    let state : s ≡ m.state = at ∙ ap (λ (x : Machine). x.state) n.1 in
    let is_word : word ≡ end_word m.state = e ∙ ap end_word state in
    record {
      state = state ∙ sym (ap (λ (x : Machine). x.state) h.machine);
      whole = λ end g. record {
        legal = record { steps = h.steps; ends = ap (λ (x : Machine). end_word x.state) h.machine ∙ sym is_word ∙ g };
        alone = h.alone;
        last = ap (λ (x : Machine). step w x first_processor) h.machine ∙ n.0;
      };
      there = λ g. ends w m h.placed n.0 (sym is_word ∙ g);
    }
