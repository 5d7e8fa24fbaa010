-- Each line is one event, and so the events number the lines.
use Rattle.std.proofs.Common.{◌≡◌, ◌+◌, List, [], ◌∷◌, length, Ok, Err, refl, arith}
use Rattle.hk_model.specs.declared.lines.Line.{Line}
use Rattle.hk_model.specs.WorldValue.{WorldValue}
use Rattle.hk_model.specs.State.{State, process}
use Rattle.hk_model.specs.Opening.{opening}
use Rattle.hk_model.specs.Rule.{Outcome, outcome, settled}
use Rattle.hk_model.specs.Running.{Machine, opened, moved, after_lines, AreSteps, AreStepsOf, state_after}
use Rattle.hk_model.proofs.Steps.{EachStep, moved_holds}

-- a call is one event, refused or not
pub settled_event : (s : State) (o : Outcome) → (settled s o).1.events ≡ s.events + 1
settled_event s (Ok f) = refl
settled_event s (Err e) = refl

pub events_each : EachStep (λ s line t. t.events ≡ s.events + 1)
events_each = record {
  calls = λ s cpu proc c r. settled_event s (outcome s proc (process s proc).current c);
  halts = λ s cpu proc r. refl;
  dispatches = λ s cpu first rest r. refl;
}

-- one line more
pub events_next : (w : WorldValue) (m : Machine) (line : Line) (lines : List Line) → AreSteps w m (line ∷ lines) → (moved w m line.cpu).state.events ≡ m.state.events + 1
events_next w m line lines h = moved_holds (λ s l t. t.events ≡ s.events + 1) events_each w m line h.0

pub events_from : (w : WorldValue) (m : Machine) (lines : List Line) → AreSteps w m lines → (after_lines w m lines).state.events ≡ m.state.events + length lines
events_from w m [] h = omega arith
events_from w m (line ∷ lines) h =
    let one = events_next w m line lines h in
    let rest = events_from w (moved w m line.cpu) lines h.1 in
    omega (arith, one, rest)

pub opened_events : (w : WorldValue) → (opened w).state.events ≡ 0
unfolding opened opening
opened_events w = refl

-- the events number the lines
pub events_are : (w : WorldValue) (lines : List Line) → AreStepsOf w lines → (state_after w lines).events ≡ length lines
events_are w lines h = let a = events_from w (opened w) lines h in let b = opened_events w in omega (arith, a, b)
