-- Laws of the machines of a world, for those who make its steps.
use Rattle.std.specs.Prelude.{◌≡◌, ℕ, zero, suc, ◌+◌, ◌<◌, ◌≤◌, List, [], ◌∷◌, ◌++◌, length, true, Option, Some, None, IfSome, slice_get, slice_set, option_map, refl}
use Rattle.std.specs.Option.{unwrap_or}
use Rattle.std.proofs.Common.{arith, ap, sym, ◌∙◌, subst}
use Rattle.std.proofs.lemmas.Bool.{true≢false}
use Rattle.std.proofs.lemmas.Bool.Decides.{nat_tests}
use Rattle.hk_model.specs.declared.names.Proc.{Proc}
use Rattle.hk_model.specs.declared.names.Cpu.{Cpu}
use Rattle.hk_model.specs.declared.calls.Call.{Call}
use Rattle.hk_model.specs.declared.calls.Reply.{Reply}
use Rattle.hk_model.specs.declared.lines.Line.{Line}
use Rattle.hk_model.specs.Limits.{depth_limit}
use Rattle.hk_model.specs.WorldValue.{WorldValue, IsWorld}
use Rattle.hk_model.specs.State.{State, process}
use Rattle.hk_model.specs.Rule.{rule, depth}
use Rattle.hk_model.specs.Processors.{is_on, runner, may_step, halted, entered_code}
use Rattle.hk_model.specs.Control.{Context}
use Rattle.hk_model.specs.Running.{Machine, context_of, step, line_of, moved, after_lines, opened, AreSteps, AreStepsOf, state_after}
use Rattle.hk_model.proofs.Steps.{given_to}
use Rattle.hk_model.proofs.EventCounts.{events_each, opened_events, events_are}
use Rattle.hk_program.specs.Contexts.{AreFrames}
use Rattle.hk_program.specs.Machines.{IsSound}
use Rattle.hk_program.proofs.Queues.{run_at, runs_on, on_one}
use Rattle.hk_program.proofs.Regular.{goes_each}
use Rattle.hk_program.proofs.Kept.{Kept, moved_kept, context_fits, entered_is_code, entered_room}
use Rattle.hk_program.proofs.Opened.{opened_kept}
use Rattle.hk_program.proofs.StepCases.{step_by, moved_by}

-- ---- histories that grow at their end

-- the line of a processor's step is that processor's
pub step_cpu : (w : WorldValue) (m : Machine) (cpu : Cpu) → IfSome (step w m cpu) (λ f. f.0.cpu ≡ cpu)
step_cpu w m cpu = step_by w m cpu (λ found. IfSome found (λ f. f.0.cpu ≡ cpu)) (record {
  none = tt;
  calls = λ proc c frames may r e. refl;
  halts = λ proc frames may r e. refl;
  dispatches = λ first rest may e. refl;
})

-- the machine after these lines and one more
pub after_snoc : (w : WorldValue) (m : Machine) (lines : List Line) (line : Line) → after_lines w m (lines ++ line ∷ []) ≡ moved w (after_lines w m lines) line.cpu
after_snoc w m [] line = refl
after_snoc w m (x ∷ lines) line = after_snoc w (moved w m x.cpu) lines line

steps_more : (w : WorldValue) (m : Machine) (lines : List Line) (line : Line) → AreSteps w m lines → line_of w (after_lines w m lines) line.cpu ≡ Some line
    → AreSteps w m (lines ++ line ∷ [])
steps_more w m [] line h e = (e, tt)
steps_more w m (x ∷ lines) line h e = (h.0, steps_more w (moved w m x.cpu) lines line h.1 e)

-- one step more: the history and its machine
pub record IsLonger (w : WorldValue) (lines : List Line) (line : Line) (new : Machine) : Type 0 where
  pub steps : AreStepsOf w (lines ++ line ∷ [])
  pub is : new ≡ after_lines w (opened w) (lines ++ line ∷ [])

pub steps_snoc : (w : WorldValue) (lines : List Line) (m : Machine) (cpu : Cpu) (line : Line) (new : Machine) → AreStepsOf w lines → m ≡ after_lines w (opened w) lines
    → step w m cpu ≡ Some (line, new) → IsLonger w lines line new
steps_snoc w lines m cpu line new h is e = record {
  steps = steps_more w (opened w) lines line h (subst (λ (k : Machine). line_of w k line.cpu ≡ Some line) is there);
  is = sym goes ∙ ap (λ (k : Machine). moved w k line.cpu) is ∙ sym (after_snoc w (opened w) lines line);
}
  where
    same : line.cpu ≡ cpu
    same = subst (λ found. IfSome found (λ f. f.0.cpu ≡ cpu)) e (step_cpu w m cpu)

    there : line_of w m line.cpu ≡ Some line
    there = subst (λ (c : Cpu). line_of w m c ≡ Some line) (sym same) (ap (λ (found : Option (Line × Machine)). option_map (λ f. f.0) found) e)

    goes : moved w m line.cpu ≡ new
    goes = subst (λ (c : Cpu). moved w m c ≡ new) (sym same) (ap (λ (found : Option (Line × Machine)). unwrap_or (option_map (λ f. f.1) found) m) e)

-- ---- sound machines

pub opened_sound : (w : WorldValue) → IsWorld w → IsSound w (opened w)
opened_sound w world = record { world = world; lines = []; steps = tt; is = refl }

pub sound_after : (w : WorldValue) (lines : List Line) → AreStepsOf w lines → IsWorld w → IsSound w (after_lines w (opened w) lines)
sound_after w lines h world = record { world = world; lines = lines; steps = h; is = refl }

pub step_sound : (w : WorldValue) (m : Machine) (cpu : Cpu) (line : Line) (new : Machine) → IsSound w m → step w m cpu ≡ Some (line, new) → IsSound w new
step_sound w m cpu line new h e =
    let longer = steps_snoc w h.lines m cpu line new h.steps h.is e in
    record { world = h.world; lines = h.lines ++ line ∷ []; steps = longer.steps; is = longer.is }

pub moved_sound : (w : WorldValue) (m : Machine) (cpu : Cpu) → IsSound w m → IsSound w (moved w m cpu)
moved_sound w m cpu h = by (step w m cpu) refl
  where
    by : (found : Option (Line × Machine)) → step w m cpu ≡ found → IsSound w (unwrap_or (option_map (λ f. f.1) found) m)
    by None e = h
    by (Some f) e = step_sound w m cpu f.0 f.1 h e

after_kept : (w : WorldValue) (m : Machine) (lines : List Line) → IsWorld w → Kept w m → Kept w (after_lines w m lines)
after_kept w m [] world h = h
after_kept w m (line ∷ lines) world h = after_kept w (moved w m line.cpu) lines world (moved_kept w m line.cpu world h)

-- a sound machine has what every machine of the world keeps
pub sound_kept : (w : WorldValue) (m : Machine) → IsSound w m → Kept w m
sound_kept w m h = subst (Kept w) (sym h.is) (after_kept w (opened w) h.lines h.world (opened_kept w h.world))

-- the context of a process has frames of the world
pub sound_frames : (w : WorldValue) (m : Machine) (proc : Proc) → IsSound w m → AreFrames w (context_of m proc)
sound_frames w m proc h = (context_fits w m proc (sound_kept w m h)).0

-- the code of an entered procedure is one of the world
pub sound_code : (w : WorldValue) (m : Machine) (proc : Proc) (c : Call) (reply : Reply) → IsSound w m
    → IfSome (entered_code m.state (process m.state proc).current c reply) (λ code. code < length w.codes)
sound_code w m proc c reply h = entered_is_code w m.state (process m.state proc).current c reply (sound_kept w m h).regular

-- and there is room for its frame
pub sound_room : (w : WorldValue) (m : Machine) (proc : Proc) (c : Call) → IsSound w m
    → IfSome (entered_code m.state (process m.state proc).current c (rule m.state proc c).0) (λ code. length (context_of m proc) < 64)
sound_room w m proc c h = by (entered_code m.state (process m.state proc).current c (rule m.state proc c).0) (entered_room m.state proc c)
  where
    by : (o : Option ℕ) → IfSome o (λ code. depth m.state proc < depth_limit) → IfSome o (λ code. length (context_of m proc) < 64)
    by None g = tt
    by (Some code) g = let a = (context_fits w m proc (sound_kept w m h)).1 in omega (arith, a, g)

-- ---- events

-- where a step is made the lines before it are fewer than the limit, which is the world's
pub lines_few : (w : WorldValue) (lines : List Line) → IsWorld w → AreStepsOf w lines → may_step (state_after w lines) ≡ true → length lines < w.limit
lines_few w lines world h may =
    let kept = sound_kept w (after_lines w (opened w) lines) (sound_after w lines h world) in
    let limit = kept.regular.limit in
    let events = events_are w lines h in
    grind (arith, nat_tests, may, limit, events)

-- the events never pass the limit
events_kept : (w : WorldValue) (m : Machine) (cpu : Cpu) → Kept w m → m.state.events ≤ w.limit → (moved w m cpu).state.events ≤ w.limit
events_kept w m cpu h few = moved_by w m cpu (λ k. k.state.events ≤ w.limit) few (record {
  none = tt;
  calls = λ proc c frames may r e. more (rule m.state proc c).1 may (events_each.calls m.state cpu proc c r);
  halts = λ proc frames may r e. more (halted m.state proc) may (events_each.halts m.state cpu proc r);
  dispatches = λ first rest may e. more (given_to m.state cpu first rest) may (events_each.dispatches m.state cpu first rest e);
})
  where
    more : (t : State) → may_step m.state ≡ true → t.events ≡ m.state.events + 1 → t.events ≤ w.limit
    more t may e = let limit = h.regular.limit in grind (arith, nat_tests, may, e, limit)

events_within : (w : WorldValue) (m : Machine) (lines : List Line) → IsWorld w → Kept w m → m.state.events ≤ w.limit → (after_lines w m lines).state.events ≤ w.limit
events_within w m [] world h few = few
events_within w m (line ∷ lines) world h few = events_within w (moved w m line.cpu) lines world (moved_kept w m line.cpu world h) (events_kept w m line.cpu h few)

-- a history has no more lines than the world has events
pub lines_within : (w : WorldValue) (lines : List Line) → IsWorld w → AreStepsOf w lines → length lines ≤ w.limit
lines_within w lines world h =
    let zero = opened_events w in
    let a = events_within w (opened w) lines world (opened_kept w world) (omega (arith, zero)) in
    let b = events_are w lines h in
    omega (arith, a, b)

-- ---- other processors

pub other_runs : (w : WorldValue) (m : Machine) (cpu other : Cpu) → IsSound w m → (cpu.0 ≡ other.0 → ⊥) → runner (moved w m other).state cpu ≡ runner m.state cpu
other_runs w m cpu other h apart =
    let reg = (sound_kept w m h).regular in
    moved_by w m other (λ k. runner k.state cpu ≡ runner m.state cpu) refl (record {
      none = tt;
      calls = λ proc c frames may r e. ((goes_each w).calls m.state other proc c r reg).others cpu (λ g. apart (sym g));
      halts = λ proc frames may r e. ((goes_each w).halts m.state other proc r reg).others cpu (λ g. apart (sym g));
      dispatches = λ first rest may e. ((goes_each w).dispatches m.state other first rest e reg).others cpu (λ g. apart (sym g));
    })

context_there : (xs : List Context) (p q : ℕ) (new : Context) → (q ≡ p → ⊥) → slice_get (slice_set xs p new) q ≡ slice_get xs q
context_there [] p q new h = refl
context_there (x ∷ xs) zero zero new h = absurd (h refl)
context_there (x ∷ xs) zero (suc q) new h = refl
context_there (x ∷ xs) (suc p) zero new h = refl
context_there (x ∷ xs) (suc p) (suc q) new h = context_there xs p q new (λ e. h (ap suc e))

-- nor does a step of another processor change the context of the process that this one runs
pub other_context : (w : WorldValue) (m : Machine) (cpu other : Cpu) (proc : Proc) → (cpu.0 ≡ other.0 → ⊥) → runner m.state cpu ≡ Some proc
    → context_of (moved w m other) proc ≡ context_of m proc
other_context w m cpu other proc apart here =
    moved_by w m other (λ k. context_of k proc ≡ context_of m proc) refl (record {
      none = tt;
      calls = λ p c frames may r e. set p r _;
      halts = λ p frames may r e. set p r [];
      dispatches = λ first rest may e. refl;
    })
  where
    differs : (p : Proc) → runner m.state other ≡ Some p → proc.0 ≡ p.0 → ⊥
    differs p r e =
        let on = runs_on m.state.processes other p r in
        let off = on_one cpu other (run_at m.state.processes proc.0) apart (runs_on m.state.processes cpu proc here) in
        true≢false (sym on ∙ (ap (λ (n : ℕ). is_on other (run_at m.state.processes n)) (sym e) ∙ off))

    set : (p : Proc) → runner m.state other ≡ Some p → (new : Context) → unwrap_or (slice_get (slice_set m.contexts p.0 new) proc.0) [] ≡ context_of m proc
    set p r new = ap (λ (o : Option Context). unwrap_or o []) (context_there m.contexts p.0 proc.0 new (differs p r))
