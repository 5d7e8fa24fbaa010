-- Where each run on processor 0 comes to its end, seen from the step before.
use Rattle.std.proofs.Common.{◌≡◌, ℕ, ◌+◌, List, [], ◌∷◌, true, Option, Some, None, Ok, refl, sym, ◌∙◌, ap, subst}
use Rattle.std.specs.Prelude.{All, option_map, slice_get, slice_set}
use Rattle.std.specs.Option.{unwrap_or}
use Rattle.std.proofs.lemmas.List.Elements.{All-head, All-tail}
use Rattle.hk_model.specs.declared.names.Inc.{Inc}
use Rattle.hk_model.specs.declared.names.Proc.{Proc}
use Rattle.hk_model.specs.declared.calls.Answer.{Answer}
use Rattle.hk_model.specs.declared.calls.Call.{Call}
use Rattle.hk_model.specs.declared.calls.Reply.{Reply}
use Rattle.hk_model.specs.declared.frames.Todo.{Todo}
use Rattle.hk_model.specs.declared.frames.Todo.TheVariants.{Do}
use Rattle.hk_model.specs.declared.calls.Reply.TheVariants as reply
use Rattle.hk_model.specs.declared.lines.What.TheVariants as what
use Rattle.hk_model.specs.declared.lines.Line.{Line}
use Rattle.hk_model.specs.declared.lines.End.TheVariants as end
use Rattle.hk_model.specs.declared.objects.Process.{Process}
use Rattle.hk_model.specs.declared.objects.ProcessState.TheVariants.{Ended}
use Rattle.hk_model.specs.WorldValue.{WorldValue}
use Rattle.hk_model.specs.State.{State, process}
use Rattle.hk_model.specs.Keeping.{restricted}
use Rattle.hk_model.specs.Rule.{outcome, settled, rule, answered, counted}
use Rattle.hk_model.specs.Processors.{runner, may_step, entered_code, dispatched_from}
use Rattle.hk_model.specs.Control.{Context, next, after}
use Rattle.hk_model.specs.Running.{Machine, context_of, event, dispatch_event, step, moved, after_lines, AreSteps}
use Rattle.hk_model.specs.Legal.{end_word}
use Rattle.hk_model.proofs.Steps.{given_to, proc_line}
use Rattle.hk_gen.specs.WholeRuns.{first_processor}

module _ (w : WorldValue) where
  -- each run on processor 0 from here that has no further step ends with every process ended
  abbrev pub Ends : Machine → Type 0
  Ends m = (lines : List Line) → AreSteps w m lines → All (λ (line : Line). line.cpu ≡ first_processor) lines
      → step w (after_lines w m lines) first_processor ≡ None → end_word (after_lines w m lines).state ≡ Some end.Done

  -- so it is where there is no step and every process has ended
  pub ends_here : (m : Machine) → step w m first_processor ≡ None → end_word m.state ≡ Some end.Done → Ends m
  ends_here m none over [] steps alone last = over
  ends_here m none over (line ∷ lines) steps alone last =
      let cpu : line.cpu ≡ first_processor = All-head (λ (line : Line). line.cpu ≡ first_processor) line lines alone in
      let no_line : option_map (λ (found : Line × Machine). found.0) (step w m line.cpu) ≡ None = rw (cpu, none) refl in
      absurd (cc (steps.0))

  -- and where it is so after the step
  pub ends_after : (m : Machine) (found : Line × Machine) → step w m first_processor ≡ Some found → Ends found.1 → Ends m
  ends_after m found is later [] steps alone last = absurd (cc)
  ends_after m found is later (line ∷ lines) steps alone last =
      let cpu : line.cpu ≡ first_processor = All-head (λ (line : Line). line.cpu ≡ first_processor) line lines alone in
      let goes : moved w m line.cpu ≡ found.1 = rw (cpu, is) refl in
      subst (λ (x : Machine). AreSteps w x lines → step w (after_lines w x lines) first_processor ≡ None → end_word (after_lines w x lines).state ≡ Some end.Done) (sym goes)
      (λ s l. later lines s (All-tail (λ (line : Line). line.cpu ≡ first_processor) line lines alone) l) steps.1 last

  -- the step of a process that runs
  step_of : (m : Machine) (proc : Proc) → may_step m.state ≡ true → runner m.state first_processor ≡ Some proc
      → step w m first_processor ≡ Some (event w m first_processor proc (next w (context_of m proc)))
  unfolding step
  step_of m proc may runs = rw (may, runs)

  -- the step of a processor that runs none
  dispatch_of : (m : Machine) (first : Proc) (rest : List Proc) → may_step m.state ≡ true → runner m.state first_processor ≡ None → m.state.ready ≡ first ∷ rest
      → step w m first_processor ≡ dispatch_event m first_processor (dispatched_from m.state first_processor (first ∷ rest))
  unfolding step
  dispatch_of m first rest may none ready = rw (may, none, ready)

  -- and where none is ready there is no step
  pub no_step : (m : Machine) → may_step m.state ≡ true → runner m.state first_processor ≡ None → m.state.ready ≡ [] → step w m first_processor ≡ None
  unfolding step
  no_step m may none ready = rw (may, none, ready)

  -- so it is where it is so after a dispatch
  pub ends_after_dispatch : (m : Machine) (first : Proc) (rest : List Proc) (t : State) → may_step m.state ≡ true → runner m.state first_processor ≡ None → m.state.ready ≡ first ∷ rest
      → given_to m.state first_processor first rest ≡ t → Ends (record { state = t; contexts = m.contexts }) → Ends m
  ends_after_dispatch m first rest t may none ready is later =
      ends_after m (proc_line m.state first_processor first what.Dispatch reply.Done, record m { state = given_to m.state first_processor first rest })
      (dispatch_of m first rest may none ready)
      (subst (λ (s : State). Ends (record { state = s; contexts = m.contexts })) (sym is) later)

  -- and after a call that is not refused: `found` is the context that its local instructions leave, and `left` the one behind the reply
  module _ (m : Machine) (proc : Proc) (p : Process) (c : Call) (found left : Context) (answer : Answer) (s t : State) (code : Option ℕ)
      (may : may_step m.state ≡ true) (runs : runner m.state first_processor ≡ Some proc) (is : slice_get m.state.processes proc.0 ≡ Some p)
      (next_is : next w (context_of m proc) ≡ (Do c, found)) (outcome_is : outcome m.state proc p.current c ≡ Ok (answer, s))
      (settles : counted (m.state.events + 1) (restricted s) ≡ t)
      (enters : entered_code m.state p.current c (answered answer) ≡ code) (leaves : after w found c (answered answer) code ≡ left) where
    -- its current incarnation, the reply and the state after it, the context, and the machine
    current_is : (process m.state proc).current ≡ p.current
    current_is = ap (λ (o : Option Process). (unwrap_or o (record { run = Ended; current = record { 0 = 0 } })).current) is

    rule_is : rule m.state proc c ≡ (answered answer, t)
    rule_is =
        ap (λ (inc : Inc). settled m.state (outcome m.state proc inc c)) current_is
        ∙ (ap (λ o. settled m.state o) outcome_is ∙ ap (λ (x : State). let made : Reply × State = (answered answer, x) in made) settles)

    after_is : after w found c (answered answer) (entered_code m.state (process m.state proc).current c (answered answer)) ≡ left
    after_is =
        ap (λ (inc : Inc). after w found c (answered answer) (entered_code m.state inc c (answered answer))) current_is
        ∙ (ap (λ (o : Option ℕ). after w found c (answered answer) o) enters ∙ leaves)

    machine_is : (event w m first_processor proc (next w (context_of m proc))).1 ≡ record { state = t; contexts = slice_set m.contexts proc.0 left }
    machine_is =
        ap (λ (todo : Todo × Context). (event w m first_processor proc todo).1) next_is
        ∙ (ap (λ (made : Reply × State). let x : Machine = record {
          state = made.1;
          contexts = slice_set m.contexts proc.0 (after w found c made.0 (entered_code m.state (process m.state proc).current c made.0));
        } in x) rule_is
        ∙ ap (λ (context : Context). let x : Machine = record { state = t; contexts = slice_set m.contexts proc.0 context } in x) after_is)

    pub ends_after_call : Ends (record { state = t; contexts = slice_set m.contexts proc.0 left }) → Ends m
    ends_after_call later = ends_after m (event w m first_processor proc (next w (context_of m proc))) (step_of m proc may runs) (subst Ends (sym machine_is) later)
