-- The call of a step is the one that was next.
use Rattle.std.specs.Prelude.{◌≡◌, Option, Some, IfSome}
use Rattle.std.specs.Option.{option_and_then}
use Rattle.std.proofs.Common.{get_or, ap, sym, ◌∙◌, subst, option_map}
use Rattle.hk_model.specs.declared.names.Inc.{Inc}
use Rattle.hk_model.specs.declared.names.Proc.{Proc}
use Rattle.hk_model.specs.declared.names.Cpu.{Cpu}
use Rattle.hk_model.specs.declared.calls.Call.{Call}
use Rattle.hk_model.specs.declared.frames.Todo.{Todo}
use Rattle.hk_model.specs.declared.lines.What.TheVariants as what
use Rattle.hk_model.specs.declared.lines.Line.{Line}
use Rattle.hk_model.specs.WorldValue.{WorldValue}
use Rattle.hk_model.specs.State.{State, process}
use Rattle.hk_model.specs.Processors.{running_on}
use Rattle.hk_model.specs.Control.{Context, next}
use Rattle.hk_model.specs.Running.{Machine, context_of, step}
use Rattle.hk_program.specs.Machines.{IsSound, called, next_call}
use Rattle.hk_program.specs.Watching.{seen_by, seen_in_step, seen_of}
use Rattle.hk_program.proofs.Events.{context_read}
use Rattle.hk_program.proofs.StepCases.{step_by}

-- a call of a line was the next one of its processor, which ran the incarnation that the line names
pub record WasNext (w : WorldValue) (m : Machine) (cpu : Cpu) (line : Line) (c : Call) : Type 0 where
  pub call : next_call w m cpu ≡ Some c
  pub runs : running_on m.state cpu ≡ Some (line.proc, line.inc)

same_call : (c d : Call) → what.Call c ≡ what.Call d → Some c ≡ Some d
same_call c d h = cc

pub call_was_next : (w : WorldValue) (m : Machine) (cpu : Cpu) (line : Line) (after : Machine) → step w m cpu ≡ Some (line, after) → (c : Call) → line.what ≡ what.Call c
    → WasNext w m cpu line c
call_was_next w m cpu line after made =
    subst (λ (found : Option (Line × Machine)). IfSome found (λ f. (c : Call) → f.0.what ≡ what.Call c → WasNext w m cpu f.0 c)) made
    (step_by w m cpu (λ found. IfSome found (λ f. (c : Call) → f.0.what ≡ what.Call c → WasNext w m cpu f.0 c)) (record {
      none = tt;
      calls = λ proc c frames may r e d h. record {
        call = ap (option_and_then (λ (p : Proc). called (next w (context_of m p)).0)) r ∙ ap (λ (t : Todo × Context). called t.0) e ∙ same_call c d h;
        runs = ap (option_map (λ (p : Proc). (p, (process m.state p).current))) r;
      };
      halts = λ proc frames may r e d h. absurd (cc);
      dispatches = λ first rest may e d h. absurd (cc);
    }))

-- what is seen in a step of a processor that runs a process, by its context
pub seen_read : {A : Type 0} (see : A → State → Inc → Call → A) (w : WorldValue) (m : Machine) (cpu : Cpu) (proc : Proc) (inc : Inc) → IsSound w m
    → running_on m.state cpu ≡ Some (proc, inc) → (frames : Context) → frames ≡ get_or m.contexts proc.0 frames → (x : A)
    → seen_of see m.state inc (next w frames).0 x ≡ seen_in_step see w m cpu x
seen_read see w m cpu proc inc sound runs frames h x =
    ap (λ (f : Context). seen_of see m.state inc (next w f).0 x) (sym (context_read w m cpu proc inc sound runs frames h))
    ∙ ap (λ (o : Option (Proc × Inc)). seen_by see w m o x) (sym runs)
