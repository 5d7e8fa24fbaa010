-- What was known of a processor's next call is known of the line of its step.
use Rattle.std.proofs.Common.{◌≡◌, ℕ, List, [], ◌∷◌, Bool, true, false, Option, Some, None, refl, sym, ap, subst, ◌∙◌, option_map}
use Rattle.std.specs.Prelude.{IfSome, is_some, if◌then◌else◌, slice_index_or}
use Rattle.std.specs.Option.{option_and_then, unwrap_or}
use Rattle.hk_model.specs.declared.names.Name.{Name}
use Rattle.hk_model.specs.declared.names.Inc.{Inc}
use Rattle.hk_model.specs.declared.names.Proc.{Proc}
use Rattle.hk_model.specs.declared.names.Cpu.{Cpu}
use Rattle.hk_model.specs.declared.calls.Call.{Call}
use Rattle.hk_model.specs.declared.calls.Reply.{Reply}
use Rattle.hk_model.specs.declared.frames.Todo.{Todo}
use Rattle.hk_model.specs.declared.frames.Todo.TheVariants.{Do, Halt}
use Rattle.hk_model.specs.declared.lines.What.{What}
use Rattle.hk_model.specs.declared.lines.What.TheVariants as what
use Rattle.hk_model.specs.declared.lines.Line.{Line}
use Rattle.hk_model.specs.WorldValue.{WorldValue}
use Rattle.hk_model.specs.State.{State, process}
use Rattle.hk_model.specs.Control.{is_refusal, next}
use Rattle.hk_model.specs.Processors.{runner, running_on}
use Rattle.hk_model.specs.Running.{Machine, context_of, line_of, moved, step}
use Rattle.hk_model.specs.Lines.{done_by, done_call}
use Rattle.hk_program.specs.Machines.{called, next_call}
use Rattle.hk_program.specs.Watching.{seen_by, seen_in_step, seen_of}
use Rattle.hk_program.proofs.NextCalls.{call_was_next}
use Rattle.hk_program.proofs.Machines.{step_cpu}
use Rattle.hk_report.specs.declared.doings.Before.{Before}
use Rattle.hk_report.specs.declared.doings.Known.{Known}
use Rattle.hk_report.specs.declared.families.Begun.{Begun}
use Rattle.hk_report.specs.Doings.{asked_change, before_by, before_call, before_line, before_none, known_of}
use Rattle.hk_report.specs.Families.{changes_by}
use Rattle.hk_report.specs.Named.{named_change, named_list}

-- ---- a step

-- a call that was done was made
was_made : (x : What) (reply : Reply) (c : Call) → done_by x reply ≡ Some c → x ≡ what.Call c
was_made what.Dispatch reply c h = absurd (cc)
was_made what.Halt reply c h = absurd (cc)
was_made (what.Call d) reply c h = by (is_refusal reply) h
  where
    by : (b : Bool) → ◌≡◌ {A = Option Call} (if b then None else Some d) (Some c) → what.Call d ≡ what.Call c
    by true e = absurd (cc)
    by false e = cc

-- ---- what is asked of a call tells the same changes

-- what is asked of a call of an incarnation, where these are the calls that each is under
abbrev asked_call : List (List Begun) → State → Inc → Call → Before
asked_call families s inc c = record (before_call s inc (Some c)) { changed = asked_change (slice_index_or families inc.0 []) s inc c }

-- the same of the call that a processor's process makes next, if it makes one
abbrev asked_next : List (List Begun) → State → Cpu → Option Call → Option Before
asked_next families s cpu next = option_and_then (λ (x : Proc × Inc). option_map (λ (c : Call). asked_call families s x.1 c) next) (running_on s cpu)

-- what was asked of a line is known of it but for the object that it changes, and tells the same changes
pub record IsAsked (families : List (List Begun)) (s : State) (line : Line) (before : Before) : Type 0 where
  pub is : before ≡ record (before_line s line) { changed = before.changed }
  pub same : (n : ℕ) → changes_by n before.changed (slice_index_or families line.inc.0 []) ≡ changes_by n (before_line s line).changed (slice_index_or families line.inc.0 [])

under_none : (n : ℕ) (o : Option Name) → changes_by n o [] ≡ []
under_none n None = refl
under_none n (Some name) = refl

same_changes : (n : ℕ) (calls : List Begun) (s : State) (inc : Inc) (c : Call) → changes_by n (asked_change calls s inc c) calls ≡ changes_by n (named_change s inc (Some c)) calls
same_changes n [] s inc c = under_none n (named_list s inc (Some c)) ∙ sym (under_none n (named_change s inc (Some c)))
same_changes n (call ∷ calls) s inc c = refl

module _ (w : WorldValue) (m : Machine) (cpu : Cpu) (line : Line) (after : Machine) (made : step w m cpu ≡ Some (line, after)) where
  same_cpu : line.cpu ≡ cpu
  same_cpu = subst (λ (found : Option (Line × Machine)). IfSome found (λ f. f.0.cpu ≡ cpu)) made (step_cpu w m cpu)

  pub step_line : line_of w m line.cpu ≡ Some line
  step_line =
      subst (λ (c : Cpu). line_of w m c ≡ Some line) (sym same_cpu) (ap (λ (found : Option (Line × Machine)). option_map (λ f. f.0) found) made)

  pub step_moves : after ≡ moved w m line.cpu
  step_moves =
      sym (subst (λ (c : Cpu). moved w m c ≡ after) (sym same_cpu) (ap (λ (found : Option (Line × Machine)). unwrap_or (option_map (λ f. f.1) found) m) made))

  -- what was asked of the call of a line, if it has done one
  abbrev asked_line : List (List Begun) → Option Call → Before
  asked_line families None = before_none line.inc
  asked_line families (Some c) = asked_call families m.state line.inc c

  asked_is : (families : List (List Begun)) → IsAsked families m.state line (asked_line families (done_call line))
  asked_is families = by (done_call line) refl
    where
      by : (o : Option Call) → done_call line ≡ o → IsAsked families m.state line (asked_line families o)
      by None e = record { is = ap (λ (d : Option Call). record (before_call m.state line.inc d) { changed = None }) (sym e); same = λ n. ap (λ (d : Option Call). changes_by n (before_call m.state line.inc d).changed (slice_index_or families line.inc.0 [])) (sym e) }
      by (Some c) e = record {
        is = ap (λ (d : Option Call). record (before_call m.state line.inc d) { changed = asked_change (slice_index_or families line.inc.0 []) m.state line.inc c }) (sym e);
        same = λ n. same_changes n (slice_index_or families line.inc.0 []) m.state line.inc c
            ∙ ap (λ (d : Option Call). changes_by n (before_call m.state line.inc d).changed (slice_index_or families line.inc.0 [])) (sym e);
      }

  before_asked : (families : List (List Begun)) → before_by (asked_next families m.state cpu (next_call w m cpu)) line ≡ asked_line families (done_call line)
  before_asked families = by (done_call line) refl
    where
      by : (o : Option Call) → done_call line ≡ o
          → elim (is_some o) as (λ b. Before) [ true ↦ unwrap_or (asked_next families m.state cpu (next_call w m cpu)) (before_none line.inc) | false ↦ before_none line.inc ]
          ≡ asked_line families o
      by None e = refl
      by (Some c) e =
          let was = call_was_next w m cpu line after made c (was_made line.what line.reply c e) in
          ap (λ (o : Option Call). unwrap_or (asked_next families m.state cpu o) (before_none line.inc)) was.call
          ∙ ap (λ (o : Option (Proc × Inc)). unwrap_or
          (option_and_then (λ (x : Proc × Inc). let known : Option Before = Some (asked_call families m.state x.1 c) in known) o) (before_none line.inc)) was.runs

  -- of a line of whose call this was asked
  pub line_asked : (first known : Known) (before : Before) → first.before ≡ None
      → known ≡ seen_in_step (λ (k : Known) (s : State) (inc : Inc) (c : Call). known_of k s inc c) w m cpu first
      → before ≡ before_by known.before line → IsAsked first.calls.now m.state line before
  line_asked first known before none a b =
      subst (IsAsked first.calls.now m.state line)
      (sym (b ∙ ap (λ (k : Option Before). before_by k line) (ap (λ (k : Known). k.before) a ∙ seen_next (runner m.state cpu)) ∙ before_asked first.calls.now))
      (asked_is first.calls.now)
    where
      shown : (proc : Proc) (todo : Todo)
          → (seen_of (λ (k : Known) (s : State) (inc : Inc) (c : Call). known_of k s inc c) m.state (process m.state proc).current todo first).before
          ≡ option_map (λ (c : Call). asked_call first.calls.now m.state (process m.state proc).current c) (called todo)
      shown proc (Do c) = refl
      shown proc Halt = none

      seen_next : (found : Option Proc)
          → (seen_by (λ (k : Known) (s : State) (inc : Inc) (c : Call). known_of k s inc c) w m (option_map (λ (proc : Proc). (proc, (process m.state proc).current)) found) first).before
          ≡ option_and_then (λ (x : Proc × Inc). option_map (λ (c : Call). asked_call first.calls.now m.state x.1 c)
          (option_and_then (λ (proc : Proc). called (next w (context_of m proc)).0) found))
          (option_map (λ (proc : Proc). (proc, (process m.state proc).current)) found)
      seen_next None = none
      seen_next (Some proc) = shown proc (next w (context_of m proc)).0
