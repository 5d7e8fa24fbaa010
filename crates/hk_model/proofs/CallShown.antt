-- What each call that is done has shown of its path: the capability that it leads to, for an object of which type and with which
-- rights, or the template. And whose the line is.
use Rattle.std.proofs.Common.{◌≡◌, ℕ, ◌-◌, List, [], ◌∷◌, ◌++◌, Bool, true, false, Option, Some, None, Ok, Err, sym, ◌∙◌, ap, subst}
use Rattle.std.specs.Prelude.{IfOk, nat_lt, slice_get, IsSome}
use Rattle.std.proofs.lemmas.Bool.{false≢true}
use Rattle.hk_model.specs.declared.names.Name.{Name}
use Rattle.hk_model.specs.declared.names.Inc.{Inc}
use Rattle.hk_model.specs.declared.names.Proc.{Proc}
use Rattle.hk_model.specs.declared.entries.Cap.{Cap}
use Rattle.hk_model.specs.declared.entries.Param.{Param}
use Rattle.hk_model.specs.declared.entries.Entry.{Entry}
use Rattle.hk_model.specs.declared.entries.Entry.TheVariants.{Form}
use Rattle.hk_model.specs.declared.entries.Template.TheVariants as template
use Rattle.hk_model.specs.declared.calls.Call.{Call}
use Rattle.hk_model.specs.declared.calls.Call.TheVariants as call
use Rattle.hk_model.specs.declared.calls.Answer.TheVariants.{Done, Waits}
use Rattle.hk_model.specs.declared.lines.What.TheVariants as what
use Rattle.hk_model.specs.declared.lines.Line.{Line}
use Rattle.hk_model.specs.declared.objects.ProcessState.TheVariants.{Waiting}
use Rattle.hk_rights.specs.Rights.{GETDATA, COPY, A0}
use Rattle.hk_model.specs.State.{State, object, process, put_object, put_process}
use Rattle.hk_model.specs.Walking.{walk}
use Rattle.hk_model.specs.Targets.{TYPE, SEMAPHORE, PROCEDURE, is_general, is_listed, is_of_type, PUTDATA+MODIFY, ADDDATA+MODIFY, STORE+MODIFY, APPEND+MODIFY, KILL+MODIFY}
use Rattle.hk_model.specs.Targets.{MODIFY+A0, MODIFY+A1, ENV+A0, target, amplify_form, create_form}
use Rattle.hk_model.specs.Rule.{Outcome, outcome, settled, token_given, get_word, word_count, put_word, add_word, store_entry, append_entry, erase_entry, make_template}
use Rattle.hk_model.specs.Rule.{create_object, merge_cap, copy_object, enter_procedure, take_token, give_token}
use Rattle.hk_model.specs.Lines.{done_by, done_call}
use Rattle.hk_model.proofs.TestLemmas.{then_is, and_is, ok_each, amplify_form_is, create_form_is}
use Rattle.hk_model.proofs.WalkLemmas.{IsTarget, target_is}
use Rattle.hk_model.proofs.LineWays.{answered_done}
use Rattle.hk_model.proofs.Activations.{currents}
use Rattle.hk_model.proofs.Turns.{runs_current}
use Rattle.hk_model.proofs.Steps.{EachStep}

-- the path leads to a capability for an object of such a type, with these rights
pub record HasTarget (s : State) (inc : Inc) (path : List ℕ) (types : Name → Bool) (rights : ℕ) : Type 0 where
  pub cap : Cap
  pub is : IsTarget s inc path types rights cap

-- the path leads to an Amplify template
pub record HasForm (s : State) (inc : Inc) (path : List ℕ) : Type 0 where
  pub form : Param
  pub leads : walk s inc path ≡ Ok (Form (template.Amplify form.of form.check form.give))

-- the path leads to a Create template
pub record HasCreate (s : State) (inc : Inc) (path : List ℕ) : Type 0 where
  pub of : Name
  pub give : ℕ
  pub leads : walk s inc path ≡ Ok (Form (template.Create of give))

-- what each call has shown where nothing refuses it
abbrev pub Shown : State → Inc → Call → Type 0
Shown s inc (call.Get of at) = HasTarget s inc of is_general GETDATA
Shown s inc (call.Length of) = HasTarget s inc of is_general GETDATA
Shown s inc (call.Create by into) = HasCreate s inc by
Shown s inc (call.Put of at word) = HasTarget s inc of is_general PUTDATA+MODIFY
Shown s inc (call.Add of word) = HasTarget s inc of is_general ADDDATA+MODIFY
Shown s inc (call.Store list at from) = HasTarget s inc list is_listed STORE+MODIFY
Shown s inc (call.Append list from) = HasTarget s inc list is_listed APPEND+MODIFY
Shown s inc (call.Erase list at) = HasTarget s inc list is_listed KILL+MODIFY
Shown s inc (call.MakeTemplate of kind into) = HasTarget s inc of (is_of_type TYPE) ENV+A0
Shown s inc (call.Merge with cap into) = HasForm s inc with
Shown s inc (call.Copy of into) = HasTarget s inc of is_general COPY
Shown s inc (call.Enter path args into) = HasTarget s inc path (is_of_type PROCEDURE) A0
Shown s inc (call.P of) = HasTarget s inc of (is_of_type SEMAPHORE) MODIFY+A0
Shown s inc (call.V of) = HasTarget s inc of (is_of_type SEMAPHORE) MODIFY+A1
Shown s inc c = Unit {0}

shows : (s : State) (inc : Inc) (path : List ℕ) (types : Name → Bool) (rights : ℕ) (cap : Cap) → target s inc path types rights ≡ Ok cap → HasTarget s inc path types rights
shows s inc path types rights cap h = record { cap = cap; is = target_is s inc path types rights cap h }

forms : (s : State) (inc : Inc) (path : List ℕ) (entry : Entry) (form : Param) (step : ℕ) → walk s inc path ≡ Ok entry → amplify_form entry step ≡ Ok form → HasForm s inc path
forms s inc path entry form step h g = record { form = form; leads = h ∙ ap Ok (amplify_form_is entry step form g) }

creates : (s : State) (inc : Inc) (path : List ℕ) (entry : Entry) (form : Name × ℕ) (step : ℕ) → walk s inc path ≡ Ok entry → create_form entry step ≡ Ok form
    → HasCreate s inc path
creates s inc path entry form step h g = record { of = form.0; give = form.1; leads = h ∙ ap Ok (create_form_is entry step form g) }

-- every call
pub outcome_shown : (s : State) (proc : Proc) (inc : Inc) (c : Call) → IfOk (outcome s proc inc c) (λ f. Shown s inc c)
unfolding get_word word_count put_word add_word store_entry append_entry erase_entry make_template create_object merge_cap copy_object enter_procedure take_token give_token
outcome_shown s proc inc (call.Get of at) = search (then_is, shows)
outcome_shown s proc inc (call.Length of) = search (then_is, shows)
outcome_shown s proc inc (call.Create by into) = search (then_is, and_is, creates) depth 9
outcome_shown s proc inc (call.Put of at word) = search (then_is, and_is, shows)
outcome_shown s proc inc (call.Add of word) = search (then_is, and_is, shows)
outcome_shown s proc inc (call.Store list at from) = search (then_is, and_is, shows)
outcome_shown s proc inc (call.Append list from) = search (then_is, and_is, shows)
outcome_shown s proc inc (call.Erase list at) = search (then_is, and_is, shows)
outcome_shown s proc inc (call.MakeTemplate of kind into) = search (then_is, shows)
outcome_shown s proc inc (call.Merge with cap into) = search (then_is, forms) depth 10
outcome_shown s proc inc (call.Copy of into) = search (then_is, and_is, shows) depth 8
outcome_shown s proc inc (call.Enter path args into) = search (then_is, and_is, shows) depth 12
outcome_shown s proc inc (call.P of) =
    then_is (λ f. Shown s inc (call.P of)) (target s inc of (is_of_type SEMAPHORE) MODIFY+A0) (λ cap. Ok (elim (nat_lt 0 (object s cap.name).count) [
      | true ↦ (Done, put_object s cap.name (record (object s cap.name) { count = (object s cap.name).count - 1 }))
      | false ↦ (
        Waits,
        put_process (put_object s cap.name (record (object s cap.name) { waiters = (object s cap.name).waiters ++ proc ∷ [] })) proc
            (record (process s proc) { run = Waiting cap.name }),
      )
    ])) (λ cap t. shows s inc of (is_of_type SEMAPHORE) MODIFY+A0 cap t)
outcome_shown s proc inc (call.V of) =
    then_is (λ f. Shown s inc (call.V of)) (target s inc of (is_of_type SEMAPHORE) MODIFY+A1) (λ cap. token_given s cap.name (object s cap.name) (object s cap.name).waiters)
    (λ cap t.
    ok_each (λ f. Shown s inc (call.V of)) (token_given s cap.name (object s cap.name) (object s cap.name).waiters) (λ f. shows s inc of (is_of_type SEMAPHORE) MODIFY+A1 cap t))
outcome_shown s proc inc c = ok_each (λ f. Shown s inc c) (outcome s proc inc c) (λ f. tt)

-- of a call, or none
abbrev pub ShownIf : State → Inc → Option Call → Type 0
ShownIf s inc None = Unit {0}
ShownIf s inc (Some c) = Shown s inc c

settled_shown : (s : State) (inc : Inc) (c : Call) (o : Outcome) → IfOk o (λ f. Shown s inc c) → ShownIf s inc (done_by (what.Call c) (settled s o).0)
settled_shown s inc c (Ok f) h = subst (λ (d : Option Call). ShownIf s inc d) (sym (answered_done c f.0)) h
settled_shown s inc c (Err e) h = tt

-- every line
pub shown_each : EachStep (λ s line t. ShownIf s line.inc (done_call line))
shown_each = record {
  calls = λ s cpu proc c r. settled_shown s (process s proc).current c (outcome s proc (process s proc).current c) (outcome_shown s proc (process s proc).current c);
  halts = λ s cpu proc r. tt;
  dispatches = λ s cpu first rest r. tt;
}

-- a line that has done a call is of the process that is in its incarnation
abbrev pub IsOwn : State → Line → Type 0
IsOwn s line = IsSome (done_call line) → slice_get (currents s) line.proc.0 ≡ Some line.inc

pub own_each : EachStep (λ s line t. IsOwn s line)
own_each = record {
  calls = λ s cpu proc c r some. runs_current s cpu proc r;
  halts = λ s cpu proc r some. absurd (false≢true some);
  dispatches = λ s cpu first rest r some. absurd (false≢true some);
}
