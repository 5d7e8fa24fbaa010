-- What an Enter and a Leave that are done have done: the capability that an Enter calls tells whether its incarnation is
-- confined, and a Leave takes its own incarnation away.
use Rattle.std.proofs.Common.{◌≡◌, ℕ, zero, suc, List, [], ◌∷◌, Bool, true, Option, Some, None, Ok, Err, refl, sym, ap, subst}
use Rattle.std.specs.Prelude.{IfOk, not}
use Rattle.std.specs.Option.{unwrap_or}
use Rattle.std.specs.Map.{lookup, remove_entry}
use Rattle.std.specs.BTreeMap.{insert_entry}
use Rattle.hk_model.specs.declared.names.Name.{Name}
use Rattle.hk_model.specs.declared.names.Inc.{Inc}
use Rattle.hk_model.specs.declared.names.Proc.{Proc}
use Rattle.hk_model.specs.declared.names.Slot.{Slot}
use Rattle.hk_model.specs.declared.entries.Cap.{Cap}
use Rattle.hk_model.specs.declared.entries.Param.{Param}
use Rattle.hk_model.specs.declared.entries.Entry.{Entry}
use Rattle.hk_model.specs.declared.calls.Call.{Call}
use Rattle.hk_model.specs.declared.calls.Call.TheVariants as call
use Rattle.hk_model.specs.declared.lines.What.TheVariants as what
use Rattle.hk_model.specs.declared.objects.Incarnation.{Incarnation}
use Rattle.hk_rights.specs.Rights.{A0, has, unconf_right}
use Rattle.hk_model.specs.State.{State, incarnation, process, same_inc, inc_cmp, no_incarnation}
use Rattle.hk_model.specs.Targets.{PROCEDURE, is_of_type, target}
use Rattle.hk_model.specs.Rule.{Outcome, outcome, settled, called_incarnation, enter_procedure, leave}
use Rattle.hk_model.specs.Places.{rights_held, found, entry_given, named_by}
use Rattle.hk_model.specs.Lines.{done_by, done_call}
use Rattle.hk_model.specs.Ways.{LeadsTo, call_way}
use Rattle.hk_model.proofs.Standing.{inc_laws, insert_holds}
use Rattle.hk_model.proofs.TestLemmas.{then_is, and_is, ok_each, ok_more}
use Rattle.hk_model.proofs.WalkLemmas.{target_is, leads_named}
use Rattle.hk_model.proofs.LineWays.{answered_done}
use Rattle.hk_model.proofs.Activations.{activations_in}
use Rattle.hk_model.proofs.Turns.{LeavesBy, leave_leaves}
use Rattle.hk_model.proofs.Steps.{EachStep}
use Rattle.hk_confine.proofs.Hands.{IsCalled, Calls}

-- the path leads to the capability that is called, and the new incarnation is confined where that lacks UNCONF
pub record IsEntered (s : State) (inc : Inc) (path : List ℕ) (after : List (Inc × Incarnation)) : Type 0 where
  pub cap : Cap
  pub leads : LeadsTo s inc path cap
  pub confined : (unwrap_or (lookup (same_inc s.next_inc) after) no_incarnation).confined ≡ not (has cap.rights unconf_right)

-- what a call has done to the incarnations
abbrev pub HasDone : State → Inc → Call → List (Inc × Incarnation) → Type 0
HasDone s inc (call.Enter path args into) after = IsEntered s inc path after
HasDone s inc (call.Leave give) after = activations_in after ≡ remove_entry (same_inc inc) (activations_in s.incarnations)
HasDone s inc c after = Unit {0}

-- or none
abbrev pub HasDoneThat : State → Inc → Option Call → List (Inc × Incarnation) → Type 0
HasDoneThat s inc None after = Unit {0}
HasDoneThat s inc (Some c) after = HasDone s inc c after

put_in : (es : List (Inc × Incarnation)) (n : Inc) (x : Incarnation) → unwrap_or (lookup (same_inc n) (insert_entry inc_cmp es n x)) no_incarnation ≡ x
put_in es n x = insert_holds inc_cmp inc_laws (λ b y. b ≡ true → y ≡ x) n n es x no_incarnation (λ h. refl) (λ h. absurd (cc)) (inc_laws.refl n)

enter_leaf : (s : State) (proc : Proc) (inc : Inc) (path : List ℕ) (into : Slot) (cap : Cap) (slots : List Entry) → target s inc path (is_of_type PROCEDURE) A0 ≡ Ok cap
    → IsEntered s inc path (insert_entry inc_cmp s.incarnations s.next_inc (called_incarnation proc cap.name inc into (not (has cap.rights unconf_right)) slots))
enter_leaf s proc inc path into cap slots h = record {
  cap = cap;
  leads = (target_is s inc path (is_of_type PROCEDURE) A0 cap h).leads;
  confined = ap (λ (x : Incarnation). x.confined) (put_in s.incarnations s.next_inc (called_incarnation proc cap.name inc into (not (has cap.rights unconf_right)) slots));
}

enter_done : (s : State) (proc : Proc) (inc : Inc) (path args : List ℕ) (into : Slot)
    → IfOk (enter_procedure s proc inc path args into) (λ f. IsEntered s inc path f.1.incarnations)
unfolding enter_procedure
enter_done s proc inc path args into = search (then_is, and_is, enter_leaf) depth 12

outcome_done : (s : State) (proc : Proc) (inc : Inc) (c : Call) → IfOk (outcome s proc inc c) (λ f. HasDone s inc c f.1.incarnations)
outcome_done s proc inc (call.Enter path args into) = enter_done s proc inc path args into
outcome_done s proc inc (call.Leave give) =
    ok_more (λ f. LeavesBy s proc inc (incarnation s inc).caller f.1) (λ f. HasDone s inc (call.Leave give) f.1.incarnations) (leave s proc inc give) (λ f h. h.activations)
    (leave_leaves s proc inc give)
outcome_done s proc inc c = ok_each (λ f. HasDone s inc c f.1.incarnations) (outcome s proc inc c) (λ f. tt)

settled_done : (s : State) (inc : Inc) (c : Call) (o : Outcome) → IfOk o (λ f. HasDone s inc c f.1.incarnations)
    → HasDoneThat s inc (done_by (what.Call c) (settled s o).0) (settled s o).1.incarnations
settled_done s inc c (Ok f) h = subst (λ (d : Option Call). HasDoneThat s inc d f.1.incarnations) (sym (answered_done c f.0)) h
settled_done s inc c (Err e) h = tt

-- every line
pub done_each : EachStep (λ s line t. HasDoneThat s line.inc (done_call line) t.incarnations)
done_each = record {
  calls = λ s cpu proc c r. settled_done s (process s proc).current c (outcome s proc (process s proc).current c) (outcome_done s proc (process s proc).current c);
  halts = λ s cpu proc r. tt;
  dispatches = λ s cpu first rest r. tt;
}

-- ---- the ways of an Enter

-- a slot of the new incarnation takes a parameter, or what the procedure holds
pub call_way_calls : (s : State) (inc : Inc) (procedure : Name) (confined : Bool) → IsCalled s inc procedure confined → (args : List ℕ) (params : List Param) (n : ℕ)
    → Calls s inc (call_way procedure confined args params n)
call_way_calls s inc procedure confined h [] params n = h
call_way_calls s inc procedure confined h (arg ∷ args) [] n = h
call_way_calls s inc procedure confined h (arg ∷ args) (param ∷ params) zero = tt
call_way_calls s inc procedure confined h (arg ∷ args) (param ∷ params) (suc n) = call_way_calls s inc procedure confined h args params n

-- the capability that was called is what its name and its rights are told of
pub entered_called : (s : State) (inc : Inc) (path : List ℕ) (after : List (Inc × Incarnation)) → IsEntered s inc path after
    → IsCalled s inc (named_by s inc path) (not (has (rights_held (found s inc path)) unconf_right))
entered_called s inc path after h = record {
  path = path;
  cap = h.cap;
  leads = h.leads;
  same = leads_named s inc path h.cap h.leads;
  confines = ap (λ r. not (has (rights_held (entry_given r)) unconf_right)) h.leads;
}
