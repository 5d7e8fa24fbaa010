-- Each refusal of a call has its plain cause in the state before it.
use Rattle.std.proofs.Common.{◌≡◌, ◌<◌, ◌≤◌, ◌⊎◌, ℕ, zero, suc, ◌+◌, List, [], ◌∷◌, ◌++◌, length, map, get_or}
use Rattle.std.proofs.Common.{refl, sym, ap, ◌∙◌, inl, inr, arith, length-append, append-nil, append_assoc, add-zero}
use Rattle.std.proofs.lemmas.Option.{slice_get_within, slice_get-get_or}
use Rattle.hk_model.specs.declared.names.Inc.{Inc}
use Rattle.hk_model.specs.declared.names.Proc.{Proc}
use Rattle.hk_model.specs.declared.names.Slot.{Slot}
use Rattle.hk_model.specs.declared.entries.Cap.{Cap}
use Rattle.hk_model.specs.declared.entries.Param.{Param}
use Rattle.hk_model.specs.declared.entries.Template.{Template}
use Rattle.hk_model.specs.declared.entries.Entry.{Entry}
use Rattle.hk_model.specs.declared.entries.Entry.TheVariants.{Held, Form}
use Rattle.hk_model.specs.declared.calls.Refusal.{Refusal}
use Rattle.hk_model.specs.declared.calls.Refusal.TheVariants as refused
use Rattle.hk_model.specs.declared.calls.Call.{Call}
use Rattle.hk_model.specs.declared.calls.Call.TheVariants as call
use Rattle.hk_rights.specs.Rights.{load_right, env_right}
use Rattle.hk_model.specs.State.{State, object}
use Rattle.hk_model.specs.Judgments.{Has, Lacks, rights_of, IsAt, IsPastEnd, IsNoSlot, Stands, Leads, end_step}
use Rattle.hk_model.specs.Judgments.{LeadsNowhere, no_path, no_slot, stopped, from_nothing, from_template, without_load, past_end, template_without_env}
use Rattle.hk_model.specs.Judgments.{NoTarget, nowhere, nothing, no_capability, other_type, denied}
use Rattle.hk_model.specs.Judgments.{NotStorable, stores_nothing, kept_local, NoCapability, is_nothing, is_template, NoMerge, merge_other, merge_denied}
use Rattle.hk_model.specs.Judgments.{Passes, passes_none, passes_more, PassesNot, argument_missing, argument_refused, argument_later}
use Rattle.hk_model.specs.Does.{FirstNoSlot, this_slot, later_slot, IsNoCreate, creates_nothing, creates_capability, creates_amplify}
use Rattle.hk_model.specs.Does.{IsNoAmplify, amplifies_nothing, amplifies_capability, amplifies_create}
use Rattle.hk_model.specs.Does.{Refuses, get_target, get_range, put_target, put_range, add_target, add_full, count_target, load_into, load_nowhere, load_nothing}
use Rattle.hk_model.specs.Does.{store_from, store_target, store_range, store_what, append_from, append_target, append_what, append_full}
use Rattle.hk_model.specs.Does.{erase_target, erase_range, drop_slot, restrict_slot, restrict_what, look_nowhere, make_template_into, make_template_target}
use Rattle.hk_model.specs.Does.{create_into, create_nowhere, create_what, create_type, create_full, merge_from, merge_into, merge_nowhere, merge_what, merge_cap}
use Rattle.hk_model.specs.Does.{merge_refused, copy_into, copy_target, copy_full, enter_argument, enter_into, enter_target, enter_count, enter_passes, enter_full}
use Rattle.hk_model.specs.Does.{enter_deep, leave_slot, leave_what, leave_denied, p_target, v_target, v_full}
use Rattle.hk_model.specs.Needs.{Behind, Demand, Carried, Into, Env, Checked, needs, in_slot, MergesWith, with_template, with_parameter}
use Rattle.hk_model.specs.Needs.{to_give, to_go_on, at_the_end, to_hand_on, to_merge, Counts, of_slots, of_list, of_words, of_items, of_carried, of_written}
use Rattle.hk_model.specs.Needs.{Wants, Cause, nothing_there, template_there, right_missing, number_too_large, no_number, type_unwanted, type_uncreated}
use Rattle.hk_model.specs.Needs.{type_of_template, no_create_template, no_amplify_template, capability_to_create, amplify_to_create, capability_to_merge, create_to_merge, HasPath, arguments_miscounted, words_full, entries_full, objects_full, slots_full, tokens_full, too_deep}
use Rattle.hk_model.proofs.CausedSteps.{leads_by_some, one_end, Rises, rights_rise, lower_had, is_in_list, leads_on, found, found_end, next_at, needed_before}
use Rattle.hk_model.proofs.CausedSteps.{needed_end, needed_behind, HandsOn, MergesIt}

-- ---- the items of an Enter: its arguments, and the slot behind them

-- what stands behind its path
abbrev carried_args : List ℕ → ℕ → List Behind
carried_args args into = map (λ arg. Carried arg Checked) args ++ Into into ∷ []

-- an argument stands there at its own index
args_at : (args : List ℕ) (into place arg : ℕ) → IsAt args place arg → IsAt (carried_args args into) place (Carried arg Checked)
args_at [] into place arg h = absurd (cc)
args_at (x ∷ args) into zero arg h = let same : x ≡ arg = cc in rw same refl
args_at (x ∷ args) into (suc place) arg h = args_at args into place arg h

-- and the slot that is written behind them all
into_at : (args : List ℕ) (into : ℕ) → IsAt (carried_args args into) (length args) (Into into)
into_at [] into = refl
into_at (x ∷ args) into = into_at args into

-- the first argument that is no slot, and its place
record NoSlotAt (base found : ℕ) (args : List ℕ) : Type 0 where
  place : ℕ
  slot : ℕ
  is : found ≡ base + place
  at : IsAt args place slot
  none : IsNoSlot slot

-- where a slot of these is none, the first one has a place
no_slot_at : (base found : ℕ) (args : List ℕ) → FirstNoSlot base args found → NoSlotAt base found args
no_slot_at base found [] h = elim h [ ]
no_slot_at base found (x ∷ args) (this_slot h) = record { place = 0; slot = x; is = sym (add-zero base); at = refl; none = h }
no_slot_at base found (x ∷ args) (later_slot h g) =
    let later = no_slot_at (base + 1) found args g in
    let is = later.is in
    record { place = suc later.place; slot = later.slot; is = omega (arith, is); at = later.at; none = later.none }

-- as many capabilities as parameters
passed_count : {s : State} {inc : Inc} (args : List ℕ) (params : List Param) (caps : List Cap) → Passes s inc args params caps → length caps ≡ length params
passed_count args params caps passes_none = refl
passed_count args params caps (passes_more {args = rest} {params = others} {caps = more} st m p) = let later = passed_count rest others more p in omega (arith, later)

-- what a slot carries does not merge with a template
data Fails (s : State) (step : ℕ) (form : Param) : Entry → Refusal → Type 0 where
  by_entry : {entry : Entry} {refusal : Refusal} → NoCapability step entry refusal → Fails s step form entry refusal
  by_merge : {cap : Cap} {refusal : Refusal} → NoMerge step cap (object s cap.name).of form refusal → Fails s step form (Held cap) refusal

-- the argument that does not merge, and its place
record FailsAt (s : State) (inc : Inc) (base : ℕ) (args : List ℕ) (params : List Param) (refusal : Refusal) : Type 0 where
  place : ℕ
  step : ℕ
  slot : ℕ
  param : Param
  entry : Entry
  is : step ≡ base + place
  arg_at : IsAt args place slot
  param_at : IsAt params place param
  stands : Stands s inc slot entry
  fails : Fails s step param entry refusal

-- where the arguments do not pass, one of them has such a place
fails_at : {s : State} {inc : Inc} (base : ℕ) (args : List ℕ) (params : List Param) {refusal : Refusal} → PassesNot s inc base args params refusal
    → FailsAt s inc base args params refusal
fails_at base args params (argument_missing {slot = slot} {param = param} {entry = entry} st h) =
    record { place = 0; step = base; slot = slot; param = param; entry = entry; is = sym (add-zero base); arg_at = refl; param_at = refl; stands = st; fails = by_entry h }
fails_at base args params (argument_refused {slot = slot} {param = param} {cap = cap} st h) =
    record { place = 0; step = base; slot = slot; param = param; entry = Held cap; is = sym (add-zero base); arg_at = refl; param_at = refl; stands = st; fails = by_merge h }
fails_at base args params (argument_later {args = rest} {params = others} st m p) =
    let later = fails_at (base + 1) rest others p in
    let is = later.is in
    record {
      place = suc later.place;
      step = later.step;
      slot = later.slot;
      param = later.param;
      entry = later.entry;
      is = omega (arith, is);
      arg_at = later.arg_at;
      param_at = later.param_at;
      stands = later.stands;
      fails = later.fails;
    }

module _ (s : State) (proc : Proc) (inc : Inc) where
  -- ---- a walk that leads nowhere

  -- an entry at the end of a path's beginning lacks a right that is needed there
  lacks_load : {c : Call} (path : List ℕ) (at : ℕ) (more : List ℕ) {cap : Cap} → (needs c).path ≡ (path ++ at ∷ []) ++ more → Leads s inc path (Held cap)
      → Lacks cap.rights load_right → Cause s proc inc c (refused.Denied (end_step path) load_right)
  lacks_load {c} path at more {cap} e led lacks =
      let far = leads_by_some path (Held cap) led in
      let before : end_step path + 1 < length (needs c).path = omega (arith, far, ap length e, length-append (path ++ at ∷ []) more, length-append path (at ∷ [])) in
      right_missing (record {
        cap = cap;
        there = found s inc path (at ∷ more) (e ∙ append_assoc path (at ∷ []) more) led;
        needed = to_go_on (end_step path) before;
        missing = lacks;
        first = λ lower less n. absurd (by lower less (needed_before s inc (end_step path) lower n before));
      })
    where
      by : (lower : ℕ) → lower < load_right → (lower ≡ load_right) ⊎ (lower ≡ env_right) → ⊥
      by lower less (inl same) = omega (arith, less, same)
      by lower less (inr same) = omega (arith, less, same)

  -- or ENV, where the next entry is a template
  lacks_env : {c : Call} (path : List ℕ) (at : ℕ) (more : List ℕ) {cap : Cap} {form : Template} → (needs c).path ≡ (path ++ at ∷ []) ++ more
      → Leads s inc path (Held cap) → Has cap.rights load_right → IsAt (object s cap.name).entries at (Form form) → Lacks cap.rights env_right
      → Cause s proc inc c (refused.Denied (end_step path) env_right)
  lacks_env {c} path at more {cap} e led has_load there lacks =
      let far = leads_by_some path (Held cap) led in
      let steps : end_step path + 1 ≡ length path = omega (arith, far) in
      let before : end_step path + 1 < length (needs c).path = omega (arith, far, ap length e, length-append (path ++ at ∷ []) more, length-append path (at ∷ [])) in
      let whole = e ∙ append_assoc path (at ∷ []) more in
      right_missing (record {
        cap = cap;
        there = found s inc path (at ∷ more) whole led;
        needed = to_give (end_step path) at (rw steps (next_at s inc path more (needs c).path at e)) (leads_on s inc path (needs c).path (at ∷ more) whole led) there;
        missing = lacks;
        first = λ lower less n. by lower less (needed_before s inc (end_step path) lower n before);
      })
    where
      by : (lower : ℕ) → lower < env_right → (lower ≡ load_right) ⊎ (lower ≡ env_right) → Has cap.rights lower
      by lower less (inl same) = rw same has_load
      by lower less (inr same) = absurd (omega (arith, less, same))

  -- a number is too large at a step, whichever way its number is written
  too_large : {c : Call} {step other at bound : ℕ} → step ≡ other → Counts s inc c other at bound → bound ≤ at → Cause s proc inc c (refused.Range step)
  too_large e n h = rw e (number_too_large n h)

  -- the next index is past the end of the list of the object at the end of a beginning
  past_list : {c : Call} (path : List ℕ) (at : ℕ) (more : List ℕ) {cap : Cap} → (needs c).path ≡ (path ++ at ∷ []) ++ more → Leads s inc path (Held cap)
      → IsPastEnd (object s cap.name).entries at → Cause s proc inc c (refused.Range (length path))
  past_list {c} path at more {cap} e led past =
      let far = leads_by_some path (Held cap) led in
      let steps : length path ≡ end_step path + 1 = omega (arith, far) in
      let there = rw steps at (next_at s inc path more (needs c).path at e) in
      too_large steps (of_list (end_step path) there (leads_on s inc path (needs c).path (at ∷ more) (e ∙ append_assoc path (at ∷ []) more) led)) past

  -- what begins the path of a call leads nowhere
  begins_nowhere : {c : Call} → HasPath c → (path more : List ℕ) {refusal : Refusal} → (needs c).path ≡ path ++ more → (path ≡ [] → more ≡ []) → LeadsNowhere s inc path refusal
      → Cause s proc inc c refusal
  begins_nowhere has path more e all no_path = no_number has (e ∙ all refl)
  begins_nowhere has path more e all (no_slot h) = number_too_large (of_slots (rw e refl)) h
  begins_nowhere has path more e all (stopped at next before h) =
      begins_nowhere has (at ∷ before) (next ∷ more) (e ∙ append_assoc (at ∷ before) (next ∷ []) more) (λ f. absurd (cc)) h
  begins_nowhere has path more e all (from_nothing before at h) = nothing_there (found s inc before (at ∷ more) (e ∙ append_assoc before (at ∷ []) more) h)
  begins_nowhere has path more e all (from_template before at h) = template_there (found s inc before (at ∷ more) (e ∙ append_assoc before (at ∷ []) more) h)
  begins_nowhere has path more e all (without_load before at h g) = lacks_load before at more e h g
  begins_nowhere has path more e all (past_end before at h g i) = past_list before at more e h i
  begins_nowhere has path more e all (template_without_env before at h g i j) = lacks_env before at more e h g i j

  -- the whole path leads nowhere
  leads_nowhere : {c : Call} {refusal : Refusal} → HasPath c → LeadsNowhere s inc (needs c).path refusal → Cause s proc inc c refusal
  leads_nowhere {c} has h = begins_nowhere has (needs c).path [] (sym (append-nil (needs c).path)) (λ e. refl) h

  -- ---- a path that leads to no target

  -- the path of a row leads to no target of the row
  no_target : {c : Call} {refusal : Refusal} → HasPath c → Rises 0 (needs c).rights → NoTarget s inc (needs c).path (Wants c) (needs c).rights refusal → Cause s proc inc c refusal
  no_target has rise (nowhere h) = leads_nowhere has h
  no_target has rise (nothing h) = nothing_there (found_end s inc h)
  no_target has rise (no_capability h) = template_there (found_end s inc h)
  no_target has rise (other_type h g) = type_unwanted h g
  no_target {c} has rise (denied {cap} {right} h g f) =
      let listed = is_in_list cap.rights right (needs c).rights f in
      let far = leads_by_some (needs c).path (Held cap) h in
      right_missing (record {
        cap = cap;
        there = found_end s inc h;
        needed = at_the_end listed.1;
        missing = listed.0;
        first = λ lower less n. lower_had cap.rights 0 right lower (needs c).rights rise f (needed_end s inc (end_step (needs c).path) lower n far refl) less;
      })

  -- ---- what stands behind the path

  -- what stands there is no capability
  no_cap_there : {c : Call} {slot : ℕ} {demand : Demand} {entry : Entry} {refusal : Refusal} (place step : ℕ) → step ≡ length (needs c).path + place
      → IsAt (needs c).behind place (Carried slot demand) → Stands s inc slot entry → NoCapability step entry refusal → Cause s proc inc c refusal
  no_cap_there place step is at st is_nothing = rw is (nothing_there (in_slot place at st))
  no_cap_there place step is at st is_template = rw is (template_there (in_slot place at st))

  -- what is merged is carried by a slot
  merged_slot : {c : Call} (place : ℕ) (form : Param) → MergesWith s inc c place form → (slot : ℕ) × IsAt (needs c).behind place (Carried slot Checked)
  merged_slot place form (with_template {from = from} h) = (from.0, refl)
  merged_slot place form (with_parameter {args = args} {into = into} h i lt) =
      (get_or args place 0, args_at args into.0 place (get_or args place 0) (slice_get-get_or args place 0 lt))

  -- by a call with a path
  merged_by_path : {c : Call} (place : ℕ) (form : Param) → MergesWith s inc c place form → 0 < length (needs c).path
  merged_by_path place form (with_template {path} h) = leads_by_some path _ h
  merged_by_path place form (with_parameter {path} h i lt) = leads_by_some path _ h

  -- with one template
  merged_one : {c : Call} (place : ℕ) (a b : Param) → MergesWith s inc c place a → MergesWith s inc c place b → a ≡ b
  merged_one place a b (with_template h) (with_template g) = let same = one_end _ _ h g in cc
  merged_one place a b (with_parameter {cap = cap} h i lt) (with_parameter {cap = other} g j less) =
      let same : Held cap ≡ Held other = one_end (Held cap) (Held other) h g in
      let caps : cap ≡ other = cc in
      let there : IsAt (object s cap.name).params place b = rw caps j in
      cc

  -- what is handed on may not be
  not_storable : {c : Call} {slot : ℕ} {entry : Entry} {refusal : Refusal} (place step : ℕ) → step ≡ length (needs c).path + place
      → ((needs c).path ≡ [] → (needs c).rights ≡ []) → IsAt (needs c).behind place (Carried slot Env) → Stands s inc slot entry → NotStorable step entry refusal
      → Cause s proc inc c refusal
  not_storable place step is row at st stores_nothing = rw is (nothing_there (in_slot place at st))
  not_storable {c} {slot} place step is row at st (kept_local {cap} h) =
      right_missing (record {
        cap = cap;
        there = rw is (in_slot place at st);
        needed = rw is (to_hand_on place at st);
        missing = h;
        first = λ lower less n. absurd (by lower less (needed_behind s inc place step lower n is row));
      })
    where
      by : (lower : ℕ) → lower < env_right → ((lower ≡ env_right) × HandsOn s inc c place) ⊎ MergesIt s inc c place lower → ⊥
      by lower less (inl both) = let same = both.0 in omega (arith, less, same)
      by lower less (inr (form, (m, i))) = let other = merged_slot place form m in let there = other.1 in cc

  -- what is merged does not merge
  fails_there : {c : Call} {slot : ℕ} {entry : Entry} {form : Param} {refusal : Refusal} (place step : ℕ) → step ≡ length (needs c).path + place
      → MergesWith s inc c place form → IsAt (needs c).behind place (Carried slot Checked) → Stands s inc slot entry → Fails s step form entry refusal
      → Cause s proc inc c refusal
  fails_there place step is m at st (by_entry h) = no_cap_there place step is at st h
  fails_there place step is m at st (by_merge (merge_other h)) = rw is (type_of_template place m (in_slot place at st) h)
  fails_there {c} {slot} {form = form} place step is m at st (by_merge {cap} (merge_denied {right} same_type f)) =
      let listed = is_in_list cap.rights right (rights_of form.check) f in
      right_missing (record {
        cap = cap;
        there = rw is (in_slot place at st);
        needed = rw is (to_merge place m listed.1);
        missing = listed.0;
        first = λ lower less n. by lower less (needed_behind s inc place step lower n is (λ e. absurd (far e)));
      })
    where
      far : (needs c).path ≡ [] → ⊥
      far e = let some = merged_by_path place form m in let lengths = ap length e in omega (arith, some, lengths)

      by : (lower : ℕ) → lower < right → ((lower ≡ env_right) × HandsOn s inc c place) ⊎ MergesIt s inc c place lower → Has cap.rights lower
      by lower less (inl (same, (other, there))) = absurd (cc)
      by lower less (inr (other, (g, i))) =
          let same = merged_one place form other m g in
          lower_had cap.rights 0 right lower (rights_of form.check) (rights_rise form.check) f (rw same i) less

  -- a number of the first place behind the path is too large
  first_too_large : {c : Call} {at bound : ℕ} → Counts s inc c (length (needs c).path + 0) at bound → bound ≤ at
      → Cause s proc inc c (refused.Range (length (needs c).path))
  first_too_large {c} n h = too_large (sym (add-zero (length (needs c).path))) n h

  -- ---- templates of another kind

  -- what stands at the path of a Create is no Create template
  not_created : {path : List ℕ} {into : Slot} {entry : Entry} {refusal : Refusal} → Leads s inc path entry → IsNoCreate (end_step path) entry refusal
      → Cause s proc inc (call.Create path into) refusal
  not_created h creates_nothing = nothing_there (found_end s inc h)
  not_created h creates_capability = no_create_template h capability_to_create
  not_created h creates_amplify = no_create_template h amplify_to_create

  -- what stands at the path of a Merge is no Amplify template
  not_amplified : {path : List ℕ} {from into : Slot} {entry : Entry} {refusal : Refusal} → Leads s inc path entry → IsNoAmplify (end_step path) entry refusal
      → Cause s proc inc (call.Merge path from into) refusal
  not_amplified h amplifies_nothing = nothing_there (found_end s inc h)
  not_amplified h amplifies_capability = no_amplify_template h capability_to_merge
  not_amplified h amplifies_create = no_amplify_template h create_to_merge

  -- ---- the arguments of an Enter

  -- a slot of the arguments is none
  no_argument : {path args : List ℕ} {into : Slot} {step : ℕ} → FirstNoSlot (length path) args step → Cause s proc inc (call.Enter path args into) (refused.Range step)
  no_argument {path} {args} {into} {step} h =
      let f = no_slot_at (length path) step args h in too_large f.is (of_carried f.place (args_at args into.0 f.place f.slot f.at)) f.none

  -- an argument does not merge with its parameter
  passes_not : {path args : List ℕ} {into : Slot} {cap : Cap} {refusal : Refusal} → Leads s inc path (Held cap)
      → PassesNot s inc (length path) args (object s cap.name).params refusal → Cause s proc inc (call.Enter path args into) refusal
  passes_not {path} {args} {into} {cap} led h =
      let f = fails_at (length path) args (object s cap.name).params h in
      let merges = with_parameter led f.param_at (slice_get_within args f.place f.slot f.arg_at) in
      fails_there f.place f.step f.is merges (args_at args into.0 f.place f.slot f.arg_at) f.stands f.fails

-- a path that leads anywhere is not empty
some_path : {s : State} {inc : Inc} {entry : Entry} (path : List ℕ) → Leads s inc path entry → path ≡ [] → ⊥
some_path {entry = entry} path led e = let far = leads_by_some path entry led in let lengths = ap length e in omega (arith, far, lengths)

-- ---- each refusal

-- what is so in the state before a refusal
pub caused : (s : State) (proc : Proc) (inc : Inc) {c : Call} {refusal : Refusal} → Refuses s proc inc c refusal → Cause s proc inc c refusal
caused s proc inc (get_target h) = no_target s proc inc tt (omega arith) h
caused s proc inc (get_range t h) = first_too_large s proc inc (of_words 0 refl t.leads) h
caused s proc inc (put_target h) = no_target s proc inc tt (omega arith) h
caused s proc inc (put_range t h) = first_too_large s proc inc (of_words 0 refl t.leads) h
caused s proc inc (add_target h) = no_target s proc inc tt (omega arith) h
caused s proc inc (add_full t h) = words_full t.leads h
caused s proc inc (count_target h) = no_target s proc inc tt (omega arith) h
caused s proc inc (load_into h) = first_too_large s proc inc (of_written 0 refl) h
caused s proc inc (load_nowhere i h) = leads_nowhere s proc inc tt h
caused s proc inc (load_nothing i h) = nothing_there (found_end s inc h)
caused s proc inc (store_from h) = number_too_large (of_carried 1 refl) h
caused s proc inc (store_target i h) = no_target s proc inc tt (omega arith) h
caused s proc inc (store_range i t h) = first_too_large s proc inc (of_items 0 refl t.leads) h
caused s proc inc (store_what {path} i t lt st h) = not_storable s proc inc 1 (length path + 1) refl (λ e. absurd (some_path path t.leads e)) refl st h
caused s proc inc (append_from h) = first_too_large s proc inc (of_carried 0 refl) h
caused s proc inc (append_target i h) = no_target s proc inc tt (omega arith) h
caused s proc inc (append_what {path} i t st h) = not_storable s proc inc 0 (length path) (sym (add-zero (length path))) (λ e. absurd (some_path path t.leads e)) refl st h
caused s proc inc (append_full i t st g h) = entries_full t.leads h
caused s proc inc (erase_target h) = no_target s proc inc tt (omega arith) h
caused s proc inc (erase_range t h) = first_too_large s proc inc (of_items 0 refl t.leads) h
caused s proc inc (drop_slot h) = number_too_large (of_written 0 refl) h
caused s proc inc (restrict_slot h) = number_too_large (of_carried 0 refl) h
caused s proc inc (restrict_what i st h) = no_cap_there s proc inc 0 0 refl refl st h
caused s proc inc (look_nowhere h) = leads_nowhere s proc inc tt h
caused s proc inc (make_template_into h) = first_too_large s proc inc (of_written 0 refl) h
caused s proc inc (make_template_target i h) = no_target s proc inc tt (omega arith) h
caused s proc inc (create_into h) = first_too_large s proc inc (of_written 0 refl) h
caused s proc inc (create_nowhere i h) = leads_nowhere s proc inc tt h
caused s proc inc (create_what i led h) = not_created s proc inc led h
caused s proc inc (create_type i led h) = type_uncreated led h
caused s proc inc (create_full i led g h) = objects_full refl h
caused s proc inc (merge_from h) = first_too_large s proc inc (of_carried 0 refl) h
caused s proc inc (merge_into i h) = number_too_large (of_written 1 refl) h
caused s proc inc (merge_nowhere i j h) = leads_nowhere s proc inc tt h
caused s proc inc (merge_what i j led h) = not_amplified s proc inc led h
caused s proc inc (merge_cap {path} i j led st h) = no_cap_there s proc inc 0 (length path) (sym (add-zero (length path))) refl st h
caused s proc inc (merge_refused {path} i j led st h) = fails_there s proc inc 0 (length path) (sym (add-zero (length path))) (with_template led) refl st (by_merge h)
caused s proc inc (copy_into h) = first_too_large s proc inc (of_written 0 refl) h
caused s proc inc (copy_target i h) = no_target s proc inc tt (omega arith) h
caused s proc inc (copy_full i t h) = objects_full refl h
caused s proc inc (enter_argument h) = no_argument s proc inc h
caused s proc inc (enter_into {path} {args} {into} i h) = number_too_large (of_written (length args) (into_at args into.0)) h
caused s proc inc (enter_target i j h) = no_target s proc inc tt (omega arith) h
caused s proc inc (enter_count i j t h) = arguments_miscounted t.leads h
caused s proc inc (enter_passes i j t n h) = passes_not s proc inc t.leads h
caused s proc inc (enter_full {args = args} {cap = held} {caps = caps} i j t p h) =
    let count = passed_count args (object s held.name).params caps p in slots_full t.leads (omega (arith, count, h))
caused s proc inc (enter_deep i j t p n h) = too_deep h
caused s proc inc (leave_slot h) = number_too_large (of_carried 0 refl) h
caused s proc inc (leave_what i st h) = no_cap_there s proc inc 0 0 refl refl st h
caused s proc inc (leave_denied i st h) = not_storable s proc inc 0 0 refl (λ e. refl) refl st (kept_local h)
caused s proc inc (p_target h) = no_target s proc inc tt (omega arith) h
caused s proc inc (v_target h) = no_target s proc inc tt (omega arith) h
caused s proc inc (v_full t none h) = tokens_full t.leads none h
