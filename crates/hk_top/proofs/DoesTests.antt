-- The tests of the rule table answer what the judgments of the inference rules say.
use Rattle.std.proofs.Common.{◌≡◌, ◌==◌, ◌⊎◌, inl, inr, ℕ, List, [], ◌∷◌, Bool, true, false, not, ◌&&◌, ◌||◌, Option, Some, None, Result, Ok, Err}
use Rattle.std.proofs.Common.{refl, sym, ◌∙◌, ap, arith, bit_and}
use Rattle.std.specs.Prelude.{nat_lt}
use Rattle.std.proofs.lemmas.Bool.{true≢false, or_cases, lt-ltb, le-ltb, ltb-true}
use Rattle.std.proofs.lemmas.Bool.Decides.{nat_tests}
use Rattle.hk_model.specs.declared.names.Name.{Name}
use Rattle.hk_model.specs.declared.names.Inc.{Inc}
use Rattle.hk_model.specs.declared.names.Slot.{Slot}
use Rattle.hk_model.specs.declared.entries.Cap.{Cap}
use Rattle.hk_model.specs.declared.entries.Param.{Param}
use Rattle.hk_model.specs.declared.entries.Entry.{Entry}
use Rattle.hk_model.specs.declared.entries.Entry.TheVariants.{Empty, Held, Form}
use Rattle.hk_model.specs.declared.calls.Refusal.{Refusal}
use Rattle.hk_model.specs.declared.calls.Refusal.TheVariants as refused
use Rattle.hk_rights.specs.Rights.{ENV, has, minus, all_but, all_rights, special_rights, env_right}
use Rattle.hk_rights.proofs.Sets.{same_rights, has-bit_and, has-bit_or, has-lacking, or_right}
use Rattle.hk_model.specs.Limits.{slot_limit}
use Rattle.hk_model.specs.State.{State, object, same_name}
use Rattle.hk_model.specs.Refusing.{◌>>=◌, ◌>>◌, unless, allowed}
use Rattle.hk_model.specs.Walking.{held}
use Rattle.hk_model.specs.Targets.{DATA, UNIVERSAL, PROCEDURE, PROCESS, LNS, is_general, is_listed, is_of_type, last_step, slot_at, storable, not_empty, target, create_form, amplify_form}
use Rattle.hk_model.specs.Merging.{matches, merged, merged_rights}
use Rattle.hk_model.specs.Rule.{can_be_created}
use Rattle.hk_model.specs.Judgments.{this, rights_of, IsGeneral, of_data, of_universal, of_declared, IsListed, lists_universal, lists_procedure, lists_declared}
use Rattle.hk_model.specs.Judgments.{IsType, IsUncreated, IsSlot, IsNoSlot, Target, NoTarget, nowhere, nothing, no_capability, other_type, denied}
use Rattle.hk_model.specs.Judgments.{IsStorable, stores_template, stores_capability, NotStorable, stores_nothing, kept_local, NoCapability, is_nothing, is_template}
use Rattle.hk_model.specs.Judgments.{Merges, by_its_type, by_any_type, NamesOther, NoMerge, merge_other, merge_denied}
use Rattle.hk_model.specs.Does.{IsNoCreate, creates_nothing, creates_capability, creates_amplify, IsNoAmplify, amplifies_nothing, amplifies_capability, amplifies_create}
use Rattle.hk_model.proofs.Standing.{name_same}
use Rattle.hk_model.proofs.TestsAgree.{ok_then, ok_and, err_then, err_and, allowed_ok, allowed_err}
use Rattle.hk_top.proofs.DoesWalks.{has_one, env_only, leads_walk, nowhere_walk}

-- ---- types

-- a test that is not passed is false
pub not_true : (b : Bool) → (b ≡ true → ⊥) → b ≡ false
not_true true h = absurd (h refl)
not_true false h = refl

-- a test of the rule table for a judgment of types
pub record Agrees (types : Name → Type 0) (test : Name → Bool) : Type 0 where
  pub yes : (of : Name) → types of → test of ≡ true
  pub from : (of : Name) → test of ≡ true → types of

pub same_number : (a b : ℕ) → (a == b) ≡ true → a ≡ b
same_number a b h = grind (arith, nat_tests)

general_yes : (of : Name) → IsGeneral of → is_general of ≡ true
general_yes of (of_data e) = rw e refl
general_yes of (of_universal e) = rw e refl
general_yes of (of_declared h) = or_right (of.0 == DATA || of.0 == UNIVERSAL) (nat_lt LNS of.0) (lt-ltb LNS of.0 h)

general_from : (of : Name) → is_general of ≡ true → IsGeneral of
general_from of h = by (or_cases (of.0 == DATA || of.0 == UNIVERSAL) (nat_lt LNS of.0) h)
  where
    first : ((of.0 == DATA) ≡ true) ⊎ ((of.0 == UNIVERSAL) ≡ true) → IsGeneral of
    first (inl e) = of_data (same_number of.0 DATA e)
    first (inr e) = of_universal (same_number of.0 UNIVERSAL e)

    by : ((of.0 == DATA || of.0 == UNIVERSAL) ≡ true) ⊎ (nat_lt LNS of.0 ≡ true) → IsGeneral of
    by (inl e) = first (or_cases (of.0 == DATA) (of.0 == UNIVERSAL) e)
    by (inr e) = of_declared (ltb-true LNS of.0 e)

pub general : Agrees IsGeneral is_general
general = record { yes = general_yes; from = general_from }

listed_yes : (of : Name) → IsListed of → is_listed of ≡ true
listed_yes of (lists_universal e) = rw e refl
listed_yes of (lists_procedure e) = rw e refl
listed_yes of (lists_declared h) =
    or_right (of.0 == UNIVERSAL || of.0 == PROCEDURE) (nat_lt LNS of.0) (lt-ltb LNS of.0 h)

listed_from : (of : Name) → is_listed of ≡ true → IsListed of
listed_from of h = by (or_cases (of.0 == UNIVERSAL || of.0 == PROCEDURE) (nat_lt LNS of.0) h)
  where
    first : ((of.0 == UNIVERSAL) ≡ true) ⊎ ((of.0 == PROCEDURE) ≡ true) → IsListed of
    first (inl e) = lists_universal (same_number of.0 UNIVERSAL e)
    first (inr e) = lists_procedure (same_number of.0 PROCEDURE e)

    by : ((of.0 == UNIVERSAL || of.0 == PROCEDURE) ≡ true) ⊎ (nat_lt LNS of.0 ≡ true) → IsListed of
    by (inl e) = first (or_cases (of.0 == UNIVERSAL) (of.0 == PROCEDURE) e)
    by (inr e) = lists_declared (ltb-true LNS of.0 e)

pub listed : Agrees IsListed is_listed
listed = record { yes = listed_yes; from = listed_from }

pub same_is : (a b : ℕ) → a ≡ b → (a == b) ≡ true
same_is a b h = grind (arith, nat_tests)

pub of_type : (n : ℕ) → Agrees (IsType n) (is_of_type n)
of_type n = record { yes = λ of e. same_is of.0 n e; from = λ of h. same_number of.0 n h }

-- what no program creates
pub created_ok : (of : Name) → (IsUncreated of → ⊥) → can_be_created of ≡ true
created_ok of h = ap not (not_true (of.0 == PROCEDURE || of.0 == PROCESS || of.0 == LNS) (λ e. h (by (or_cases (of.0 == PROCEDURE || of.0 == PROCESS) (of.0 == LNS) e))))
  where
    first : ((of.0 == PROCEDURE) ≡ true) ⊎ ((of.0 == PROCESS) ≡ true) → IsUncreated of
    first (inl e) = inl (same_number of.0 PROCEDURE e)
    first (inr e) = inr (inl (same_number of.0 PROCESS e))

    by : ((of.0 == PROCEDURE || of.0 == PROCESS) ≡ true) ⊎ ((of.0 == LNS) ≡ true) → IsUncreated of
    by (inl e) = first (or_cases (of.0 == PROCEDURE) (of.0 == PROCESS) e)
    by (inr e) = inr (inr (same_number of.0 LNS e))

pub created_err : (of : Name) → IsUncreated of → can_be_created of ≡ false
created_err of (inl e) = rw e refl
created_err of (inr (inl e)) = rw e refl
created_err of (inr (inr e)) = rw e refl

-- ---- targets

module _ (s : State) (inc : Inc) (path : List ℕ) {types : Name → Type 0} (test : Name → Bool) (agrees : Agrees types test) (rights : ℕ) {needed : List ℕ}
    (same : rights_of rights ≡ needed) where
  abbrev tests : Cap → Result Cap Refusal
  tests cap = unless (test (object s cap.name).of) (refused.WrongType (last_step path)) >> (allowed cap.rights rights (last_step path) >> Ok cap)

  abbrev onward : Entry → Result Cap Refusal
  onward entry = held entry (last_step path) >>= tests

  passed : (b : Bool) → b ≡ true → unless b (refused.WrongType (last_step path)) ≡ Ok tt
  passed b e = rw e refl

  failed : (b : Bool) → b ≡ false → unless b (refused.WrongType (last_step path)) ≡ Err (refused.WrongType (last_step path))
  failed b e = rw e refl

  pub target_ok : {cap : Cap} → Target s inc path types needed cap → target s inc path test rights ≡ Ok cap
  target_ok {cap} t =
      ok_then onward (leads_walk s inc t.leads) (ok_and (allowed cap.rights rights (last_step path) >> Ok cap)
      (passed (test (object s cap.name).of) (agrees.yes (object s cap.name).of t.typed))
      (ok_and (Ok cap) (allowed_ok cap.rights rights (last_step path) needed same t.permits) refl))

  pub target_err : {refusal : Refusal} → NoTarget s inc path types needed refusal → target s inc path test rights ≡ Err refusal
  target_err (nowhere n) = err_then onward (nowhere_walk s inc n)
  target_err (nothing l) = ok_then onward (leads_walk s inc l) refl
  target_err (no_capability l) = ok_then onward (leads_walk s inc l) refl
  target_err (other_type {cap = cap} l other) =
      ok_then onward (leads_walk s inc l) (err_and (allowed cap.rights rights (last_step path) >> Ok cap)
      (failed (test (object s cap.name).of) (not_true (test (object s cap.name).of) (λ e. other (agrees.from (object s cap.name).of e)))))
  target_err (denied {cap = cap} {right = right} l typed lacks) =
      ok_then onward (leads_walk s inc l) (ok_and (allowed cap.rights rights (last_step path) >> Ok cap)
      (passed (test (object s cap.name).of) (agrees.yes (object s cap.name).of typed))
      (err_and (Ok cap) (allowed_err cap.rights rights (last_step path) needed right same lacks)))

-- ---- slots and entries

pub slot_ok : (slot : Slot) (step : ℕ) → IsSlot slot.0 → slot_at slot step ≡ Ok slot.0
slot_ok slot step h = rw (lt-ltb slot.0 slot_limit h) refl

pub slot_err : (slot : Slot) (step : ℕ) → IsNoSlot slot.0 → slot_at slot step ≡ Err (refused.Range step)
slot_err slot step h = rw (le-ltb slot.0 slot_limit h) refl

pub not_empty_ok : (entry : Entry) (step : ℕ) → (entry ≡ Empty → ⊥) → not_empty entry step ≡ Ok entry
not_empty_ok Empty step h = absurd (h refl)
not_empty_ok (Held cap) step h = refl
not_empty_ok (Form form) step h = refl

pub storable_ok : {entry : Entry} (step : ℕ) → IsStorable entry → storable entry step ≡ Ok entry
storable_ok step stores_template = refl
storable_ok step (stores_capability {cap = cap} h) = ok_and (Ok (Held cap)) (allowed_ok cap.rights ENV step (env_right ∷ []) env_only (has_one cap.rights env_right h)) refl

pub storable_err : {entry : Entry} {refusal : Refusal} {step : ℕ} → NotStorable step entry refusal → storable entry step ≡ Err refusal
storable_err stores_nothing = refl
storable_err {step = step} (kept_local {cap = cap} h) = err_and (Ok (Held cap)) (allowed_err cap.rights ENV step (env_right ∷ []) env_right env_only (this h))

pub held_err : {entry : Entry} {refusal : Refusal} {step : ℕ} → NoCapability step entry refusal → held entry step ≡ Err refusal
held_err is_nothing = refl
held_err is_template = refl

pub create_err : {entry : Entry} {refusal : Refusal} {step : ℕ} → IsNoCreate step entry refusal → create_form entry step ≡ Err refusal
create_err creates_nothing = refl
create_err creates_capability = refl
create_err creates_amplify = refl

pub amplify_err : {entry : Entry} {refusal : Refusal} {step : ℕ} → IsNoAmplify step entry refusal → amplify_form entry step ≡ Err refusal
amplify_err amplifies_nothing = refl
amplify_err amplifies_capability = refl
amplify_err amplifies_create = refl

-- ---- merges

-- on one right: what the template gives but the special rights that are lacked, in the two ways to say it
merge_of : (g s a r : Bool) → s ≡ (s && a) → (g && (a && not (s && (a && not r)))) ≡ ((g && (a && not s)) || ((g && s) && r))
merge_of true true true true e = refl
merge_of true true true false e = refl
merge_of true true false r e = absurd (cc)
merge_of true false true r e = refl
merge_of true false false r e = refl
merge_of false s a r e = refl

special_all : (n : ℕ) → has special_rights n ≡ (has special_rights n && has all_rights n)
special_all n = has-bit_and special_rights all_rights n

merged_by_type : (rights give : ℕ) (of : Name) → minus give (minus special_rights rights) ≡ merged_rights rights (Some of) give
merged_by_type rights give of = same_rights (minus give (minus special_rights rights)) (merged_rights rights (Some of) give) (λ n. left n ∙ (same n ∙ sym (right n)))
  where
    left : (n : ℕ) → has (minus give (minus special_rights rights)) n
        ≡ (has give n && (has all_rights n && not (has special_rights n && (has all_rights n && not (has rights n)))))
    left n =
        has-bit_and give (all_but (minus special_rights rights)) n ∙ ap (λ b. has give n && b)
        (has-lacking all_rights (minus special_rights rights) n ∙ ap (λ b. has all_rights n && not b)
        (has-bit_and special_rights (all_but rights) n ∙ ap (λ b. has special_rights n && b) (has-lacking all_rights rights n)))

    right : (n : ℕ) → has (merged_rights rights (Some of) give) n
        ≡ ((has give n && (has all_rights n && not (has special_rights n))) || ((has give n && has special_rights n) && has rights n))
    right n =
        has-bit_or (minus give special_rights) (bit_and (bit_and give special_rights) rights) n
        ∙ (ap (λ b. b || has (bit_and (bit_and give special_rights) rights) n) (has-bit_and give (all_but special_rights) n ∙ ap (λ b. has give n && b)
        (has-lacking all_rights special_rights n))
        ∙ ap (λ b. (has give n && (has all_rights n && not (has special_rights n))) || b)
        (has-bit_and (bit_and give special_rights) rights n ∙ ap (λ b. b && has rights n) (has-bit_and give special_rights n)))

    same : (n : ℕ)
        → (has give n && (has all_rights n && not (has special_rights n && (has all_rights n && not (has rights n)))))
        ≡ ((has give n && (has all_rights n && not (has special_rights n))) || ((has give n && has special_rights n) && has rights n))
    same n = merge_of (has give n) (has special_rights n) (has all_rights n) (has rights n) (special_all n)

-- a template that names this type, or none, matches, and one that names another does not
same_itself : (of : Name) → same_name of of ≡ true
same_itself of = grind (arith, nat_tests)

other_fails : (form : Param) (of : Name) → NamesOther form of → matches form.of of ≡ false
other_fails form of h = ap (λ o. matches o of) h.names ∙ not_true (same_name h.type of) (λ e. h.other (name_same h.type of e))

else_matches : (form : Param) (of : Name) → (NamesOther form of → ⊥) → matches form.of of ≡ true
else_matches form of h = by form.of refl
  where
    test : (type : Name) → form.of ≡ Some type → (b : Bool) → same_name type of ≡ b → b ≡ true
    test type names true e = refl
    test type names false e =
        absurd (h (record { type = type; names = names; other = λ same. true≢false (sym (same_itself of) ∙ (ap (λ t. same_name t of) (sym same) ∙ e)) }))

    by : (o : Option Name) → form.of ≡ o → matches o of ≡ true
    by None names = refl
    by (Some type) names = test type names (same_name type of) refl

if_matches : (b : Bool) (step : ℕ) → b ≡ true → unless b (refused.WrongType step) ≡ Ok tt
if_matches b step e = rw e refl

if_other : (b : Bool) (step : ℕ) → b ≡ false → unless b (refused.WrongType step) ≡ Err (refused.WrongType step)
if_other b step e = rw e refl

abbrev merged_cap : Cap → Param → Cap
merged_cap cap form = record { name = cap.name; rights = merged_rights cap.rights form.of form.give }

pub merged_ok : {cap new : Cap} {of : Name} {form : Param} (step : ℕ) → Merges cap of form new → merged cap of form step ≡ Ok new
merged_ok {cap} {of = of} step (by_its_type {check = check} {give = give} h) =
    ok_and (allowed cap.rights check step >> Ok (merged_cap cap (record { of = Some of; check = check; give = give }))) (if_matches (same_name of of) step (same_itself of))
    (ok_and (Ok (merged_cap cap (record { of = Some of; check = check; give = give }))) (allowed_ok cap.rights check step (rights_of check) refl h)
    (ap (λ n. Ok (record cap { rights = n })) (sym (merged_by_type cap.rights give of))))
merged_ok {cap} step (by_any_type {check = check} {give = give} h) =
    ok_and (Ok (merged_cap cap (record { of = None; check = check; give = give }))) (allowed_ok cap.rights check step (rights_of check) refl h) refl

pub merged_err : {cap : Cap} {of : Name} {form : Param} {step : ℕ} {refusal : Refusal} → NoMerge step cap of form refusal → merged cap of form step ≡ Err refusal
merged_err {cap} {of} {form} {step} (merge_other h) =
    err_and (allowed cap.rights form.check step >> Ok (merged_cap cap form)) (if_other (matches form.of of) step (other_fails form of h))
merged_err {cap} {of} {form} {step} (merge_denied {right = right} h lacks) =
    ok_and (allowed cap.rights form.check step >> Ok (merged_cap cap form)) (if_matches (matches form.of of) step (else_matches form of h))
    (err_and (Ok (merged_cap cap form)) (allowed_err cap.rights form.check step (rights_of form.check) right refl lacks))
