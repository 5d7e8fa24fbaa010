-- Walks by the inference rules are walks of the rule table, with the same entry or the same refusal.
use Rattle.std.proofs.Common.{◌≡◌, ℕ, ◌+◌, ◌++◌, List, [], ◌∷◌, length, Bool, true, false, ◌&&◌, Result, Ok, Err, refl, sym, ◌∙◌, ap, arith, bit_and}
use Rattle.std.proofs.lemmas.List.Elements.{All-cons, All-nil}
use Rattle.hk_model.specs.declared.names.Inc.{Inc}
use Rattle.hk_model.specs.declared.entries.Cap.{Cap}
use Rattle.hk_model.specs.declared.entries.Template.{Template}
use Rattle.hk_model.specs.declared.entries.Entry.{Entry}
use Rattle.hk_model.specs.declared.entries.Entry.TheVariants.{Empty, Held, Form}
use Rattle.hk_model.specs.declared.calls.Refusal.{Refusal}
use Rattle.hk_model.specs.declared.calls.Refusal.TheVariants as refused
use Rattle.hk_rights.specs.Rights.{LOAD, MODIFY, ENV, UNCONF, has, all_but, load_right, env_right, right_numbers, right_table}
use Rattle.hk_rights.proofs.Sets.{same_rights, has-bit_and}
use Rattle.hk_model.specs.State.{State, object, incarnation}
use Rattle.hk_model.specs.Refusing.{◌>>=◌, item_at}
use Rattle.hk_model.specs.Walking.{walk, walk_on, hop_on, obtained, reduced_rights}
use Rattle.hk_model.specs.Judgments.{Has, Lacks, HasEach, this, rights_of, IsAt, IsPastEnd, Reduction, unreduced, without_env, without_unconf, without_both}
use Rattle.hk_model.specs.Judgments.{Obtains, obtains_nothing, obtains_template, obtains_capability, Leads, at_slot, one_more, end_step}
use Rattle.hk_model.specs.Judgments.{LeadsNowhere, no_path, no_slot, stopped, from_nothing, from_template, without_load, past_end, template_without_env}
use Rattle.hk_model.proofs.TestsAgree.{ok_then, ok_and, err_then, err_and, allowed_ok, allowed_err, item_ok, item_err}

-- ---- rights

-- one right, and two
pub has_one : (rights a : ℕ) → Has rights a → HasEach rights (a ∷ [])
has_one rights a h = All-cons (Has rights) a [] h (All-nil (Has rights))

-- LOAD, and ENV, are tests of one right
pub load_only : rights_of LOAD ≡ load_right ∷ []
unfolding right_numbers right_table
load_only = refl

pub env_only : rights_of ENV ≡ env_right ∷ []
unfolding right_numbers right_table
env_only = refl

and_three : (x y z : Bool) → ((x && y) && z) ≡ (x && (y && z))
and_three true y z = refl
and_three false y z = refl

-- what two sets are taken from by one set
pub bit_and_three : (a b c : ℕ) → bit_and (bit_and a b) c ≡ bit_and a (bit_and b c)
bit_and_three a b c = same_rights (bit_and (bit_and a b) c) (bit_and a (bit_and b c)) (λ n.
    rw (has-bit_and (bit_and a b) c n, has-bit_and a b n, has-bit_and a (bit_and b c) n, has-bit_and b c n) (and_three (has a n) (has b n) (has c n)))

-- a reduction leaves what the rule table leaves
pub reduction_is : {by rights left : ℕ} → Reduction by rights left → left ≡ reduced_rights by rights
reduction_is (unreduced u e) = rw (u, e) refl
reduction_is (without_env u e) = rw (u, e) refl
reduction_is (without_unconf u e) = rw (u, e) refl
reduction_is {rights = rights} (without_both u e) = sym (bit_and_three rights (all_but (MODIFY + UNCONF)) (all_but ENV)) ∙ rw (u, e) refl

-- ---- one hop

-- what is obtained is obtained by the rule table
obtained_ok : {by : ℕ} {next entry : Entry} (step : ℕ) → Obtains by next entry → obtained by next step ≡ Ok entry
obtained_ok step obtains_nothing = refl
obtained_ok {by} step (obtains_template {form = form} h) = ok_and (Ok (Form form)) (allowed_ok by ENV step (env_right ∷ []) env_only (has_one by env_right h)) refl
obtained_ok step (obtains_capability {cap = cap} r) = ap (λ n. Ok (Held (record cap { rights = n }))) (sym (reduction_is r))

module _ (s : State) where
  -- a hop that leads on, and the four that do not
  hop_ok : (cap : Cap) (at step : ℕ) {next entry : Entry} → Has cap.rights load_right → IsAt (object s cap.name).entries at next → Obtains cap.rights next entry
      → hop_on s (Held cap) at step ≡ Ok entry
  hop_ok cap at step {next} load is ob =
      ok_and (item_at (object s cap.name).entries at (step + 1) >>= (λ x. obtained cap.rights x step))
      (allowed_ok cap.rights LOAD step (load_right ∷ []) load_only (has_one cap.rights load_right load))
      (ok_then (λ x. obtained cap.rights x step) (item_ok (object s cap.name).entries at (step + 1) next is) (obtained_ok step ob))

  hop_load : (cap : Cap) (at step : ℕ) → Lacks cap.rights load_right → hop_on s (Held cap) at step ≡ Err (refused.Denied step load_right)
  hop_load cap at step lacks =
      err_and (item_at (object s cap.name).entries at (step + 1) >>= (λ x. obtained cap.rights x step))
      (allowed_err cap.rights LOAD step (load_right ∷ []) load_right load_only (this lacks))

  hop_past : (cap : Cap) (at step : ℕ) → Has cap.rights load_right → IsPastEnd (object s cap.name).entries at
      → hop_on s (Held cap) at step ≡ Err (refused.Range (step + 1))
  hop_past cap at step load past =
      ok_and (item_at (object s cap.name).entries at (step + 1) >>= (λ x. obtained cap.rights x step))
      (allowed_ok cap.rights LOAD step (load_right ∷ []) load_only (has_one cap.rights load_right load))
      (err_then (λ x. obtained cap.rights x step) (item_err (object s cap.name).entries at (step + 1) past))

  hop_form : (cap : Cap) (at step : ℕ) {form : Template} → Has cap.rights load_right → IsAt (object s cap.name).entries at (Form form) → Lacks cap.rights env_right
      → hop_on s (Held cap) at step ≡ Err (refused.Denied step env_right)
  hop_form cap at step {form} load is lacks =
      ok_and (item_at (object s cap.name).entries at (step + 1) >>= (λ x. obtained cap.rights x step))
      (allowed_ok cap.rights LOAD step (load_right ∷ []) load_only (has_one cap.rights load_right load))
      (ok_then (λ x. obtained cap.rights x step) (item_ok (object s cap.name).entries at (step + 1) (Form form) is)
      (err_and (Ok (Form form)) (allowed_err cap.rights ENV step (env_right ∷ []) env_right env_only (this lacks))))

  -- ---- one hop more at the end

  then_ok : {A : Type 0} (r : Result A Refusal) → (r >>= (λ x. Ok x)) ≡ r
  then_ok (Ok x) = refl
  then_ok (Err e) = refl

  on_more : (entry : Entry) (path : List ℕ) (at step last : ℕ) → last ≡ step + length path
      → walk_on s entry (path ++ at ∷ []) step ≡ (walk_on s entry path step >>= (λ next. hop_on s next at last))
  on_more entry [] at step last e =
      let same : last ≡ step = omega (arith, e) in
      rw same (then_ok (hop_on s entry at step))
  on_more entry (x ∷ rest) at step last e = by (hop_on s entry x step) (λ next. on_more next rest at (step + 1) last (omega (arith, e)))
    where
      by : (r : Result Entry Refusal)
          → ((next : Entry) → walk_on s next (rest ++ at ∷ []) (step + 1) ≡ (walk_on s next rest (step + 1) >>= (λ following. hop_on s following at last)))
          → (r >>= (λ next. walk_on s next (rest ++ at ∷ []) (step + 1))) ≡ ((r >>= (λ next. walk_on s next rest (step + 1))) >>= (λ next. hop_on s next at last))
      by (Ok next) h = h next
      by (Err refusal) h = refl

  module _ (inc : Inc) where
    -- where a path leads, one more index is one more hop
    walk_more : (path : List ℕ) (at : ℕ) (entry : Entry) → walk s inc path ≡ Ok entry → walk s inc (path ++ at ∷ []) ≡ hop_on s entry at (end_step path)
    walk_more [] at entry h = absurd (cc)
    walk_more (x ∷ rest) at entry h = by (item_at (incarnation s inc).slots x 0) h
      where
        by : (r : Result Entry Refusal) → (r >>= (λ first. walk_on s first rest 0)) ≡ Ok entry
            → (r >>= (λ first. walk_on s first (rest ++ at ∷ []) 0)) ≡ hop_on s entry at (end_step (x ∷ rest))
        by (Ok first) g = on_more first rest at 0 (end_step (x ∷ rest)) (omega arith) ∙ ap (λ q. q >>= (λ next. hop_on s next at (end_step (x ∷ rest)))) g
        by (Err refusal) g = absurd (cc)

    -- where it leads nowhere, neither does a longer one
    walk_stopped : (x : ℕ) (rest : List ℕ) (at : ℕ) (refusal : Refusal) → walk s inc (x ∷ rest) ≡ Err refusal → walk s inc (x ∷ (rest ++ at ∷ [])) ≡ Err refusal
    walk_stopped x rest at refusal h = by (item_at (incarnation s inc).slots x 0) h
      where
        by : (r : Result Entry Refusal) → (r >>= (λ first. walk_on s first rest 0)) ≡ Err refusal
            → (r >>= (λ first. walk_on s first (rest ++ at ∷ []) 0)) ≡ Err refusal
        by (Ok first) g = on_more first rest at 0 (end_step (x ∷ rest)) (omega arith) ∙ ap (λ q. q >>= (λ next. hop_on s next at (end_step (x ∷ rest)))) g
        by (Err refusal) g = g

    -- what a path leads to by the inference rules is what its walk gives
    pub leads_walk : {path : List ℕ} {entry : Entry} → Leads s inc path entry → walk s inc path ≡ Ok entry
    leads_walk (at_slot {at = at} {entry = entry} h) = ok_then (λ first. walk_on s first [] 0) (item_ok (incarnation s inc).slots at 0 entry h) refl
    leads_walk (one_more path at {cap = cap} l load is ob) = walk_more path at (Held cap) (leads_walk l) ∙ hop_ok cap at (end_step path) load is ob

    -- a path that leads somewhere has a last step
    last_of : (path : List ℕ) {entry : Entry} → walk s inc path ≡ Ok entry → end_step path + 1 ≡ length path
    last_of [] h = absurd (cc)
    last_of (x ∷ rest) h = omega arith

    -- and it leads nowhere for the cause that the walk is refused for
    pub nowhere_walk : {path : List ℕ} {refusal : Refusal} → LeadsNowhere s inc path refusal → walk s inc path ≡ Err refusal
    nowhere_walk no_path = refl
    nowhere_walk (no_slot {at = at} past) = err_then (λ first. walk_on s first [] 0) (item_err (incarnation s inc).slots at 0 past)
    nowhere_walk (stopped at next path {refusal = refusal} h) = walk_stopped at path next refusal (nowhere_walk h)
    nowhere_walk (from_nothing path at l) = walk_more path at Empty (leads_walk l)
    nowhere_walk (from_template path at {form = form} l) = walk_more path at (Form form) (leads_walk l)
    nowhere_walk (without_load path at {cap = cap} l lacks) = walk_more path at (Held cap) (leads_walk l) ∙ hop_load cap at (end_step path) lacks
    nowhere_walk (past_end path at {cap = cap} l load past) =
        let walked = leads_walk l in
        walk_more path at (Held cap) walked ∙ (hop_past cap at (end_step path) load past ∙ ap (λ n. Err (refused.Range n)) (last_of path walked))
    nowhere_walk (template_without_env path at {cap = cap} l load is lacks) =
        walk_more path at (Held cap) (leads_walk l) ∙ hop_form cap at (end_step path) load is lacks
