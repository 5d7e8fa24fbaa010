-- What the rule table finds by a path, the inference rules find: a walk, and the target of a call.
use Rattle.std.proofs.Common.{◌≡◌, ℕ, ◌+◌, List, [], ◌∷◌, ◌++◌, length, Bool, true, false, Some, Ok, refl, sym, ◌∙◌, ap, cond, subst, arith}
use Rattle.hk_model.specs.declared.names.Name.{Name}
use Rattle.hk_model.specs.declared.names.Inc.{Inc}
use Rattle.hk_model.specs.declared.entries.Cap.{Cap}
use Rattle.hk_model.specs.declared.entries.Entry.{Entry}
use Rattle.hk_model.specs.declared.entries.Template.{Template}
use Rattle.hk_model.specs.declared.entries.Entry.TheVariants.{Empty, Held, Form}
use Rattle.hk_model.specs.declared.calls.Refusal.{Refusal}
use Rattle.hk_model.specs.declared.calls.Refusal.TheVariants as refused
use Rattle.hk_rights.specs.Rights.{LOAD, MODIFY, ENV, UNCONF, has, all_but, minus, load_right, env_right, unconf_right, right_numbers, right_table}
use Rattle.hk_model.specs.State.{State, object, incarnation}
use Rattle.hk_model.specs.Refusing.{◌>>=◌, ◌>>◌, unless, allowed}
use Rattle.hk_model.specs.Walking.{walk, walk_on, hop_on, held, obtained, reduced_rights, confined_rights, local_rights}
use Rattle.hk_model.specs.Targets.{target, last_step}
use Rattle.hk_model.specs.Judgments.{Has, Lacks, HasEach, rights_of, FirstLacking, this, a_later, Reduction, unreduced, without_env, without_unconf, without_both, Obtains, obtains_nothing, obtains_template, obtains_capability}
use Rattle.hk_model.specs.Judgments.{Leads, at_slot, one_more, end_step, LeadsNowhere, no_path, no_slot, stopped, from_nothing, from_template, without_load, past_end, template_without_env}
use Rattle.hk_model.specs.Judgments.{Target, NoTarget, nowhere, nothing, no_capability, other_type, denied}
use Rattle.hk_model.proofs.TestsAgree.{Gives, gives, refuses, gives_then, gives_and, gives_as, allowed_gives, item_gives, IsMissing}
use Rattle.std.proofs.lemmas.Nat.{and_assoc}
use Rattle.std.proofs.lemmas.List.{append_assoc, append-nil, length-append}
use Rattle.hk_model.proofs.Permitted.{leads_nonempty}

-- what is left of rights is a reduction of them
two_masks : (rights : ℕ) → minus (minus rights (MODIFY + UNCONF)) ENV ≡ minus rights (MODIFY + ENV + UNCONF)
two_masks rights = and_assoc (all_but ENV) rights (all_but (MODIFY + UNCONF))

pub reduction : (by rights : ℕ) → Reduction by rights (reduced_rights by rights)
reduction by rights = each (has by unconf_right) (has by env_right) refl refl
  where
    each : (u e : Bool) → has by unconf_right ≡ u → has by env_right ≡ e
        → Reduction by rights (let kept = cond u rights (confined_rights rights) in cond e kept (local_rights kept))
    each true true f g = unreduced f g
    each true false f g = without_env f g
    each false true f g = without_unconf f g
    each false false f g = subst (Reduction by rights) (sym (two_masks rights)) (without_both f g)

-- the lists of the rights that are needed
pub load_needed : rights_of LOAD ≡ load_right ∷ []
unfolding right_numbers right_table
load_needed = refl

pub env_needed : rights_of ENV ≡ env_right ∷ []
unfolding right_numbers right_table
env_needed = refl

-- where one right is needed, it is there, or it is the one that is missing
pub one_right : (rights right : ℕ) → HasEach rights (right ∷ []) → Has rights right
one_right rights right h = h 0 right (omega arith)

none_lacking : {rights n : ℕ} {A : Type 0} → FirstLacking rights [] n → A
none_lacking h = elim h [ ]

pub one_lacking : (rights right step : ℕ) (r : Refusal) → IsMissing rights (right ∷ []) step r → Lacks rights right × (r ≡ refused.Denied step right)
one_lacking rights right step r m = by m.right m.first m.is
  where
    by : (n : ℕ) → FirstLacking rights (right ∷ []) n → r ≡ refused.Denied step n → Lacks rights right × (r ≡ refused.Denied step right)
    by n (this h) e = (h, e)
    by n (a_later g h) e = none_lacking h

-- a template that is not given
record NotGiven (by : ℕ) (next : Entry) (step : ℕ) (r : Refusal) : Type 0 where
  form : Template
  is : next ≡ Form form
  lacks : Lacks by env_right
  refused_so : r ≡ refused.Denied step env_right

obtained_gives : (by : ℕ) (next : Entry) (step : ℕ) → Gives (Obtains by next) (NotGiven by next step) (obtained by next step)
obtained_gives by Empty step = gives obtains_nothing
obtained_gives by (Held cap) step = gives (obtains_capability (reduction by cap.rights))
obtained_gives by (Form form) step =
    gives_and (allowed_gives by ENV step (env_right ∷ []) env_needed)
    (λ u h. gives (obtains_template (one_right by env_right h)))
    (λ r m. let l = one_lacking by env_right step r m in record { form = form; is = refl; lacks = l.0; refused_so = l.1 })

-- a test of types, and what it tells
pub record Tells (test : Name → Bool) (P : Name → Type 0) : Type 0 where
  pub yes : (of : Name) → test of ≡ true → P of
  pub no : (of : Name) → test of ≡ false → P of → ⊥

module _ (s : State) (inc : Inc) where
  -- one step further
  hop_gives : (path : List ℕ) (at : ℕ) (entry : Entry) → Leads s inc path entry
      → Gives (Leads s inc (path ++ at ∷ [])) (LeadsNowhere s inc (path ++ at ∷ [])) (hop_on s entry at (end_step path))
  hop_gives path at Empty l = refuses (from_nothing path at l)
  hop_gives path at (Form form) l = refuses (from_template path at l)
  hop_gives path at (Held cap) l =
      gives_and (allowed_gives cap.rights LOAD (end_step path) (load_right ∷ []) load_needed)
      (λ u h. let load = one_right cap.rights load_right h in gives_then (item_gives (object s cap.name).entries at (end_step path + 1))
      (λ next i. gives_as (obtained_gives cap.rights next (end_step path))
      (λ entry o. one_more path at l load i o)
      (λ r n. subst (LeadsNowhere s inc (path ++ at ∷ [])) (sym n.refused_so) (template_without_env path at l load (i ∙ ap Some n.is) n.lacks)))
      (λ r p. subst (LeadsNowhere s inc (path ++ at ∷ [])) (ap refused.Range (steps l) ∙ sym p.1) (past_end path at l load p.0)))
      (λ r m. let d = one_lacking cap.rights load_right (end_step path) r m in
      subst (LeadsNowhere s inc (path ++ at ∷ [])) (sym d.1) (without_load path at l d.0))
    where
      steps : {e : Entry} → Leads s inc path e → length path ≡ end_step path + 1
      steps h = let far = leads_nonempty s inc h in omega (arith, far)

  -- what leads nowhere leads nowhere further on
  stays_nowhere : (at : ℕ) (path rest : List ℕ) (r : Refusal) → LeadsNowhere s inc (at ∷ path) r → LeadsNowhere s inc (at ∷ (path ++ rest)) r
  stays_nowhere at path [] r h = subst (λ p. LeadsNowhere s inc (at ∷ p) r) (sym (append-nil path)) h
  stays_nowhere at path (next ∷ rest) r h =
      subst (λ p. LeadsNowhere s inc (at ∷ p) r) (append_assoc path (next ∷ []) rest) (stays_nowhere at (path ++ next ∷ []) rest r (stopped at next path h))

  further : (path : List ℕ) (at : ℕ) (rest : List ℕ) (r : Refusal) → LeadsNowhere s inc (path ++ at ∷ []) r → LeadsNowhere s inc (path ++ at ∷ rest) r
  further [] at rest r h = stays_nowhere at [] rest r h
  further (first ∷ path) at rest r h =
      subst (λ p. LeadsNowhere s inc (first ∷ p) r) (append_assoc path (at ∷ []) rest) (stays_nowhere first (path ++ at ∷ []) rest r h)

  -- the rest of a walk
  walk_on_gives : (path : List ℕ) (entry : Entry) (rest : List ℕ) → Leads s inc path entry
      → Gives (Leads s inc (path ++ rest)) (LeadsNowhere s inc (path ++ rest)) (walk_on s entry rest (end_step path))
  walk_on_gives path entry [] l = gives (subst (λ p. Leads s inc p entry) (sym (append-nil path)) l)
  walk_on_gives path entry (at ∷ rest) l =
      gives_then (hop_gives path at entry l)
      (λ next g. subst (λ n. Gives (Leads s inc (path ++ at ∷ rest)) (LeadsNowhere s inc (path ++ at ∷ rest)) (walk_on s next rest n)) (steps l)
      (subst (λ p. Gives (Leads s inc p) (LeadsNowhere s inc p) (walk_on s next rest (end_step (path ++ at ∷ [])))) (append_assoc path (at ∷ []) rest)
      (walk_on_gives (path ++ at ∷ []) next rest g)))
      (λ r h. further path at rest r h)
    where
      steps : {e : Entry} → Leads s inc path e → end_step (path ++ at ∷ []) ≡ end_step path + 1
      steps h =
          let far = leads_nonempty s inc h in
          let long = length-append path (at ∷ []) in
          omega (arith, far, long)

  -- a walk
  pub walk_gives : (path : List ℕ) → Gives (Leads s inc path) (LeadsNowhere s inc path) (walk s inc path)
  walk_gives [] = refuses no_path
  walk_gives (at ∷ rest) =
      gives_then (item_gives (incarnation s inc).slots at 0)
      (λ entry i. walk_on_gives (at ∷ []) entry rest (at_slot i))
      (λ r p. subst (LeadsNowhere s inc (at ∷ rest)) (sym p.1) (stays_nowhere at [] rest (refused.Range 0) (no_slot p.0)))

  -- ---- targets

  pub target_gives : (path : List ℕ) (test : Name → Bool) (types : Name → Type 0) (rights : ℕ) (needed : List ℕ) → Tells test types → rights_of rights ≡ needed
      → Gives (Target s inc path types needed) (NoTarget s inc path types needed) (target s inc path test rights)
  target_gives path test types rights needed tells same =
      gives_then (walk_gives path) at_entry (λ r h. nowhere h)
    where
      wanted : (cap : Cap) (b : Bool) → test (object s cap.name).of ≡ b → Leads s inc path (Held cap)
          → Gives (Target s inc path types needed) (NoTarget s inc path types needed)
          (unless b (refused.WrongType (last_step path)) >> (allowed cap.rights rights (last_step path) >> Ok cap))
      wanted cap true e l =
          let typed = tells.yes (object s cap.name).of e in
          gives_and (allowed_gives cap.rights rights (last_step path) needed same)
          (λ u h. gives (record { leads = l; typed = typed; permits = h }))
          (λ r m. subst (NoTarget s inc path types needed) (sym m.is) (denied l typed m.first))
      wanted cap false e l = refuses (other_type l (tells.no (object s cap.name).of e))

      at_entry : (entry : Entry) → Leads s inc path entry
          → Gives (Target s inc path types needed) (NoTarget s inc path types needed)
          (held entry (last_step path) >>= (λ cap. unless (test (object s cap.name).of) (refused.WrongType (last_step path)) >>
          (allowed cap.rights rights (last_step path) >> Ok cap)))
      at_entry Empty l = refuses (nothing l)
      at_entry (Form form) l = refuses (no_capability l)
      at_entry (Held cap) l = wanted cap (test (object s cap.name).of) refl l
