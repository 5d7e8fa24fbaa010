-- What comes of a capability without ENV has no ENV, by a walk, a copy, a merge or a reduction.
use Rattle.std.proofs.Common.{◌≡◌, ℕ, List, ◌∷◌, false, Ok, refl, sym, ◌∙◌}
use Rattle.std.specs.Prelude.{IfOk}
use Rattle.std.proofs.lemmas.Bool.{true≢false}
use Rattle.hk_model.specs.declared.names.Name.{Name}
use Rattle.hk_model.specs.declared.names.Inc.{Inc}
use Rattle.hk_model.specs.declared.entries.Cap.{Cap}
use Rattle.hk_model.specs.declared.entries.Param.{Param}
use Rattle.hk_model.specs.declared.entries.Entry.{Entry}
use Rattle.hk_model.specs.declared.entries.Entry.TheVariants.{Empty, Held, Form}
use Rattle.hk_rights.specs.Rights.{ENV, has, env_right}
use Rattle.hk_model.specs.State.{State}
use Rattle.hk_model.specs.Refusing.{allowed}
use Rattle.hk_model.specs.Walking.{walk, obtained}
use Rattle.hk_model.specs.Merging.{merged}
use Rattle.hk_model.specs.Rule.{copied}
use Rattle.hk_model.specs.Places.{SlotOf, EntryOf, standing}
use Rattle.hk_model.specs.Descent.{Reduces}
use Rattle.hk_model.specs.Ways.{HasEnv}
use Rattle.hk_model.proofs.TestLemmas.{and_is, allowed_is}
use Rattle.hk_model.proofs.RightsWithin.{Within-has, reduced_lacks_env, lacks_env}
use Rattle.hk_model.proofs.WalkLemmas.{walk_keeps}
use Rattle.hk_model.proofs.MergeLemmas.{merged_has}
use Rattle.std.proofs.lemmas.Bool.{false_from_ne_true}

-- nothing, or a capability without ENV
abbrev pub NoEnv : Entry → Type 0
NoEnv Empty = Unit {0}
NoEnv (Held c) = has c.rights env_right ≡ false
NoEnv (Form t) = ⊥

-- it cannot be stored or returned
pub has_no_env : (x : Entry) → NoEnv x → HasEnv x → ⊥
has_no_env (Held c) h g = lacks_env c.rights h g
has_no_env Empty h g = g
has_no_env (Form t) h g = h

-- a reduction and a merge of it are so too
pub reduces_no_env : (from x : Entry) → NoEnv from → Reduces from x → NoEnv x
reduces_no_env from Empty h r = tt
reduces_no_env (Held a) (Held b) h r = false_from_ne_true (has b.rights env_right) (λ e. true≢false (sym (Within-has b.rights a.rights env_right r.1 refl e) ∙ h))
reduces_no_env (Held a) (Form b) h r = absurd r
reduces_no_env Empty (Held b) h r = absurd r
reduces_no_env Empty (Form b) h r = absurd r
reduces_no_env (Form t) (Held b) h r = absurd h
reduces_no_env (Form t) (Form b) h r = absurd h

pub merged_no_env : (cap : Cap) (of : Name) (form : Param) (step : ℕ) (new : Cap) → merged cap of form step ≡ Ok new → NoEnv (Held cap) → NoEnv (Held new)
merged_no_env cap of form step new e h = false_from_ne_true (has new.rights env_right) (λ g. true≢false (sym (merged_has cap of form step new env_right e refl refl g) ∙ h))

obtained_no_env : (by : ℕ) (next : Entry) (step : ℕ) → has by env_right ≡ false → IfOk (obtained by next step) NoEnv
obtained_no_env by Empty step h = tt
obtained_no_env by (Held c) step h = reduced_lacks_env by c.rights h
obtained_no_env by (Form t) step h = and_is NoEnv (allowed by ENV step) (Ok (Form t)) (λ u a. absurd (lacks_env by h (allowed_is by ENV step u a)))

-- a walk from a slot without ENV gives nothing with ENV
pub walk_no_env : (s : State) (inc : Inc) (at : ℕ) (rest : List ℕ) (x : Entry) → NoEnv (standing s (SlotOf inc at)) → walk s inc (at ∷ rest) ≡ Ok x → NoEnv x
walk_no_env s inc at rest x h e =
    (walk_keeps s (λ place y. NoEnv y) (λ place c i step load k. obtained_no_env c.rights (standing s (EntryOf c.name i)) step k) inc at rest x h e).1

-- nothing is left in a copy
pub copied_no_env : (cap : Cap) (e : Entry) → NoEnv (Held cap) → copied cap.rights e ≡ Empty
copied_no_env cap Empty h = refl
copied_no_env cap (Form t) h = rw h refl
copied_no_env cap (Held c) h = rw (reduced_lacks_env cap.rights c.rights h) refl
