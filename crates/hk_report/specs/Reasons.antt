-- The changes with their reasons, from what has stood in lists, who is under which call, and the parameters of the calls.
-- docs/RULES.md, "Changes and their reasons".
use Rattle.std.specs.Prelude.{◌≡◌, ◌⊎◌, ◌+◌, ◌-◌, ◌<◌, ◌^◌, Bool, true, false, List, [], ◌∷◌, length, Option, slice_index_or}
use Rattle.std.specs.List.{AllByRecursion}
use Rattle.hk_model.specs.declared.entries.Cap.{Cap}
use Rattle.hk_model.specs.declared.names.Inc.{Inc}
use Rattle.hk_model.specs.declared.reaches.Reach.{Reach}
use Rattle.hk_model.specs.declared.reaches.Reach.TheVariants.{Made}
use Rattle.hk_model.specs.declared.reaches.Change.{Change}
use Rattle.hk_report.specs.declared.families.Begun.{Begun}
use Rattle.hk_report.specs.declared.families.BareChange.{BareChange}
use Rattle.hk_report.specs.declared.histories.History.{History}
use Rattle.hk_report.specs.Hops.{is_made}
use Rattle.hk_report.specs.Searches.{IsFound}
use Rattle.hk_report.specs.Fronts.{IsKeptFirst}

-- the parameters of a call, by its incarnation: those of the opening, of which none are kept, have the first numbers
abbrev pub params_at : List (List Begun) → List (List (Option Cap)) → Inc → List (Option Cap)
params_at families params call = slice_index_or params (call.0 - (length families - length params)) []

module _ (families : List (List Begun)) (histories : List History) (params : List (List (Option Cap))) where
  -- the reason, by whether the object was made under the call: else it is sought from both ends, or kept from the front
  abbrev pub IsReasonedBy : BareChange → Reach → Bool → Type 0
  IsReasonedBy bare reach true = reach ≡ Made
  IsReasonedBy bare reach false =
      IsFound (is_made families bare.under histories) histories bare.object (bare.moment + 1) bare.under.moment (params_at families params bare.under.call) reach
      ⊎ IsKeptFirst (is_made families bare.under histories) histories bare.under.moment (params_at families params bare.under.call) bare.object bare.moment reach

  abbrev pub IsReasoned : BareChange → Reach → Type 0
  IsReasoned bare reach = IsReasonedBy bare reach (is_made families bare.under histories bare.object)

  -- the change is this one, with its reason
  pub record IsTold (bare : BareChange) (change : Change) : Type 0 where
    pub line : change.line ≡ bare.moment + 1
    pub under : change.under ≡ bare.under.call
    pub object : change.object ≡ bare.object
    pub reason : IsReasoned bare change.reach

  abbrev pub AreTold : List BareChange → List Change → Type 0
  AreTold [] [] = Unit {0}
  AreTold (bare ∷ bares) (change ∷ changes) = IsTold bare change × AreTold bares changes
  AreTold [] (change ∷ changes) = ⊥
  AreTold (bare ∷ bares) [] = ⊥

-- their lines can be numbered
abbrev pub AreFew : List BareChange → Type 0
AreFew bares = AllByRecursion (λ (bare : BareChange). bare.moment + 1 < 2 ^ 32) bares
