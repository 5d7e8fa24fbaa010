-- The ways that are kept of several calls. docs/RULES.md, "Changes and their reasons".
use Rattle.std.specs.Prelude.{◌≡◌, ◌⊎◌, ℕ, Bool, List, [], ◌∷◌, ◌++◌, Option}
use Rattle.std.specs.List.{AllByRecursion, Contains}
use Rattle.hk_model.specs.declared.names.Name.{Name}
use Rattle.hk_model.specs.declared.entries.Cap.{Cap}
use Rattle.hk_model.specs.declared.reaches.Reach.{Reach}
use Rattle.hk_report.specs.declared.families.Begun.{Begun}
use Rattle.hk_report.specs.declared.fronts.Fronts.{Fronts}
use Rattle.hk_report.specs.declared.histories.History.{History}
use Rattle.hk_report.specs.Hops.{is_made}
use Rattle.hk_report.specs.Fronts.{AreFronts, IsFirst}
use Rattle.hk_report.specs.Reasons.{params_at}

-- a reach is kept for an object among the ways of a call
pub record IsFirstOf (kept : List Fronts) (begun : Begun) (wanted : Name) (moment : ℕ) (reach : Reach) : Type 0 where
  pub fronts : Fronts
  pub is : Contains kept fronts
  pub of : fronts.begun ≡ begun
  pub first : IsFirst fronts.ways.items wanted moment reach

-- the ways of one call more are kept, with those of the others, or alone
abbrev pub IsAdded : Fronts → List Fronts → List Fronts → Type 0
IsAdded fronts before after = (after ≡ before ++ fronts ∷ []) ⊎ (after ≡ fronts ∷ [])

-- the ways that matter to the reasons of one call more are kept, or nothing else than was
abbrev pub IsOneCallMore : (Name → Bool) → List History → Begun → List (Option Cap) → List Fronts → List Fronts → Type 0
IsOneCallMore made histories begun params before after =
    (after ≡ before) ⊎ ((fronts : Fronts) × (fronts.begun ≡ begun) × AreFronts made histories begun.moment params fronts.ways.items × IsAdded fronts before after)

-- the ways of each of these calls are all that matter to its reasons
abbrev pub AreFrontsOf : List (List Begun) → List History → List (List (Option Cap)) → Fronts → Type 0
AreFrontsOf families histories params fronts =
    AreFronts (is_made families fronts.begun histories) histories fronts.begun.moment (params_at families params fronts.begun.call) fronts.ways.items

abbrev pub AreKeptOf : List (List Begun) → List History → List (List (Option Cap)) → List Fronts → Type 0
AreKeptOf families histories params kept = AllByRecursion (AreFrontsOf families histories params) kept
