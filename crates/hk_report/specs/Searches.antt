-- The search for the least reach, hop by hop over levels of what can be done in so many hops. docs/RULES.md, "Changes and
-- their reasons".
use Rattle.std.specs.Prelude.{◌≡◌, ℕ, zero, suc, ◌+◌, ◌<◌, ◌==◌, ◌&&◌, Bool, false, List, [], ◌∷◌, ◌++◌, Option, Some, None, if◌then◌else◌}
use Rattle.std.specs.Option.{option_and_then}
use Rattle.hk_rights.specs.Rights.{has, modify_right}
use Rattle.hk_model.specs.declared.names.Name.{Name}
use Rattle.hk_model.specs.declared.entries.Cap.{Cap}
use Rattle.hk_model.specs.declared.reaches.Hop.{Hop}
use Rattle.hk_model.specs.declared.reaches.Reach.{Reach}
use Rattle.hk_model.specs.declared.reaches.Reach.TheVariants.{Param}
use Rattle.hk_report.specs.declared.histories.History.{History}
use Rattle.hk_report.specs.declared.hops.Arrived.{Arrived}
use Rattle.hk_report.specs.declared.hops.Latest.{Latest}
use Rattle.hk_report.specs.declared.hops.Onward.{Onward}
use Rattle.hk_report.specs.declared.searching.Start.{Start}
use Rattle.hk_report.specs.Histories.{history_of}
use Rattle.hk_report.specs.Hops.{arrived_by, first_from, latest_end, next_latest}

-- a parameter is the object with MODIFY
abbrev pub is_direct_cap : Name → Cap → Bool
is_direct_cap wanted cap = cap.name.0 == wanted.0 && has cap.rights modify_right

abbrev pub is_direct : Name → Option Cap → Bool
is_direct wanted None = false
is_direct wanted (Some cap) = is_direct_cap wanted cap

-- the first one, of those from a number on
abbrev pub direct_param : Name → ℕ → List (Option Cap) → Option ℕ
direct_param wanted index [] = None
direct_param wanted index (param ∷ params) = if is_direct wanted param then Some index else direct_param wanted (index + 1) params

module _ (made : Name → Bool) (histories : List History) where
  -- the first hop from there after which the rest can be made
  abbrev pub first_onward : (Name → Latest) → Arrived → Option Onward
  first_onward level from = first_from made level from None (history_of histories from.name).spans

  -- from the object of a parameter at the beginning of the call, at moment k
  abbrev pub onward_at : ℕ → (Name → Latest) → Option Cap → Option Onward
  onward_at k level param = option_and_then (λ (cap : Cap). first_onward level (arrived_by k cap)) param

  -- the first parameter, of those from a number on, from whose object the rest can be made after a hop
  abbrev pub started : ℕ → Onward → Start
  started index onward = record { arg = index; onward = onward }

  abbrev pub first_start : ℕ → (Name → Latest) → ℕ → List (Option Cap) → Option Start
  first_start k level index [] = None
  first_start k level index (param ∷ params) = elim (onward_at k level param) [
    | Some onward ↦ Some (started index onward)
    | None ↦ first_start k level (index + 1) params
  ]

  module _ (wanted : Name) (before : ℕ) where
    -- what can be done in so many hops
    abbrev pub level_at : ℕ → Name → Latest
    level_at zero = latest_end wanted before
    level_at (suc n) = next_latest made histories (level_at n)

    abbrev pub levels_below : ℕ → List (Name → Latest)
    levels_below zero = []
    levels_below (suc n) = levels_below n ++ level_at n ∷ []

    -- the hops from there on, of so many that can be made each the first
    abbrev pub hops_down : ℕ → Arrived → List Hop
    hops_down zero from = []
    hops_down (suc n) from = elim (first_onward (level_at n) from) [ None ↦ [] | Some onward ↦ onward.hop ∷ hops_down n onward.to ]

    -- the reach that is found: of no hop, or of the fewest from some parameter
    pub record IsFoundBehind (k : ℕ) (params : List (Option Cap)) (reach : Reach) : Type 0 where
      pub left : ℕ
      pub start : Start
      pub starts : first_start k (level_at left) 0 params ≡ Some start
      pub fewest : (less : ℕ) → less < left → first_start k (level_at less) 0 params ≡ None
      pub is : reach ≡ Param start.arg (start.onward.hop ∷ hops_down left start.onward.to)

    abbrev pub IsFoundBy : ℕ → List (Option Cap) → Reach → Option ℕ → Type 0
    IsFoundBy k params reach (Some arg) = reach ≡ Param arg []
    IsFoundBy k params reach None = IsFoundBehind k params reach

    abbrev pub IsFound : ℕ → List (Option Cap) → Reach → Type 0
    IsFound k params reach = IsFoundBy k params reach (direct_param wanted 0 params)
