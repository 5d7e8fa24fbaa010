-- The bounds of the processes of a world, and their text. docs/RULES.md, "The static bound", and docs/FORMATS.md, "Statuses and outputs".
use Rattle.std.specs.Prelude.{◌≡◌, ℕ, ◌+◌, List, [], ◌∷◌, ◌++◌, length, codes, slice_get, IfSome}
use Rattle.std.specs.List.{flat_map}
use Rattle.std.specs.Fmt.{decimal}
use Rattle.hk_model.specs.declared.names.Name.{Name}
use Rattle.hk_model.specs.WorldValue.{WorldValue}
use Rattle.hk_format.specs.Texts.{ended_line}
use Rattle.hk_bound.specs.Columns.{proc_at}
use Rattle.hk_bound.specs.Listed.{IsBoundOf}

-- these are the bounds of all processes, in their order
pub record AreBounds (w : WorldValue) (bounds : List (List Name)) : Type 0 where
  pub count : length bounds ≡ length w.tasks
  pub exact : (p : ℕ) → IfSome (slice_get bounds p) (λ names. IsBoundOf w (proc_at p) names)

-- `PROC OBJECT`
abbrev pub pair_text : ℕ → Name → List ℕ
pair_text proc name = ended_line (decimal proc ++ (codes " " ++ decimal name.0))

-- a line for each object of the bound of a process
abbrev pub pairs_text : ℕ → List Name → List ℕ
pairs_text proc names = flat_map (pair_text proc) names

-- the lines of the processes from this one on
abbrev pub bounds_from : ℕ → List (List Name) → List ℕ
bounds_from proc [] = []
bounds_from proc (names ∷ rest) = pairs_text proc names ++ bounds_from (proc + 1) rest

-- how many lines these are
abbrev pub pair_count : List (List Name) → ℕ
pair_count [] = 0
pair_count (names ∷ rest) = length names + pair_count rest

-- the lines of all processes, and how many there are
abbrev pub bounds_text : List (List Name) → List ℕ
bounds_text bounds = bounds_from 0 bounds ++ ended_line (codes "bound " ++ decimal (pair_count bounds))

-- the text is that of the bounds, and the status 0
abbrev pub AreTold : WorldValue → ℕ → List ℕ → Type 0
AreTold w status text = (bounds : List (List Name)) × AreBounds w bounds × (status ≡ 0) × (text ≡ bounds_text bounds)
