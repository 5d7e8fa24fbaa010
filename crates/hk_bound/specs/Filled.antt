-- Rows while they are filled: what is added to them, which cells wait to be taken up, and how processes take from one another.
-- docs/RULES.md, "The static bound".
use Rattle.std.specs.Prelude.{◌≡◌, ℕ, ◌+◌, ◌<◌, ◌≤◌, true, false, List, [], ◌∷◌, ◌++◌, length, Option, Some, IfSome}
use Rattle.hk_rights.specs.Rights.{IsRightsWord}
use Rattle.hk_model.specs.WorldValue.{WorldValue}
use Rattle.hk_bound.specs.declared.forms.Form.{Form}
use Rattle.hk_bound.specs.declared.gaps.Gap.{Gap}
use Rattle.hk_bound.specs.declared.spreading.Grown.{Grown}
use Rattle.hk_bound.specs.Each.{Each}
use Rattle.hk_bound.specs.Columns.{name_at, cell, covers, joined, joined_rows, width_of, AreRows, RowsFollow, AreGaps}
use Rattle.hk_bound.specs.Taking.{type_of}
use Rattle.hk_bound.specs.Rules.{Passes, stores_in}
use Rattle.hk_bound.specs.Weights.{rows_weight}

-- a cell that is in the rows
pub record IsWithin (w : WorldValue) (forms : List Form) (grown : Grown) : Type 0 where
  pub process : grown.process < length w.tasks
  pub column : grown.column < width_of w forms

-- all that the rows tell follows, and the cells that wait are in them
pub record AreFilling (w : WorldValue) (forms : List Form) (rows : List (List (Option ℕ))) (grown : List Grown) : Type 0 where
  pub follow : RowsFollow w forms rows
  pub are : AreRows w forms rows
  pub within : Each (IsWithin w forms) grown

abbrev pub grown_at : Gap → ℕ → Grown
grown_at gap rights = record { process = gap.process; column = gap.column; rights = rights }

-- a cell has the rights of a gap, or it gets them and waits
pub data Fills (gap : Gap) (old new : List (List (Option ℕ))) (before after : List Grown) : Type 0 where
  Had : covers (cell old gap.process gap.column) gap.rights ≡ true → new ≡ old → after ≡ before → Fills gap old new before after
  Got : covers (cell old gap.process gap.column) gap.rights ≡ false → (rights : ℕ) → IfSome (joined (cell old gap.process gap.column) gap.rights) (λ r. IsRightsWord r)
      → new ≡ joined_rows old gap.process gap.column gap.rights → after ≡ before ++ grown_at gap rights ∷ [] → Fills gap old new before after

-- rows are filled further: for each cell that waits besides they weigh more
pub record FillsAll (w : WorldValue) (forms : List Form) (old new : List (List (Option ℕ))) (before after : List Grown) : Type 0 where
  pub filling : AreFilling w forms new after
  pub less : rows_weight old + length after ≤ rows_weight new + length before
  pub no_less : rows_weight old ≤ rows_weight new

-- what is found are gaps too
abbrev pub Gains : WorldValue → List Form → List (List (Option ℕ)) → List Gap → List Gap → Type 0
Gains w forms rows before after = AreGaps w forms rows before → AreGaps w forms rows after

-- cells that tell through which rights the process of a row takes what the process of a column stores
pub record AreWays (w : WorldValue) (forms : List Form) (ways : List (List (Option ℕ))) : Type 0 where
  pub count : length ways ≡ length w.tasks
  pub passes : (p q by : ℕ) → cell ways p q ≡ Some by → Passes w forms p q by

-- an object is added to a list if a process stores into it
pub data AddsStored (w : WorldValue) (rows : List (List (Option ℕ))) (q name : ℕ) (before after : List ℕ) : Type 0 where
  Stored : stores_in (type_of w (name_at name)) (cell rows q name) ≡ true → after ≡ before ++ name ∷ [] → AddsStored w rows q name before after
  NotStored : stores_in (type_of w (name_at name)) (cell rows q name) ≡ false → after ≡ before → AddsStored w rows q name before after
