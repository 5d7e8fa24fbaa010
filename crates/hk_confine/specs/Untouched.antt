-- The confinement law over states, which says nothing of what a line is told to change. docs/RULES.md, "Reaches".
use Rattle.std.specs.Prelude.{◌≡◌, ◌⊎◌, ℕ, suc, true, false, List, slice_get, Some}
use Rattle.hk_model.specs.declared.names.Name.{Name}
use Rattle.hk_model.specs.declared.names.Inc.{Inc}
use Rattle.hk_model.specs.declared.lines.Line.{Line}
use Rattle.hk_model.specs.WorldValue.{WorldValue}
use Rattle.hk_model.specs.State.{State}
use Rattle.hk_model.specs.Keeping.{is_among, is_opening, names_with, stands}
use Rattle.hk_model.specs.Running.{state_at}
use Rattle.hk_model.specs.Effects.{there}
use Rattle.hk_model.specs.Under.{is_made_under, is_under}
use Rattle.hk_model.specs.Reaches.{IsModifiable}
use Rattle.hk_model.specs.Confinement.{IsConfinedCall}

-- an object that a call made has gone, and nothing names it: no slot of a live incarnation, no waiting process and no object that
-- stands
pub record HasGone (before after : State) (name : Name) : Type 0 where
  pub stood : stands before name ≡ true
  pub made : is_opening before name ≡ false
  pub gone : stands after name ≡ false
  pub unnamed : is_among name (names_with after after.objects) ≡ false

-- the object, with all its parts, is after a line as it was before, or was there neither time; or it has gone
abbrev pub IsUntouched : State → State → Name → Type 0
IsUntouched before after name = (there after.objects name ≡ there before.objects name) ⊎ HasGone before after name

-- the line at a moment is by an incarnation under the call
pub record IsLineUnder (w : WorldValue) (lines : List Line) (k : ℕ) (call : Inc) (moment : ℕ) : Type 0 where
  pub line : Line
  pub is : slice_get lines moment ≡ Some line
  pub under : is_under w lines k call line.inc ≡ true

-- the law: each line under a confined call leaves as it was, or lets go, every object that no line makes under the call, and that is
-- not in its modifiable reach at the moment before the line
abbrev pub UntouchedLaw : WorldValue → List Line → Type 0
UntouchedLaw w lines =
    (k : ℕ) (call : Inc) → IsConfinedCall w lines k call
    → (moment : ℕ) → IsLineUnder w lines k call moment
    → (name : Name) → is_made_under w lines k call name ≡ false → (IsModifiable w lines k call moment name → ⊥)
    → IsUntouched (state_at w lines moment) (state_at w lines (suc moment)) name
