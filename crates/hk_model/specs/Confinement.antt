-- The confinement law and the closed-call law. An object that does not stand at a moment has no list there.
-- docs/RULES.md, "Reaches".
use Rattle.std.specs.Prelude.{◌≡◌, ◌⊎◌, ℕ, true, false, List, Some, slice_get}
use Rattle.hk_model.specs.declared.names.Name.{Name}
use Rattle.hk_model.specs.declared.names.Inc.{Inc}
use Rattle.hk_model.specs.declared.entries.Cap.{Cap}
use Rattle.hk_model.specs.declared.entries.Entry.{Entry}
use Rattle.hk_model.specs.declared.entries.Entry.TheVariants.{Held}
use Rattle.hk_model.specs.declared.lines.Line.{Line}
use Rattle.hk_rights.specs.Rights.{has, modify_right, unconf_right}
use Rattle.hk_model.specs.WorldValue.{WorldValue}
use Rattle.hk_model.specs.State.{incarnation}
use Rattle.hk_model.specs.Running.{state_at}
use Rattle.hk_model.specs.Lines.{changed}
use Rattle.hk_model.specs.Under.{IsCall, is_under, is_made_under, parameters}
use Rattle.hk_model.specs.Reaches.{IsModifiable}

-- the call begins at moment k, and is confined
pub record IsConfinedCall (w : WorldValue) (lines : List Line) (k : ℕ) (call : Inc) : Type 0 where
  pub is : IsCall w lines k call
  pub confined : (incarnation (state_at w lines k) call).confined ≡ true

-- the line at a moment, by an incarnation under the call, changes the object
pub record IsChange (w : WorldValue) (lines : List Line) (k : ℕ) (call : Inc) (moment : ℕ) (name : Name) : Type 0 where
  pub line : Line
  pub is : slice_get lines moment ≡ Some line
  pub under : is_under w lines k call line.inc ≡ true
  pub changes : changed (state_at w lines moment) line ≡ Some name

-- the confinement law: each object that a line under a confined call changes was made under it, or is in its modifiable
-- reach at the moment before that line
abbrev pub ConfinementLaw : WorldValue → List Line → Type 0
ConfinementLaw w lines =
    (k : ℕ) (call : Inc) → IsConfinedCall w lines k call
    → (moment : ℕ) (name : Name) → IsChange w lines k call moment name
    → (is_made_under w lines k call name ≡ true) ⊎ IsModifiable w lines k call moment name

-- no merged parameter has MODIFY or UNCONF
abbrev pub AreClosed : List Entry → Type 0
AreClosed params =
    (param : ℕ) (cap : Cap) → slice_get params param ≡ Some (Held cap)
    → (has cap.rights modify_right ≡ false) × (has cap.rights unconf_right ≡ false)

-- the closed-call law: where no merged parameter of a confined call has MODIFY or UNCONF, each such object was made under it
abbrev pub ClosedCallLaw : WorldValue → List Line → Type 0
ClosedCallLaw w lines =
    (k : ℕ) (call : Inc) → IsConfinedCall w lines k call → AreClosed (parameters w lines k call)
    → (moment : ℕ) (name : Name) → IsChange w lines k call moment name
    → is_made_under w lines k call name ≡ true
