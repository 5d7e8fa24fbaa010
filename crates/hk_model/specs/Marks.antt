-- The marks of what descends from a parameter without ENV, and the environment law. docs/RULES.md, "Marks".
use Rattle.std.specs.Prelude.{◌≡◌, ℕ, ◌≤◌, Bool, true, false, not, ◌&&◌, ◌||◌, List, take, drop, slice_get, Option, Some, None}
use Rattle.std.specs.List.{list_any}
use Rattle.hk_model.specs.declared.names.Inc.{Inc}
use Rattle.hk_model.specs.declared.entries.Cap.{Cap}
use Rattle.hk_model.specs.declared.entries.Entry.TheVariants.{Held}
use Rattle.hk_model.specs.declared.lines.Line.{Line}
use Rattle.hk_rights.specs.Rights.{has, env_right}
use Rattle.hk_model.specs.WorldValue.{WorldValue}
use Rattle.hk_model.specs.State.{State}
use Rattle.hk_model.specs.Running.{machine_at, state_at}
use Rattle.hk_model.specs.Places.{Place, SlotOf, EntryOf, same_place, standing, is_empty, passed, named_by}
use Rattle.hk_model.specs.Lines.{told}
use Rattle.hk_model.specs.Ways.{Way, Walked, Stored, Lessened, Merged, Inherited, Copied, CopyOf, Created, Formed, Emptied, line_way}
use Rattle.hk_model.specs.Under.{IsCall, is_live, is_under_by, parameters}

-- the walk passed a marked place
abbrev pub passes_mark : State → Inc → (Place → Bool) → List ℕ → Bool
passes_mark s inc marks path = list_any marks (passed s inc path)

-- which ways mark the place that they write: a Load whose walk passed a marked place; what comes from a marked slot; the
-- capability for a copy, and an entry of it, where the walk passed a marked place or that entry was marked
abbrev pub carries : State → Inc → (Place → Bool) → Way → Bool
carries s inc marks (Walked path) = passes_mark s inc marks path
carries s inc marks (Stored slot) = marks (SlotOf inc slot)
carries s inc marks (Lessened slot keep) = marks (SlotOf inc slot)
carries s inc marks (Merged slot form) = marks (SlotOf inc slot)
carries s inc marks (Inherited procedure index confined) = false
carries s inc marks (Copied path index) = passes_mark s inc marks path || marks (EntryOf (named_by s inc path) index)
carries s inc marks (CopyOf path) = passes_mark s inc marks path
carries s inc marks (Created path) = false
carries s inc marks (Formed path kind) = false
carries s inc marks Emptied = false

-- what is marked by the ways of the places that are written, and elsewhere as before
abbrev pub marked_by : State → Inc → (Place → Bool) → Option Way → Place → Bool
marked_by s inc marks None p = marks p
marked_by s inc marks (Some way) p = carries s inc marks way

-- what is marked after one more line: nothing where nothing stands
abbrev pub mark : State → Line → State → (Place → Bool) → (Place → Bool)
mark s line t marks p = not (is_empty (standing t p)) && marked_by s line.inc marks (line_way s line p) p

-- what is marked at a moment for a parameter of the call that begins at moment k, where its slot alone is marked
abbrev pub marks : WorldValue → List Line → ℕ → Inc → ℕ → ℕ → Place → Bool
marks w lines k call slot moment =
    told mark w (machine_at w lines k) (drop k (take moment lines)) (λ p. same_place p (SlotOf call slot))

-- the slot holds a merged parameter of the call that begins at moment k, without ENV
pub record IsLocalParam (w : WorldValue) (lines : List Line) (k : ℕ) (call : Inc) (slot : ℕ) : Type 0 where
  pub is : IsCall w lines k call
  pub cap : Cap
  pub holds : slice_get (parameters w lines k call) slot ≡ Some (Held cap)
  pub lacks : has cap.rights env_right ≡ false

-- the place is a slot of a live incarnation under the call
abbrev pub IsSlotUnder : WorldValue → List Line → ℕ → Inc → ℕ → Place → Type 0
IsSlotUnder w lines k call moment (SlotOf inc n) =
    (is_live (state_at w lines moment) inc ≡ true) × (is_under_by w lines k call moment inc ≡ true)
IsSlotUnder w lines k call moment (EntryOf name index) = ⊥

-- each marked place is a slot of a live incarnation under the call, and none is marked once the call has gone
pub record StaysUnder (w : WorldValue) (lines : List Line) (k : ℕ) (call : Inc) (slot moment : ℕ) : Type 0 where
  pub under : (p : Place) → marks w lines k call slot moment p ≡ true → IsSlotUnder w lines k call moment p
  pub gone : is_live (state_at w lines moment) call ≡ false → (p : Place) → marks w lines k call slot moment p ≡ false

-- the environment law: a parameter without ENV stays under its call, at every moment from its beginning on
abbrev pub EnvironmentLaw : WorldValue → List Line → Type 0
EnvironmentLaw w lines =
    (k slot : ℕ) (call : Inc) → IsLocalParam w lines k call slot
    → (moment : ℕ) → k ≤ moment → StaysUnder w lines k call slot moment
