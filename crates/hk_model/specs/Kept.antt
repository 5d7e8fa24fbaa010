-- The law of kept objects. docs/RULES.md, "Objects that vanish".
use Rattle.std.specs.Prelude.{◌≡◌, ◌↔◌, ℕ, Bool, true, List}
use Rattle.hk_model.specs.declared.names.Name.{Name}
use Rattle.hk_model.specs.declared.lines.Line.{Line}
use Rattle.hk_model.specs.WorldValue.{WorldValue}
use Rattle.hk_model.specs.State.{State}
use Rattle.hk_model.specs.Keeping.{AreKept, stands, supports}
use Rattle.hk_model.specs.Running.{state_at}

-- the set of all names
abbrev pub everything : Name → Bool
everything name = true

-- all that stand are the greatest supported set; and what they support stands, so nothing names an object that does not stand
pub record StandsAsNamed (s : State) : Type 0 where
  pub kept : AreKept s everything
  pub exactly : (name : Name) → (stands s name ≡ true) ↔ (supports s everything name ≡ true)

-- at every moment exactly the kept objects stand, and an object stands exactly where it opened with the world, or is named by a
-- slot of a live incarnation, by a waiting process or by an object that stands
abbrev pub KeptLaw : WorldValue → List Line → Type 0
KeptLaw w lines = (moment : ℕ) → StandsAsNamed (state_at w lines moment)
