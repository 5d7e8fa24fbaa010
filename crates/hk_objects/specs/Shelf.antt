-- The table of slots, as contracts see it.
use Rattle.std.specs.Prelude.{◌≡◌, ℕ, ◌<◌, List, [], length, Option, Some, None}
use Rattle.hk_model.specs.declared.names.Name.{Name}
use Rattle.hk_model.specs.declared.entries.Entry.{Entry}
use Rattle.hk_model.specs.declared.entries.Param.{Param}
use Rattle.hk_objects.specs.declared.body.Body.{Body}
use Rattle.hk_objects.specs.declared.body.Procedure.{Procedure}
use Rattle.hk_objects.specs.Slots.{name_at, AreApart}

pub record Shelf : Type 0 where
  -- each slot is free, or has a name with what its object is
  pub slots : List (Option (Name × Body))
  -- the name that the next object takes
  pub next : Name

-- an object of this type with these lists, with no tokens and no code
abbrev pub new_body : Name → List ℕ → List Entry → Body
new_body of words entries = record { of = of; words = words; entries = entries; count = 0; procedure = None }

-- what has no code has no parameter templates
abbrev pub code_of : Option Procedure → Option ℕ
code_of None = None
code_of (Some procedure) = Some procedure.code

abbrev pub params_of : Option Procedure → List Param
params_of None = []
params_of (Some procedure) = procedure.params

-- no two slots have one name, all names are below the next one, and there are 65,536 slots
pub record IsShelf (slots : List (Option (Name × Body))) (next : Name) : Type 0 where
  pub apart : AreApart slots
  pub below : (slot : ℕ) (name : Name) → name_at slots slot ≡ Some name → name.0 < next.0
  pub room : length slots ≡ 65536
