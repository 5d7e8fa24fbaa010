-- Room for one more object. docs/RULES.md, "Objects that vanish".
use Rattle.std.specs.Prelude.{◌≡◌, Bool, true, ℕ, IsTrue, Result, Ok, Err}
use Rattle.hk_model.specs.declared.names.Inc.{Inc}
use Rattle.hk_model.specs.declared.calls.Refusal.{Refusal}
use Rattle.hk_model.specs.declared.objects.Object.{Object}
use Rattle.hk_model.specs.State.{State}
use Rattle.hk_model.specs.Keeping.{rooted_objects}
use Rattle.hk_model.specs.Refusing.{◌>>=◌}
use Rattle.hk_model.specs.Rule.{Outcome, has_room, room_made}
use Rattle.hk_table.specs.Additions.{object_made}

-- names lead to each object, from outside or from an opening object: a collection takes none
abbrev pub AreAllRooted : State → Type 0
AreAllRooted s = rooted_objects s ≡ s.objects

-- what is known to be so is so
abbrev pub IsKnownRooted : Bool → State → Type 0
IsKnownRooted known s = IsTrue known → AreAllRooted s

-- the objects that are to stay are left, and there is room beside them; or there is none, and nothing has changed
abbrev pub MakesRoom : State → Result (Unit {0}) Refusal → State → Type 0
MakesRoom before (Ok done) after = (room_made before ≡ Ok after.objects) × (after ≡ record before { objects = after.objects }) × (has_room after.objects ≡ true)
MakesRoom before (Err refusal) after = (room_made before ≡ Err refusal) × (after ≡ before)

-- one more object beside those that stay, and a capability for it in a slot, if there is room
abbrev pub object_made_in_room : State → Inc → ℕ → Object → ℕ → Outcome
object_made_in_room s inc slot new rights = do
  room ← room_made s
  object_made s room inc slot new rights
