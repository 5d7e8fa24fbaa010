-- What stands at a place, with the place, where something does.
use Rattle.std.specs.Prelude.{ℕ, List, [], ◌∷◌, Option, Some, None}
use Rattle.hk_model.specs.declared.names.Name.{Name}
use Rattle.hk_model.specs.declared.entries.Entry.{Entry}
use Rattle.hk_model.specs.declared.entries.Entry.TheVariants as entry
use Rattle.hk_model.specs.State.{State}
use Rattle.hk_model.specs.Places as places
use Rattle.hk_model.specs.Places.{standing, object_named}
use Rattle.hk_trace.specs.declared.chains.Place.{Place}
use Rattle.hk_trace.specs.declared.chains.Standing.{Standing}
use Rattle.hk_trace.specs.Told.{told_place}

-- an entry at a place, unless it is empty
abbrev pub held_entry : Place → Entry → Option Standing
held_entry place entry.Empty = None
held_entry place (entry.Held cap) = Some (record { place = place; entry = entry.Held cap })
held_entry place (entry.Form form) = Some (record { place = place; entry = entry.Form form })

-- what stands at a place, if anything does
abbrev pub held_at : State → places.Place → Option Standing
held_at s place = held_entry (told_place place) (standing s place)

-- the object that a capability names; of a template, and of nothing, the name 0
abbrev pub name_held : Option Standing → Name
name_held None = record { 0 = 0 }
name_held (Some held) = object_named held.entry

-- what stands at each further step of a path, from the object that the last step named
abbrev pub held_along : State → Name → List ℕ → List (Option Standing)
held_along s name [] = []
held_along s name (at ∷ rest) = held_at s (places.EntryOf name at) ∷ held_along s (name_held (held_at s (places.EntryOf name at))) rest

-- what stands at the last step, from what stands at one before
abbrev pub held_last : State → Option Standing → List ℕ → Option Standing
held_last s held [] = held
held_last s held (at ∷ rest) = held_last s (held_at s (places.EntryOf (name_held held) at)) rest
