-- Lists whose items stand in one list, each from one place of it on up to another. docs/RULES.md, "Changes and their reasons".
use Rattle.std.specs.Prelude.{ℕ, ◌≤◌, List, map}
use Rattle.std.specs.List.{AllByRecursion, slice_range}
use Rattle.hk_report.specs.declared.lists.Place.{Place}

-- the items of a place
abbrev pub items_at : {X : Type 0} → List X → Place → List X
items_at items place = slice_range items place.start place.end

-- the lists of these places
abbrev pub lists_at : {X : Type 0} → List X → List Place → List (List X)
lists_at items places = map (items_at items) places

-- where no item stands
abbrev pub no_place : Place
no_place = record { start = 0; end = 0 }

-- a place among so many items
abbrev pub IsPlace : ℕ → Place → Type 0
IsPlace count place = (place.start ≤ place.end) × (place.end ≤ count)

abbrev pub ArePlaces : ℕ → List Place → Type 0
ArePlaces count places = AllByRecursion (IsPlace count) places
