-- How places, what stands there, and chains are told. docs/RULES.md, "Traced descent".
use Rattle.std.specs.Prelude.{ℕ, List, [], ◌∷◌}
use Rattle.hk_model.specs.State.{State}
use Rattle.hk_model.specs.Places as places
use Rattle.hk_model.specs.Places.{standing}
use Rattle.hk_model.specs.Descent as descent
use Rattle.hk_trace.specs.declared.chains.Place.{Place}
use Rattle.hk_trace.specs.declared.chains.Place.TheVariants.{SlotOf, EntryOf}
use Rattle.hk_trace.specs.declared.chains.Standing.{Standing}
use Rattle.hk_trace.specs.declared.chains.Link.{Link}
use Rattle.hk_trace.specs.declared.chains.Origin.{Origin}
use Rattle.hk_trace.specs.declared.chains.Origin.TheVariants.{Opening, Made}
use Rattle.hk_trace.specs.declared.chains.Chain.{Chain}

-- a place of the definitions as it is told, and the other way round
abbrev pub told_place : places.Place → Place
told_place (places.SlotOf inc slot) = SlotOf inc (record { 0 = slot })
told_place (places.EntryOf name index) = EntryOf name index

abbrev pub meant : Place → places.Place
meant (SlotOf inc slot) = places.SlotOf inc slot.0
meant (EntryOf name index) = places.EntryOf name index

-- a place, with what stands there
abbrev pub told_standing : State → places.Place → Standing
told_standing s place = record { place = told_place place; entry = standing s place }

-- the links of a chain: the line of each, and the place where its entry came from, with what stood there
abbrev pub links_of : descent.Chain → List Link
links_of (descent.Opened place) = []
links_of (descent.MadeAt line by target) = []
links_of (descent.Link line place entry gate rest) = record { line = line; from = record { place = told_place place; entry = entry } } ∷ links_of rest

-- where a chain ends
abbrev pub end_of : descent.Chain → Origin
end_of (descent.Opened place) = Opening
end_of (descent.MadeAt line by target) = Made line
end_of (descent.Link line place entry gate rest) = end_of rest

-- a chain as it is told, of a place that a step of a call used
abbrev pub told_chain : ℕ → Standing → descent.Chain → Chain
told_chain step at chain = record { step = step; at = at; links = links_of chain; origin = end_of chain }
