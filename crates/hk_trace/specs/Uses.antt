-- How the used places of a line are found, and their chains. docs/RULES.md, "Traced descent".
use Rattle.std.specs.Prelude.{ℕ, ◌+◌, Bool, true, false, List, [], ◌∷◌, ◌++◌, length, Option, Some, None}
use Rattle.hk_model.specs.declared.calls.Call.{Call}
use Rattle.hk_model.specs.declared.calls.Reply.{Reply}
use Rattle.hk_model.specs.State.{State}
use Rattle.hk_trace.specs.declared.chains.Standing.{Standing}
use Rattle.hk_trace.specs.declared.chains.Chain.{Chain}
use Rattle.hk_trace.specs.declared.writings.Writing.{Writing}
use Rattle.hk_trace.specs.declared.using.UsedPlace.{UsedPlace}
use Rattle.hk_trace.specs.Told.{told_standing}
use Rattle.hk_trace.specs.Used.{Looked, is_refused_before}
use Rattle.hk_trace.specs.Writings.{way_back}

-- a used place as it is found
abbrev pub told_use : State → Looked → UsedPlace
told_use s l = record { step = l.step; at = told_standing s l.place }

-- the use of what stands at a step, unless the call was refused before
abbrev pub use_of : Bool → ℕ → Option Standing → List UsedPlace
use_of refused step None = []
use_of true step (Some at) = []
use_of false step (Some at) = record { step = step; at = at } ∷ []

-- the uses of what stands at steps that count on from this one
abbrev pub uses_of : Call → Reply → ℕ → ℕ → List (Option Standing) → List UsedPlace
uses_of c reply order step [] = []
uses_of c reply order step (held ∷ rest) = use_of (is_refused_before c reply order step) step held ++ uses_of c reply order (step + 1) rest

-- the chain of a used place, found from the writings of the lines before
abbrev pub chain_found : List Writing → UsedPlace → Chain
chain_found writings u =
    record { step = u.step; at = u.at; links = (way_back writings (length writings) u.at.place).links; origin = (way_back writings (length writings) u.at.place).origin }
