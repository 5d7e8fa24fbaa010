-- What a walker remembers. docs/RULES.md, "Walks".
use Rattle.std.specs.Prelude.{◌≡◌, ◌⊎◌, ℕ, ◌-◌, List, [], ◌++◌, Contains, length, replicate, Ok, map, Some, None, Option}
use Rattle.hk_model.specs.declared.names.Name.{Name}
use Rattle.hk_model.specs.declared.entries.Cap.{Cap}
use Rattle.hk_model.specs.declared.entries.Entry.{Entry}
use Rattle.hk_model.specs.declared.entries.Entry.TheVariants.{Held}
use Rattle.hk_model.specs.declared.objects.Object.{Object}
use Rattle.hk_model.specs.State.{State}
use Rattle.hk_model.specs.Walking.{walk_on}
use Rattle.hk_objects.specs.declared.body.Body.{Body}
use Rattle.hk_objects.specs.Slots.{standing}
use Rattle.hk_objects.specs.Shelf.{code_of, params_of}
use Rattle.hk_walk.specs.declared.trail.Trail.{Trail}

-- the object that stands in a slot; who waits there is told elsewhere
abbrev pub shown : Body → Object
shown b = record { of = b.of; words = b.words; entries = b.entries; count = b.count; waiters = []; code = code_of b.procedure; params = params_of b.procedure }

abbrev pub shown_at : Option (Name × Body) → Option (Name × Object)
shown_at None = None
shown_at (Some e) = Some (e.0, shown e.1)

-- a state with these objects and nothing else, over which walks are said
abbrev pub seen : List (Option (Name × Body)) → State
seen slots = record {
  objects = standing (map shown_at slots);
  incarnations = [];
  processes = [];
  ready = [];
  next_name = record { 0 = 0 };
  next_inc = record { 0 = 0 };
  first_new = record { 0 = 0 };
  events = 0;
  limit = 0;
}

-- the indices, and zeros up to seven
abbrev pub padded : List ℕ → List ℕ
padded rest = rest ++ replicate (7 - length rest) 0

-- the key of this start and path
abbrev pub trail : Cap → List ℕ → Trail
trail from rest = record { name = from.name.0; rights = from.rights; len = length rest; rest = padded rest }

-- this start and path are remembered
abbrev pub Remembers : List (Trail × Entry) → Cap → List ℕ → Type 0
Remembers entries from rest = (v : Entry) × Contains entries (trail from rest, v)

-- each remembered pair is what the walk gives over this state
abbrev pub AreRight : State → List (Trail × Entry) → Type 0
AreRight s entries = (from : Cap) (rest : List ℕ) (v : Entry) → Contains entries (trail from rest, v) → walk_on s (Held from) rest 0 ≡ Ok v

-- no pair joined but this one
abbrev pub JoinsAtMost : Trail × Entry → List (Trail × Entry) → List (Trail × Entry) → Type 0
JoinsAtMost pair old new = (e : Trail × Entry) → Contains new e → Contains old e ⊎ (e ≡ pair)

-- no pair went
abbrev pub NoneGoes : List (Trail × Entry) → List (Trail × Entry) → Type 0
NoneGoes old new = (e : Trail × Entry) → Contains old e → Contains new e
