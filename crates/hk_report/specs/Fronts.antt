-- Ways from the parameters of a call that are found from the front, and kept for the objects to which they lead. docs/RULES.md,
-- "Changes and their reasons".
use Rattle.std.specs.Prelude.{◌≡◌, ℕ, suc, ◌+◌, ◌⊎◌, ◌&&◌, ◌||◌, Bool, true, false, not, IsTrue, List, [], ◌∷◌, ◌++◌, nat_lt, nat_le, slice_get, slice_index_or, Option, Some, None, if◌then◌else◌}
use Rattle.std.specs.List.{AllByRecursion, Contains, find}
use Rattle.hk_model.specs.declared.names.Name.{Name}
use Rattle.hk_model.specs.declared.entries.Cap.{Cap}
use Rattle.hk_model.specs.declared.reaches.Hop.{Hop}
use Rattle.hk_model.specs.declared.reaches.Hop.TheVariants as hop_by
use Rattle.hk_model.specs.declared.reaches.Reach.{Reach}
use Rattle.hk_model.specs.declared.reaches.Reach.TheVariants.{Param}
use Rattle.hk_model.specs.Changes.{reach_key, is_at_most}
use Rattle.hk_report.specs.declared.histories.Span.{Span}
use Rattle.hk_report.specs.declared.histories.History.{History}
use Rattle.hk_report.specs.declared.hops.Arrived.{Arrived}
use Rattle.hk_report.specs.declared.hops.Onward.{Onward}
use Rattle.hk_report.specs.declared.ways.Way.{Way}
use Rattle.hk_report.specs.Histories.{history_of}
use Rattle.hk_report.specs.Hops.{later, arrived_by, arrived_whole}

-- what an object has to stand good for so that a hop can be made from it: the modifiable reach for one that hands on what was
-- made under the call, the unconfined reach for one by an entry
abbrev pub stands_for : Bool → Arrived → Bool
stands_for handed there = if handed then there.modify else there.unconf

-- a hop of one of these kinds over a span, at the first moment at which it can be made
abbrev pub hop_at : Bool → ℕ → ℕ → Hop
hop_at handed index moment = if handed then hop_by.Handed index moment else hop_by.Entry index moment

abbrev pub there_by : Bool → ℕ → Cap → Arrived
there_by handed moment cap = if handed then arrived_whole moment cap else arrived_by moment cap

abbrev pub goes_over : Bool → Bool → Arrived → Span → Bool
goes_over handed made from span = stands_for handed from && ((not handed || made) && nat_lt (later from.moment span.from) span.until)

abbrev pub hop_over : Bool → Bool → Arrived → Span → Option Onward
hop_over handed made from span =
    if goes_over handed made from span
    then Some (record { hop = hop_at handed span.index (later from.moment span.from); to = there_by handed (later from.moment span.from) span.cap })
    else None

-- the order of ways is that of reaches
abbrev pub way_key : Way → List ℕ
way_key way = reach_key way.arg way.hops

abbrev pub comes_by : Way → Way → Bool
comes_by a b = is_at_most (way_key a) (way_key b)

-- a way with one hop more, and one of no hop
abbrev pub longer : Way → Onward → Way
longer way onward = record { arg = way.arg; hops = way.hops ++ onward.hop ∷ []; to = onward.to }

abbrev pub way_from : ℕ → ℕ → Cap → Way
way_from k arg cap = record { arg = arg; hops = []; to = arrived_by k cap }

-- a way has come to its object by a moment, where that stands good for hops of a kind
abbrev pub is_there : Bool → ℕ → Way → Bool
is_there handed moment way = stands_for handed way.to && nat_le way.to.moment moment

-- the first of some ways that has
abbrev pub first_there : Bool → ℕ → List Way → Option Way
first_there handed moment ways = find (is_there handed moment) ways

-- each comes before the next, or is the same
abbrev pub AreRising : List Way → Type 0
AreRising ways = (n : ℕ) (a b : Way) → slice_get ways n ≡ Some a → slice_get ways (suc n) ≡ Some b → IsTrue (comes_by a b)

-- what is kept for each object, by its name
abbrev pub ways_at : List (List Way) → Name → List Way
ways_at fronts name = slice_index_or fronts name.0 []

-- there is a way that is kept, and another does not come before it
abbrev pub IsMetBy : Way → Option Way → Type 0
IsMetBy way None = ⊥
IsMetBy way (Some first) = IsTrue (comes_by first way)

abbrev pub IsMet : List (List Way) → Way → Type 0
IsMet fronts way = (handed : Bool) → stands_for handed way.to ≡ true → IsMetBy way (first_there handed way.to.moment (ways_at fronts way.to.name))

-- so it is with a hop more, if it can be made
abbrev pub IsMetOnward : List (List Way) → Way → Option Onward → Type 0
IsMetOnward fronts way None = Unit {0}
IsMetOnward fronts way (Some onward) = IsMet fronts (longer way onward)

-- so it is with the hop of a kind over a span behind these ways, up to the first that is there when the span begins
abbrev pub AreMetOver : List (List Way) → Bool → Bool → Span → List Way → Type 0
AreMetOver fronts handed made span [] = Unit {0}
AreMetOver fronts handed made span (way ∷ ways) =
    IsMetOnward fronts way (hop_over handed made way.to span) × (is_there handed span.from way ≡ false → AreMetOver fronts handed made span ways)

abbrev pub AreMetOverAll : List (List Way) → (Name → Bool) → List Way → List Span → Type 0
AreMetOverAll fronts made ways spans = AllByRecursion (λ (span : Span). (handed : Bool) → AreMetOver fronts handed (made span.cap.name) span ways) spans

-- so it is with the ways of no hop, from the parameters from a number on
abbrev pub IsStarted : List (List Way) → ℕ → ℕ → Option Cap → Type 0
IsStarted fronts k arg None = Unit {0}
IsStarted fronts k arg (Some cap) = IsMet fronts (way_from k arg cap)

abbrev pub AreStarted : List (List Way) → ℕ → ℕ → List (Option Cap) → Type 0
AreStarted fronts k arg [] = Unit {0}
AreStarted fronts k arg (param ∷ params) = IsStarted fronts k arg param × AreStarted fronts k (arg + 1) params

-- a reach is the first way to an object, with MODIFY, that is there by a moment
abbrev pub IsFirst : List (List Way) → Name → ℕ → Reach → Type 0
IsFirst fronts wanted moment reach = (first : Way) × (first_there true moment (ways_at fronts wanted) ≡ Some first) × (reach ≡ Param first.arg first.hops)

-- one way more is kept, or as many as were
abbrev pub IsOneMore : Way → List (List Way) → List (List Way) → Type 0
IsOneMore way before after =
    (name : Name) → (ways_at after name ≡ ways_at before name) ⊎ ((way.to.name ≡ name) × (ways_at after name ≡ ways_at before name ++ way ∷ []))

module _ (made : Name → Bool) (histories : List History) where
  -- a hop leads from an object to another, over a span of its list
  pub record IsOnward (from : Arrived) (onward : Onward) : Type 0 where
    pub span : Span
    pub is : Contains (history_of histories from.name).spans span
    pub handed : Bool
    pub goes : hop_over handed (made span.cap.name) from span ≡ Some onward

  -- hops lead from there to an object
  abbrev pub Lead : List Hop → Arrived → Arrived → Type 0
  Lead [] from to = from ≡ to
  Lead (hop ∷ hops) from to = (middle : Arrived) × (IsOnward from (record { hop = hop; to = middle }) × Lead hops middle to)

  -- a way leads from one of the parameters to the object, where the call begins at moment k
  pub record IsWay (k : ℕ) (params : List (Option Cap)) (name : Name) (way : Way) : Type 0 where
    pub named : way.to.name ≡ name
    pub cap : Cap
    pub held : slice_get params way.arg ≡ Some (Some cap)
    pub leads : Lead way.hops (arrived_by k cap) way.to

  -- each that is kept for an object is a way to it
  abbrev pub AreSound : ℕ → List (Option Cap) → List (List Way) → Type 0
  AreSound k params fronts = (name : Name) → AllByRecursion (IsWay k params name) (ways_at fronts name)

  -- ways that are kept and that pass the test: from this follows that no other way comes before the first that is there
  pub record AreFronts (k : ℕ) (params : List (Option Cap)) (fronts : List (List Way)) : Type 0 where
    pub sound : AreSound k params fronts
    pub rising : (name : Name) → AreRising (ways_at fronts name)
    pub started : AreStarted fronts k 0 params
    pub closed : (name : Name) → AreMetOverAll fronts made (ways_at fronts name) (history_of histories name).spans

  -- such ways are kept, and a reach is the first of them that is there
  pub record IsKeptFirst (k : ℕ) (params : List (Option Cap)) (wanted : Name) (moment : ℕ) (reach : Reach) : Type 0 where
    pub fronts : List (List Way)
    pub are : AreFronts k params fronts
    pub is : IsFirst fronts wanted moment reach
