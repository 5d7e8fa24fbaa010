-- Marking what is reached. docs/RULES.md, "Objects that vanish".
use Rattle.std.specs.Prelude.{◌≡◌, ℕ, ◌<◌, ◌≤◌, ◌||◌, ◌&&◌, not, slice_index, ◌⊎◌, nat_lt, Bool, true, false, List, [], ◌++◌, length, Option, Some, None, IsSome, slice_get}
use Rattle.hk_model.specs.declared.names.Name.{Name}
use Rattle.hk_objects.specs.declared.body.Body.{Body}
use Rattle.hk_objects.specs.Slots.{place, name_at}
use Rattle.hk_reclaim.specs.Naming.{names_in, times, namings}
use Rattle.hk_reclaim.specs.Kept.{IsNamedIn, IsClosed, IsPartOf}
use Rattle.hk_reclaim.specs.Tally.{Tally, has, AreCounted}
use Rattle.hk_reclaim.specs.Marks.{Marked, marked_with}
use Rattle.hk_reclaim.specs.Made.{is_made, IsFirst, IsMadeAt, IsSweptTo}

-- every object stands in a slot of this room
abbrev pub IsInRoom : List (Option (Name × Body)) → ℕ → Type 0
IsInRoom ps size = (k : ℕ) → IsSome (place ps k) → k < size

-- the made object of a name is marked, if there is one
abbrev pub IsMarkedBy : Name → List (Option (Name × Body)) → Option Name → Marked → Marked → Type 0
IsMarkedBy first ps name old new = ((k : ℕ) × IsMadeAt first ps name k × (new ≡ record old { slots = marked_with old.slots k }))
    ⊎ (((k : ℕ) → IsMadeAt first ps name k → ⊥) × (new ≡ old))

-- the made objects of these names are marked too, and no others
pub record Grows (first : Name) (ps : List (Option (Name × Body))) (ns : List Name) (old new : Marked) : Type 0 where
  pub size : new.size ≡ old.size
  pub more : (rest : List ℕ) × (new.slots ≡ old.slots ++ rest)
  pub all : (k : ℕ) (n : Name) → 0 < times n ns → first.0 ≤ n.0 → name_at ps k ≡ Some n → has new.slots k ≡ true
  pub only : (k : ℕ) → has new.slots k ≡ true → (has old.slots k ≡ true) ⊎ ((n : Name) × (name_at ps k ≡ Some n) × (0 < times n ns))

-- a set has each standing object that a member names
abbrev pub IsNamingClosed : List (Option (Name × Body)) → (Name → Bool) → Type 0
IsNamingClosed ps T = (n : Name) (k : ℕ) → name_at ps k ≡ Some n → IsNamedIn ps T n → T n ≡ true

-- the made objects that the first marks name are marked, and no more than must be
pub record IsWalked (first : Name) (ps : List (Option (Name × Body))) (old new : Marked) (upto : ℕ) : Type 0 where
  pub size : new.size ≡ old.size
  pub kept : (k : ℕ) → has old.slots k ≡ true → has new.slots k ≡ true
  pub closed : (i s : ℕ) → i < upto → slice_get new.slots i ≡ Some s → (n : Name) (k : ℕ) → 0 < times n (names_in (place ps s)) → first.0 ≤ n.0 → name_at ps k ≡ Some n
      → has new.slots k ≡ true
  pub held : (k : ℕ) → has new.slots k ≡ true
      → (has old.slots k ≡ true) ⊎ ((s : ℕ) × (n : Name) × (has new.slots s ≡ true) × (name_at ps k ≡ Some n) × (0 < times n (names_in (place ps s))))
  pub least : (T : Name → Bool) → ((k : ℕ) (n : Name) → has old.slots k ≡ true → name_at ps k ≡ Some n → T n ≡ true) → IsNamingClosed ps T → (k : ℕ) (n : Name)
      → has new.slots k ≡ true → name_at ps k ≡ Some n → T n ≡ true
  pub stand : (k : ℕ) → has new.slots k ≡ true → IsSome (place ps k)

-- an opening object has this name
abbrev pub is_opening : Name → Option Name → Bool
is_opening first None = false
is_opening first (Some n) = nat_lt n.0 first.0

-- the object in a slot is an opening object or is marked
abbrev pub stays : Name → List (Option (Name × Body)) → List ℕ → ℕ → Bool
stays first ps marks k = is_opening first (name_at ps k) || has marks k

-- these slots have the objects that are reached
pub record IsMarking (first : Name) (outside : List ℕ) (ps : List (Option (Name × Body))) (stays : ℕ → Bool) : Type 0 where
  pub roots : (k : ℕ) (n : Name) → name_at ps k ≡ Some n → (n.0 < first.0) ⊎ (0 < slice_index outside k) → stays k ≡ true
  pub closed : (s k : ℕ) (n : Name) → stays s ≡ true → 0 < times n (names_in (place ps s)) → name_at ps k ≡ Some n → stays k ≡ true
  pub held : (k : ℕ) (n : Name) → stays k ≡ true → name_at ps k ≡ Some n
      → ((n.0 < first.0) ⊎ (0 < slice_index outside k)) ⊎ ((s : ℕ) × (stays s ≡ true) × (0 < times n (names_in (place ps s))))
  pub least : (T : Name → Bool) → IsClosed first outside ps T → (k : ℕ) (n : Name) → stays k ≡ true → name_at ps k ≡ Some n → T n ≡ true

-- a made object stands in a slot without a mark
abbrev pub is_lost : Name → List (Option (Name × Body)) → List ℕ → ℕ → Bool
is_lost first ps marks k = is_made first (name_at ps k) && not (has marks k)

-- the counts are those of the namings by the objects but those in the first slots whose flag is up
abbrev pub IsHalfSwept : List (Option (Name × Body)) → (ℕ → Bool) → ℕ → Tally → Type 0
IsHalfSwept ps flag upto t = (qs : List (Option (Name × Body))) × IsSweptTo ps flag upto qs × AreCounted ps (namings qs) t

-- between two collections nothing is marked, and there is room for each slot
pub record IsIdle (size from : ℕ) (stands : List Bool) (left : List ℕ) (marks : Marked) : Type 0 where
  pub stands_size : length stands ≡ size
  pub left_size : length left ≡ size
  pub first : IsFirst from size stands
  pub unmarked : marks ≡ record { size = size; slots = [] }

-- what is gone was owed nothing
pub record IsDropped (first : Name) (outside : List ℕ) (owed : Name → ℕ) (ps rs : List (Option (Name × Body))) : Type 0 where
  pub part : IsPartOf ps rs
  pub gone : (k : ℕ) → place rs k ≡ None → (place ps k ≡ None) ⊎ ((n : Name) × (name_at ps k ≡ Some n) × (first.0 ≤ n.0) × (slice_index outside k ≡ 0) × (owed n ≡ 0))
