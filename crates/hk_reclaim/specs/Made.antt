-- The objects made since the table opened, and what is left of their namings. docs/RULES.md, "Objects that vanish".
use Rattle.std.specs.Prelude.{◌≡◌, ℕ, ◌<◌, ◌≤◌, ◌⊎◌, ◌+◌, ◌&&◌, not, nat_lt, Bool, false, List, cond, length, Option, Some, None, IsSome, slice_index, slice_index_or}
use Rattle.hk_model.specs.declared.names.Name.{Name}
use Rattle.hk_objects.specs.declared.body.Body.{Body}
use Rattle.hk_objects.specs.Slots.{place, name_at}
use Rattle.hk_reclaim.specs.Naming.{namings}
use Rattle.hk_reclaim.specs.Tally.{lowered}

-- an object of this name is no opening object
abbrev pub is_made : Name → Option Name → Bool
is_made first None = false
is_made first (Some n) = not (nat_lt n.0 first.0)

-- the flags of the slots in which made objects stand are up
abbrev pub AreMade : Name → List (Option (Name × Body)) → List Bool → Type 0
AreMade first ps flags = (k : ℕ) → slice_index_or flags k false ≡ is_made first (name_at ps k)

-- no made object stands in the slots below one of them, or below their end
pub record IsFirst (from size : ℕ) (flags : List Bool) : Type 0 where
  pub within : from ≤ size
  pub below : (k : ℕ) → k < from → slice_index_or flags k false ≡ false

-- the made object of a name stands in a slot
abbrev pub IsMadeAt : Name → List (Option (Name × Body)) → Option Name → ℕ → Type 0
IsMadeAt first ps name k = (n : Name) × (name ≡ Some n) × (first.0 ≤ n.0) × (name_at ps k ≡ Some n)

-- the slots without those objects in the first of them whose flag is up
pub record IsSweptTo (ps : List (Option (Name × Body))) (flag : ℕ → Bool) (upto : ℕ) (qs : List (Option (Name × Body))) : Type 0 where
  pub room : length qs ≡ length ps
  pub places : (k : ℕ) → place qs k ≡ cond (nat_lt k upto && flag k) None (place ps k)

-- of each made object the namings from outside are left, and those that are owed
pub record AreLeft (first : Name) (ps : List (Option (Name × Body))) (outside : List ℕ) (owed : Name → ℕ) (left : List ℕ) : Type 0 where
  pub room : (k : ℕ) → IsSome (place ps k) → k < length left
  pub namings : (k : ℕ) (n : Name) → name_at ps k ≡ Some n → first.0 ≤ n.0 → slice_index left k ≡ slice_index outside k + owed n

-- what the made objects in the first slots name is taken off
abbrev pub IsHalfLeft : Name → List (Option (Name × Body)) → List ℕ → ℕ → List ℕ → Type 0
IsHalfLeft first ps outside upto left =
    (qs : List (Option (Name × Body))) × IsSweptTo ps (λ k. is_made first (name_at ps k)) upto qs × AreLeft first ps outside (namings qs) left

-- a naming of a made object is left
abbrev pub IsTakeable : Name → List (Option (Name × Body)) → Option Name → List ℕ → Type 0
IsTakeable first ps name left = (k : ℕ) → IsMadeAt first ps name k → (k < length left) × (0 < slice_index left k)

-- a naming is taken off, where it is of a made object
abbrev pub IsTakenOff : Name → List (Option (Name × Body)) → Option Name → List ℕ → List ℕ → Type 0
IsTakenOff first ps name old new = ((k : ℕ) × IsMadeAt first ps name k × (new ≡ lowered old k)) ⊎ (((k : ℕ) → IsMadeAt first ps name k → ⊥) × (new ≡ old))
