-- Which objects are kept, and which are reached. A set of objects is a test of names. docs/RULES.md, "Objects that vanish".
use Rattle.std.specs.Prelude.{◌≡◌, ℕ, ◌<◌, ◌⊎◌, Bool, true, List, map, length, Option, Some, None, IsSome, slice_index}
use Rattle.std.specs.List.{count_by}
use Rattle.std.specs.Option.{is_some}
use Rattle.std.proofs.lemmas.Map.Entries.{option_filter}
use Rattle.hk_model.specs.declared.names.Name.{Name}
use Rattle.hk_objects.specs.declared.body.Body.{Body}
use Rattle.hk_objects.specs.Slots.{place, name_at}
use Rattle.hk_reclaim.specs.Naming.{names_in, times}

-- an object stands that is an opening object or is named from outside
abbrev pub IsRoot : Name → List ℕ → List (Option (Name × Body)) → Name → Type 0
IsRoot first outside ps n = (k : ℕ) × (name_at ps k ≡ Some n) × ((n.0 < first.0) ⊎ (0 < slice_index outside k))

-- a member names it
abbrev pub IsNamedIn : List (Option (Name × Body)) → (Name → Bool) → Name → Type 0
IsNamedIn ps S n = (k : ℕ) × (m : Name) × (name_at ps k ≡ Some m) × (S m ≡ true) × (0 < times n (names_in (place ps k)))

-- each member stands, and is a root or is named by a member
pub record IsSupported (first : Name) (outside : List ℕ) (ps : List (Option (Name × Body))) (S : Name → Bool) : Type 0 where
  pub stands : (n : Name) → S n ≡ true → (k : ℕ) × (name_at ps k ≡ Some n)
  pub held : (n : Name) → S n ≡ true → IsRoot first outside ps n ⊎ IsNamedIn ps S n

-- the greatest supported set
pub record IsKept (first : Name) (outside : List ℕ) (ps : List (Option (Name × Body))) (S : Name → Bool) : Type 0 where
  pub supported : IsSupported first outside ps S
  pub greatest : (T : Name → Bool) → IsSupported first outside ps T → (n : Name) → T n ≡ true → S n ≡ true

-- it has the roots, and each standing object that a member names
pub record IsClosed (first : Name) (outside : List ℕ) (ps : List (Option (Name × Body))) (S : Name → Bool) : Type 0 where
  pub roots : (n : Name) → IsRoot first outside ps n → S n ≡ true
  pub named : (n : Name) (k : ℕ) → name_at ps k ≡ Some n → IsNamedIn ps S n → S n ≡ true

-- the least closed set
pub record IsReached (first : Name) (outside : List ℕ) (ps : List (Option (Name × Body))) (S : Name → Bool) : Type 0 where
  pub closed : IsClosed first outside ps S
  pub least : (T : Name → Bool) → IsClosed first outside ps T → (n : Name) → S n ≡ true → T n ≡ true

-- the table restricted to a set
abbrev pub only : (Name → Bool) → List (Option (Name × Body)) → List (Option (Name × Body))
only S ps = map (option_filter (λ e. S e.0)) ps

-- each object that is left stands in its slot as it was
pub record IsPartOf (old new : List (Option (Name × Body))) : Type 0 where
  pub room : length new ≡ length old
  pub places : (k : ℕ) → (place new k ≡ place old k) ⊎ (place new k ≡ None)

-- an object was removed
abbrev pub HasLost : List (Option (Name × Body)) → List (Option (Name × Body)) → Type 0
HasLost old new = (k : ℕ) × IsSome (place old k) × (place new k ≡ None)

-- on the way: what is gone is in no supported set
pub record IsSettling (first : Name) (outside : List ℕ) (old now : List (Option (Name × Body))) : Type 0 where
  pub part : IsPartOf old now
  pub kept : (T : Name → Bool) → IsSupported first outside old T → (k : ℕ) (n : Name) → name_at old k ≡ Some n → T n ≡ true → place now k ≡ place old k

-- how many slots are taken
unfoldable pub taken : List (Option (Name × Body)) → ℕ
taken ps = count_by is_some ps
