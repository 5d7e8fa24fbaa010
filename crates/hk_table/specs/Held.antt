-- Counts of what is named from outside and by objects, as names come and go. docs/RULES.md, "Objects that vanish".
use Rattle.std.specs.Prelude.{◌≡◌, ℕ, ◌+◌, ◌*◌, ◌<◌, ◌≤◌, ◌^◌, List, length, Option, Some, None, slice_index}
use Rattle.hk_model.specs.declared.names.Name.{Name}
use Rattle.hk_model.specs.Limits.{entry_limit, object_limit}
use Rattle.hk_objects.specs.declared.body.Body.{Body}
use Rattle.hk_objects.specs.Slots.{name_at}
use Rattle.hk_reclaim.specs.Naming.{times}
use Rattle.hk_reclaim.specs.Tally.{Tally, AreCounted, owing}

-- each object that stands is counted as often as it is named from outside, and as often as objects name it; of opening objects, which stay in
-- any case, only what objects name is counted; nothing is counted where none stands
pub record AreHeld (slots : List (Option (Name × Body))) (outer owed : Name → ℕ) (t : Tally) : Type 0 where
  pub counted : AreCounted slots owed t
  pub outside : (k : ℕ) (n : Name) → name_at slots k ≡ Some n → t.first_new.0 ≤ n.0 → slice_index t.outside k ≡ outer n
  pub opening : (k : ℕ) (n : Name) → name_at slots k ≡ Some n → n.0 < t.first_new.0 → slice_index t.outside k ≡ 0
  pub free : (k : ℕ) → name_at slots k ≡ None → slice_index t.outside k ≡ 0
  pub room : length t.total ≡ 65536

-- no count runs over where these names come too
abbrev pub AreFew : (Name → ℕ) → (Name → ℕ) → List Name → Type 0
AreFew outer owed names = (n : Name) → outer n + owed n + times n names < 2 ^ 32

-- the counts are right, and these names can be counted too
abbrev pub CanHold : List (Option (Name × Body)) → List Name → Tally → Type 0
CanHold slots names t = (outer : Name → ℕ) × (owed : Name → ℕ) × AreHeld slots outer owed t × AreFew outer owed names

-- these names are counted from outside, or as named by objects
abbrev pub CanRelease : List (Option (Name × Body)) → List Name → Tally → Type 0
CanRelease slots names t = (outer : Name → ℕ) × (owed : Name → ℕ) × AreHeld slots (owing outer names) owed t

abbrev pub CanReleaseInside : List (Option (Name × Body)) → List Name → Tally → Type 0
CanReleaseInside slots names t = (outer : Name → ℕ) × (owed : Name → ℕ) × AreHeld slots outer (owing owed names) t

-- these names come from outside, or go
abbrev pub Holds : List (Option (Name × Body)) → List Name → Tally → Tally → Type 0
Holds slots names old new = (new.first_new ≡ old.first_new) × ((outer owed : Name → ℕ) → AreHeld slots outer owed old → AreHeld slots (owing outer names) owed new)

abbrev pub Releases : List (Option (Name × Body)) → List Name → Tally → Tally → Type 0
Releases slots names old new = (new.first_new ≡ old.first_new) × ((outer owed : Name → ℕ) → AreHeld slots (owing outer names) owed old → AreHeld slots outer owed new)

-- objects name these too, or no longer
abbrev pub HoldsInside : List (Option (Name × Body)) → List Name → Tally → Tally → Type 0
HoldsInside slots names old new = (new.first_new ≡ old.first_new) × ((outer owed : Name → ℕ) → AreHeld slots outer owed old → AreHeld slots outer (owing owed names) new)

abbrev pub ReleasesInside : List (Option (Name × Body)) → List Name → Tally → Tally → Type 0
ReleasesInside slots names old new = (new.first_new ≡ old.first_new) × ((outer owed : Name → ℕ) → AreHeld slots outer (owing owed names) old → AreHeld slots outer owed new)

-- the counts are right, and there is place in each for the names of one object: no more has come to it than all objects name, each its
-- type and its entries
abbrev pub HasPlace : List (Option (Name × Body)) → Tally → Type 0
HasPlace slots t = (outer : Name → ℕ) × (owed : Name → ℕ) × AreHeld slots outer owed t × ((n : Name) → outer n + owed n ≤ object_limit * (entry_limit + 1))
