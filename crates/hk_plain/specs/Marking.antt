-- Marks on the objects that names lead to, and the objects that go where a full table gets one more.
-- docs/RULES.md, "Objects that vanish".
use Rattle.std.specs.Prelude.{◌≡◌, ◌⊎◌, ◌==◌, ◌||◌, ◌+◌, ◌≤◌, Bool, true, false, not, List, length, ⊤, Result, Ok, Err, nat_lt, is_some}
use Rattle.std.specs.Map.{lookup}
use Rattle.std.specs.BTreeSet.{BTreeSet}
use Rattle.hk_model.specs.declared.names.Name.{Name}
use Rattle.hk_model.specs.declared.objects.Object.{Object}
use Rattle.hk_model.specs.State.{State, object, same_name}
use Rattle.hk_model.specs.Keeping.{object_names, outer_names, is_among, is_opening, stands, members, IsClosed}
use Rattle.hk_model.specs.Rule.{room_made}
use Rattle.hk_calls.specs.declared.stop.Stop.{Stop}
use Rattle.hk_calls.specs.declared.stop.Stop.TheVariants.{Refused, OutOfMemory}

-- the objects that are not marked, and those that are marked and whose names are not marked yet
pub record Marking : Type 0 where
  pub unmarked : List Name
  pub todo : List Name

-- after marks on these names, and on no others
pub record AreMarked (names : List Name) (before after : Marking) : Type 0 where
  pub all : (n : Name) → is_among n names ≡ true → is_among n after.unmarked ≡ false
  pub fewer : (n : Name) → is_among n after.unmarked ≡ true → is_among n before.unmarked ≡ true
  pub only : (n : Name) → is_among n before.unmarked ≡ true → is_among n after.unmarked ≡ false → is_among n names ≡ true
  pub noted : (n : Name) → is_among n before.unmarked ≡ true → is_among n after.unmarked ≡ false → is_among n after.todo ≡ true
  pub still : (n : Name) → is_among n before.todo ≡ true → is_among n after.todo ≡ true
  pub marked : (n : Name) → is_among n after.todo ≡ true → (is_among n before.todo ≡ true) ⊎ (is_among n after.unmarked ≡ false)
  pub size : length after.unmarked + length after.unmarked + length after.todo ≤ length before.unmarked + length before.unmarked + length before.todo

-- of these objects those below a name are marked, and no others; of `rest` nothing is said
pub record AreBegun (rest objects : List (Name × Object)) (first_new : Name) (m : Marking) : Type 0 where
  pub opened : (n : Name) → nat_lt n.0 first_new.0 ≡ true → is_among n m.unmarked ≡ false
  pub only : (n : Name) → is_some (lookup (same_name n) objects) ≡ true → is_some (lookup (same_name n) rest) ≡ false → is_among n m.unmarked ≡ false
      → nat_lt n.0 first_new.0 ≡ true
  pub noted : (n : Name) → is_some (lookup (same_name n) objects) ≡ true → is_some (lookup (same_name n) rest) ≡ false → is_among n m.unmarked ≡ false → is_among n m.todo ≡ true
  pub marked : (n : Name) → is_among n m.todo ≡ true → nat_lt n.0 first_new.0 ≡ true

-- what is marked is rooted: the objects of the opening are, what is named from outside is, and what a marked object names
-- is, or the object is still to be looked at
pub record AreUnderway (s : State) (m : Marking) : Type 0 where
  pub opened : (n : Name) → is_opening s n ≡ true → is_among n m.unmarked ≡ false
  pub outer : (n : Name) → is_among n (outer_names s) ≡ true → is_among n m.unmarked ≡ false
  pub inner : (n : Name) → stands s n ≡ true → is_among n m.unmarked ≡ false
      → (is_among n m.todo ≡ true) ⊎ ((k : Name) → is_among k (object_names (object s n)) ≡ true → is_among k m.unmarked ≡ false)
  pub least : (set : Name → Bool) → IsClosed s set → (n : Name) → stands s n ≡ true → is_among n m.unmarked ≡ false → set n ≡ true
  pub marked : (n : Name) → is_among n m.todo ≡ true → is_among n m.unmarked ≡ false

-- all names but these
abbrev pub is_none_of : List Name → Name → Bool
is_none_of names name = not (is_among name names)

-- an object stays that is made, or has none of these names
abbrev pub stays_beside : Name → List Name → Name → Bool
stays_beside name names other = other.0 == name.0 || is_none_of names other

-- the objects that go where one more is made, or the refusal, or want of memory
abbrev pub Spares : State → Result (BTreeSet Name) Stop → Type 0
Spares s (Ok spare) = room_made s ≡ Ok (members s (is_none_of spare.keys))
Spares s (Err (Refused refusal)) = room_made s ≡ Err refusal
Spares s (Err OutOfMemory) = ⊤
