-- What becomes of the objects and incarnations that go. docs/RULES.md, "Lines taken back".
use Rattle.std.specs.Prelude.{◌≡◌, ℕ, ◌+◌, ◌-◌, ◌<◌, ◌≤◌, Bool, true, Option, Some, None, List, [], ◌∷◌, ◌++◌, length, if◌then◌else◌}
use Rattle.std.specs.List.{AllByRecursion}
use Rattle.std.specs.List.Sorted.{IsStrictlySortedBy}
use Rattle.std.specs.Map.{lookup, keys_of}
use Rattle.hk_model.specs.declared.names.Name.{Name}
use Rattle.hk_model.specs.declared.names.Inc.{Inc}
use Rattle.hk_model.specs.declared.objects.Object.{Object}
use Rattle.hk_model.specs.declared.objects.Incarnation.{Incarnation}
use Rattle.hk_model.specs.declared.entries.Entry.{Entry}
use Rattle.hk_model.specs.declared.calls.Call.{Call}
use Rattle.hk_model.specs.declared.calls.Call.TheVariants as call
use Rattle.hk_model.specs.declared.calls.Reply.{Reply}
use Rattle.hk_model.specs.declared.calls.Reply.TheVariants as reply
use Rattle.hk_model.specs.State.{State, name_cmp, inc_cmp, same_inc, put_slot, add_object}
use Rattle.hk_model.specs.Keeping.{stands}
use Rattle.hk_model.specs.Rule.{add_beside}
use Rattle.hk_plain.specs.declared.changes.Saved.{Saved}
use Rattle.hk_plain.specs.Changes.{objects_with, incarnations_with, AreNewObjects, AreNewIncarnations, with_gone, unsaved, nothing_saved}

-- whether they are kept; those that are, in the order in which they went; and for how many more there is room
pub record Removal : Type 0 where
  pub keeps : Bool
  pub gone : List (Name × Object)
  pub left : List (Inc × Incarnation)
  pub objects_room : ℕ
  pub incarnations_room : ℕ

-- where they are kept there is room for so many objects, and for so many incarnations
abbrev pub HasObjectsRoom : Removal → ℕ → Type 0
HasObjectsRoom r many = r.keeps ≡ true → many ≤ r.objects_room

abbrev pub HasIncarnationsRoom : Removal → ℕ → Type 0
HasIncarnationsRoom r many = r.keeps ≡ true → many ≤ r.incarnations_room

-- after an object has gone, and after an incarnation has
abbrev pub with_object : Removal → Name → Object → Removal
with_object r name o = if r.keeps then record r { gone = r.gone ++ (name, o) ∷ []; objects_room = r.objects_room - 1 } else r

abbrev pub with_incarnation : Removal → Inc → Incarnation → Removal
with_incarnation r inc i = if r.keeps then record r { left = r.left ++ (inc, i) ∷ []; incarnations_room = r.incarnations_room - 1 } else r

-- where an incarnation of this number was live, it went
abbrev pub removed_at : Removal → Inc → Option Incarnation → Removal
removed_at r inc None = r
removed_at r inc (Some i) = with_incarnation r inc i

-- some of these objects went: where they are kept they can be put back, and there is room for the others
pub record ObjectsWent (before after : List (Name × Object)) (old new : Removal) : Type 0 where
  pub keeps : new.keeps ≡ old.keeps
  pub left : new.left ≡ old.left
  pub left_room : new.incarnations_room ≡ old.incarnations_room
  pub put_back : old.keeps ≡ true → objects_with new.gone after ≡ objects_with old.gone before
  pub are_new : old.keeps ≡ true → AreNewObjects old.gone before → AreNewObjects new.gone after
  pub room : HasObjectsRoom old (length before) → HasObjectsRoom new (length after)

-- the numbers of these incarnations are below this one
abbrev pub AreBelow : Inc → List (Inc × Incarnation) → Type 0
AreBelow next live = AllByRecursion (λ (e : Inc × Incarnation). e.0.0 < next.0) live

-- some of these incarnations went
pub record IncarnationsWent (before after : List (Inc × Incarnation)) (old new : Removal) : Type 0 where
  pub keeps : new.keeps ≡ old.keeps
  pub gone : new.gone ≡ old.gone
  pub gone_room : new.objects_room ≡ old.objects_room
  pub put_back : old.keeps ≡ true → incarnations_with new.left after ≡ incarnations_with old.left before
  pub are_new : old.keeps ≡ true → AreNewIncarnations old.left before → AreNewIncarnations new.left after
  pub below : (next : Inc) → AreBelow next before → AreBelow next old.left → AreBelow next new.left
  pub still_below : (next : Inc) → AreBelow next before → AreBelow next after
  pub room : HasIncarnationsRoom old (length before) → HasIncarnationsRoom new (length after)

-- there is room for all that can go by one event, where it is kept
pub record HasRoom (s : State) (r : Removal) : Type 0 where
  pub objects : HasObjectsRoom r (length s.objects + 1)
  pub incarnations : HasIncarnationsRoom r (length s.incarnations)

-- an object was made, and others went for it
pub record MadeWent (s : State) (inc : Inc) (slot : ℕ) (after : State) (old new : Removal) : Type 0 where
  pub made : Object
  pub stay : List (Name × Object)
  pub entry : Entry
  pub is : after ≡ put_slot (add_beside s stay made) inc slot entry
  pub went : ObjectsWent (add_object s made).objects after.objects old new

-- what went by a call before the objects that nothing names vanish
abbrev pub CallWent : State → Inc → Call → State → Removal → Removal → Type 0
CallWent s inc (call.Create by into) after old new = MadeWent s inc into.0 after old new
CallWent s inc (call.Copy of into) after old new = MadeWent s inc into.0 after old new
CallWent s inc (call.Leave give) after old new = new ≡ removed_at old inc (lookup (same_inc inc) s.incarnations)
CallWent s inc c after old new = new ≡ old

-- nothing went yet, and what goes is kept
pub record IsFresh (r : Removal) : Type 0 where
  pub keeps : r.keeps ≡ true
  pub gone : r.gone ≡ []
  pub left : r.left ≡ []

-- objects and incarnations stand by rising number, below those that are taken next
pub record IsOrderly (s : State) : Type 0 where
  pub objects : IsStrictlySortedBy name_cmp (keys_of s.objects)
  pub given : (n : Name) → stands s n ≡ true → n.0 < s.next_name.0
  pub incarnations : IsStrictlySortedBy inc_cmp (keys_of s.incarnations)
  pub entered : AreBelow s.next_inc s.incarnations

-- what an event saved and what went by it lead from the state after it back to the one before
pub record LeadsBack (saved : Saved) (before after : State) (r : Removal) : Type 0 where
  pub back : record (unsaved saved (with_gone r.gone r.left after)) { events = before.events } ≡ before
  pub objects : AreNewObjects r.gone after.objects
  pub incarnations : AreNewIncarnations r.left after.incarnations
  pub below : AreBelow after.next_inc r.left

-- from an orderly state, where all that goes is kept
abbrev pub IsUndone : Saved → State → State → Removal → Removal → Type 0
IsUndone saved before after old new = IsOrderly before → IsFresh old → LeadsBack saved before after new

-- a call that is refused changes nothing
abbrev pub saved_by : Reply → Saved → Saved
saved_by reply.Done saved = saved
saved_by (reply.Word word) saved = saved
saved_by reply.Waits saved = saved
saved_by (reply.No refusal) saved = nothing_saved
