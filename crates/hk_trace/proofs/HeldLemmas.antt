-- What stands along a path, step by step.
use Rattle.std.specs.Prelude.{◌≡◌, ℕ, ◌<◌, List, [], ◌∷◌, ◌++◌, length, map, drop, slice_index, Option, refl}
use Rattle.std.proofs.Common.{arith, ap, ◌∙◌}
use Rattle.hk_model.specs.declared.names.Name.{Name}
use Rattle.hk_model.specs.declared.names.Inc.{Inc}
use Rattle.hk_model.specs.declared.entries.Entry.{Entry}
use Rattle.hk_model.specs.declared.entries.Entry.TheVariants as entry
use Rattle.hk_model.specs.State.{State}
use Rattle.hk_model.specs.Places.{Place, SlotOf, EntryOf, standing, object_named, next_place, end_from, passed_from, walk_end, named_by, passed}
use Rattle.hk_trace.specs.declared.chains.Place as told
use Rattle.hk_trace.specs.declared.chains.Standing.{Standing}
use Rattle.hk_trace.specs.Held.{held_entry, held_at, name_held, held_along, held_last}

-- the object that is named where something stands
name_of_entry : (place : told.Place) (e : Entry) → name_held (held_entry place e) ≡ object_named e
name_of_entry place entry.Empty = refl
name_of_entry place (entry.Held cap) = refl
name_of_entry place (entry.Form form) = refl

pub name_held_at : (s : State) (p : Place) → name_held (held_at s p) ≡ object_named (standing s p)
name_held_at s (SlotOf inc slot) = name_of_entry _ (standing s (SlotOf inc slot))
name_held_at s (EntryOf name index) = name_of_entry _ (standing s (EntryOf name index))

pub held_named : (s : State) (inc : Inc) (path : List ℕ) (held : Option Standing) → held ≡ held_at s (walk_end s inc path) → name_held held ≡ named_by s inc path
held_named s inc path held h = ap name_held h ∙ name_held_at s (walk_end s inc path)

-- from any place on
last_held : (s : State) (p : Place) (rest : List ℕ) → held_last s (held_at s p) rest ≡ held_at s (end_from s p rest)
last_held s p [] = refl
last_held s p (at ∷ rest) = rw (name_held_at s p) (last_held s (next_place s p at) rest)

along_held : (s : State) (p : Place) (rest : List ℕ) → held_at s p ∷ held_along s (name_held (held_at s p)) rest ≡ map (held_at s) (passed_from s p rest)
along_held s p [] = refl
along_held s p (at ∷ rest) = rw (name_held_at s p) (ap (λ (l : List (Option Standing)). held_at s p ∷ l) (along_held s (next_place s p at) rest))

-- from the first step on
pub begins_last : (s : State) (inc : Inc) (path : List ℕ) → 0 < length path
    → held_last s (held_at s (SlotOf inc (slice_index path 0))) (drop 1 path) ≡ held_at s (walk_end s inc path)
begins_last s inc [] h = absurd (omega arith)
begins_last s inc (at ∷ rest) h = rw (drop_one at rest) (last_held s (SlotOf inc at) rest)
  where
    drop_one : (at : ℕ) (rest : List ℕ) → drop 1 (at ∷ rest) ≡ rest
    drop_one at [] = refl
    drop_one at (x ∷ rest) = refl

pub begins_along : (s : State) (inc : Inc) (path : List ℕ) → 0 < length path
    → held_at s (SlotOf inc (slice_index path 0)) ∷ held_along s (name_held (held_at s (SlotOf inc (slice_index path 0)))) (drop 1 path) ≡ map (held_at s) (passed s inc path)
begins_along s inc [] h = absurd (omega arith)
begins_along s inc (at ∷ rest) h = rw (drop_one at rest) (along_held s (SlotOf inc at) rest)
  where
    drop_one : (at : ℕ) (rest : List ℕ) → drop 1 (at ∷ rest) ≡ rest
    drop_one at [] = refl
    drop_one at (x ∷ rest) = refl

pub at_end_begins : (s : State) (inc : Inc) (path : List ℕ) (at : ℕ) (held : Option Standing) → 0 < length path → at ≡ slice_index path 0 → held ≡ held_at s (SlotOf inc at)
    → held_last s held (drop 1 path) ≡ held_at s (walk_end s inc path)
at_end_begins s inc path at held some e h = rw (h, e) (begins_last s inc path some)

pub along_begins : (s : State) (inc : Inc) (path : List ℕ) (at : ℕ) (held : Option Standing) (name : Name) (all : List (Option Standing)) → 0 < length path
    → at ≡ slice_index path 0
    → held ≡ held_at s (SlotOf inc at) → name ≡ name_held held → all ≡ held ∷ [] → all ++ held_along s name (drop 1 path) ≡ map (held_at s) (passed s inc path)
along_begins s inc path at held name all some e h g k = rw (k, g, h, e) (begins_along s inc path some)
