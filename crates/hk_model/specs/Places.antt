-- Places, what stands at them, and the places of a walk. docs/RULES.md, "Where entries come from".
use Rattle.std.specs.Prelude.{ℕ, ◌==◌, ◌&&◌, Bool, true, false, List, [], ◌∷◌, slice_index_or, Option, Some, None, Result, Ok, Err}
use Rattle.hk_model.specs.declared.names.Name.{Name}
use Rattle.hk_model.specs.declared.names.Inc.{Inc}
use Rattle.hk_model.specs.declared.entries.Cap.{Cap}
use Rattle.hk_model.specs.declared.entries.Param.{Param}
use Rattle.hk_model.specs.declared.entries.Template.TheVariants as template
use Rattle.hk_model.specs.declared.entries.Entry.{Entry}
use Rattle.hk_model.specs.declared.entries.Entry.TheVariants.{Empty, Held, Form}
use Rattle.hk_model.specs.declared.calls.Refusal.{Refusal}
use Rattle.hk_model.specs.Limits.{slot_limit}
use Rattle.hk_model.specs.State.{State, object, incarnation, same_name, same_inc}
use Rattle.hk_model.specs.Walking.{walk}

-- a slot of an incarnation, or an index of an object's list
pub data Place : Type 0 where
  SlotOf : (inc : Inc) (slot : ℕ) → Place
  EntryOf : (name : Name) (index : ℕ) → Place

-- the same slot, or the same index of the same list
abbrev pub same_place : Place → Place → Bool
same_place (SlotOf a m) (SlotOf b n) = same_inc a b && m == n
same_place (EntryOf a m) (EntryOf b n) = same_name a b && m == n
same_place (SlotOf a m) (EntryOf b n) = false
same_place (EntryOf a m) (SlotOf b n) = false

-- what stands at a place: nothing where the incarnation is not live, or where the object does not stand, which then has no list
abbrev pub standing : State → Place → Entry
standing s (SlotOf inc slot) = slice_index_or (incarnation s inc).slots slot Empty
standing s (EntryOf name index) = slice_index_or (object s name).entries index Empty

-- nothing stands there
abbrev pub is_empty : Entry → Bool
is_empty Empty = true
is_empty (Held cap) = false
is_empty (Form form) = false

-- the capability, if the entry is one
abbrev pub cap_of : Entry → Option Cap
cap_of Empty = None
cap_of (Held cap) = Some cap
cap_of (Form form) = None

-- the object that a capability names; of another entry the name 0, which stands for none
abbrev pub object_named : Entry → Name
object_named (Held cap) = cap.name
object_named Empty = record { 0 = 0 }
object_named (Form form) = record { 0 = 0 }

-- the rights of a capability; of another entry none
abbrev pub rights_held : Entry → ℕ
rights_held (Held cap) = cap.rights
rights_held Empty = 0
rights_held (Form form) = 0

-- an Amplify template, as it merges; of another entry a template that no merge uses
abbrev pub form_of : Entry → Param
form_of (Form (template.Amplify of check give)) = record { of = of; check = check; give = give }
form_of (Form (template.Create of give)) = record { of = Some of; check = 0; give = give }
form_of Empty = record { of = None; check = 0; give = 0 }
form_of (Held cap) = record { of = None; check = 0; give = 0 }

-- the place one step further: an index in the list of the object that the entry at a place names
abbrev pub next_place : State → Place → ℕ → Place
next_place s place at = EntryOf (object_named (standing s place)) at

-- the last place of a walk from a place on
abbrev pub end_from : State → Place → List ℕ → Place
end_from s place [] = place
end_from s place (at ∷ rest) = end_from s (next_place s place at) rest

-- all places that a walk passes from a place on, that place too
abbrev pub passed_from : State → Place → List ℕ → List Place
passed_from s place [] = place ∷ []
passed_from s place (at ∷ rest) = place ∷ passed_from s (next_place s place at) rest

-- the last place of an incarnation's walk; of no walk, a slot that no incarnation has
abbrev pub walk_end : State → Inc → List ℕ → Place
walk_end s inc [] = SlotOf inc slot_limit
walk_end s inc (at ∷ rest) = end_from s (SlotOf inc at) rest

-- all places that an incarnation's walk passes, the last one too
abbrev pub passed : State → Inc → List ℕ → List Place
passed s inc [] = []
passed s inc (at ∷ rest) = passed_from s (SlotOf inc at) rest

-- the object that a path of an incarnation names
abbrev pub named_by : State → Inc → List ℕ → Name
named_by s inc path = object_named (standing s (walk_end s inc path))

-- what an answer gives, nothing where it is a refusal
abbrev pub entry_given : Result Entry Refusal → Entry
entry_given (Ok entry) = entry
entry_given (Err refusal) = Empty

-- what an incarnation's path leads to, nothing where the walk is refused
abbrev pub found : State → Inc → List ℕ → Entry
found s inc path = entry_given (walk s inc path)

-- the capability that an incarnation's path leads to, if it does
abbrev pub cap_found : State → Inc → List ℕ → Option Cap
cap_found s inc path = cap_of (found s inc path)
