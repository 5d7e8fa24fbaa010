-- What a call writes where: the way in which each entry comes. docs/RULES.md, "Where entries come from".
use Rattle.std.specs.Prelude.{◌≡◌, ◌⊎◌, ℕ, zero, suc, Bool, true, not, List, [], ◌∷◌, length, Option, Some, None, IsSome, Ok, if◌then◌else◌, bit_and}
use Rattle.std.specs.Option.{option_and_then}
use Rattle.hk_model.specs.declared.names.Name.{Name}
use Rattle.hk_model.specs.declared.names.Inc.{Inc}
use Rattle.hk_model.specs.declared.names.Slot.{Slot}
use Rattle.hk_model.specs.declared.entries.Cap.{Cap}
use Rattle.hk_model.specs.declared.entries.Param.{Param}
use Rattle.hk_model.specs.declared.entries.Template.TheVariants as template
use Rattle.hk_model.specs.declared.entries.Making.{Making}
use Rattle.hk_model.specs.declared.entries.Entry.{Entry}
use Rattle.hk_model.specs.declared.entries.Entry.TheVariants.{Empty, Held, Form}
use Rattle.hk_model.specs.declared.calls.Call.{Call}
use Rattle.hk_model.specs.declared.calls.Call.TheVariants as call
use Rattle.hk_model.specs.declared.lines.Line.{Line}
use Rattle.hk_rights.specs.Rights.{ENV, MODIFY, has, first_missing, unconf_right}
use Rattle.hk_model.specs.State.{State, object, incarnation, same_name, same_inc}
use Rattle.hk_model.specs.Walking.{walk}
use Rattle.hk_model.specs.Merging.{merged, inherited}
use Rattle.hk_model.specs.Targets.{ENV+A0}
use Rattle.hk_model.specs.Rule.{copied, made_form}
use Rattle.hk_model.specs.Places.{Place, SlotOf, EntryOf, same_place, standing, rights_held, form_of, walk_end, named_by, found}
use Rattle.hk_model.specs.Lines.{done_call, makes_object, enters_call, leaves_call, changes_path}

-- the ways in which an entry comes to a place that a call writes; slots are those of the calling incarnation
pub data Way : Type 0 where
  -- a Load: what the path leads to
  Walked : (path : List ℕ) → Way
  -- a Store, an Append or a return: what the slot holds
  Stored : (slot : ℕ) → Way
  -- a Restrict: what the slot held, with no rights but these
  Lessened : (slot keep : ℕ) → Way
  -- a Merge or a parameter: what the slot holds, merged with the template
  Merged : (slot : ℕ) (form : Param) → Way
  -- a call: the entry of the procedure
  Inherited : (procedure : Name) (index : ℕ) (confined : Bool) → Way
  -- an entry of a copied object
  Copied : (path : List ℕ) (index : ℕ) → Way
  -- the capability for a copy, for a new object and the template that a MakeTemplate makes
  CopyOf : (path : List ℕ) → Way
  Created : (path : List ℕ) → Way
  Formed : (path : List ℕ) (kind : Making) → Way
  -- an Erase or a Drop
  Emptied : Way

-- the way of a place if it is the one that is written
abbrev pub written : Place → Place → Way → Option Way
written at p way = if same_place p at then Some way else None

-- a slot of a new incarnation: the parameters, and then what the procedure holds
abbrev pub call_way : Name → Bool → List ℕ → List Param → ℕ → Way
call_way procedure confined (arg ∷ args) (param ∷ params) zero = Merged arg param
call_way procedure confined (arg ∷ args) (param ∷ params) (suc n) = call_way procedure confined args params n
call_way procedure confined [] params n = Inherited procedure n confined
call_way procedure confined (arg ∷ args) [] n = Inherited procedure n confined

-- the slots of the incarnation that a call makes
abbrev pub entered_way : State → Name → Bool → List ℕ → Place → Option Way
entered_way s procedure confined args (SlotOf inc n) =
    if same_inc inc s.next_inc then Some (call_way procedure confined args (object s procedure).params n) else None
entered_way s procedure confined args (EntryOf name index) = None

-- the slot that takes the capability for a copy, and the entries of the new object
abbrev pub copied_way : State → Inc → List ℕ → Slot → Place → Option Way
copied_way s inc path into (SlotOf i n) = written (SlotOf inc into.0) (SlotOf i n) (CopyOf path)
copied_way s inc path into (EntryOf name index) = if same_name name s.next_name then Some (Copied path index) else None

-- the slot of the caller that takes what is returned
abbrev pub returned_way : Option Inc → ℕ → Option Slot → Place → Option Way
returned_way (Some caller) into (Some slot) p = written (SlotOf caller into) p (Stored slot.0)
returned_way (Some caller) into None p = None
returned_way None into give p = None

-- the way of each place that the call of an incarnation writes where nothing refuses it; none of a place that it leaves
abbrev pub way : State → Inc → Call → Place → Option Way
way s inc (call.Load path into) p = written (SlotOf inc into.0) p (Walked path)
way s inc (call.Store path at from) p = written (EntryOf (named_by s inc path) at) p (Stored from.0)
way s inc (call.Append path from) p =
    written (EntryOf (named_by s inc path) (length (object s (named_by s inc path)).entries)) p (Stored from.0)
way s inc (call.Erase path at) p = written (EntryOf (named_by s inc path) at) p Emptied
way s inc (call.Drop slot) p = written (SlotOf inc slot.0) p Emptied
way s inc (call.Restrict slot keep) p = written (SlotOf inc slot.0) p (Lessened slot.0 keep)
way s inc (call.MakeTemplate path kind into) p = written (SlotOf inc into.0) p (Formed path kind)
way s inc (call.Create path into) p = written (SlotOf inc into.0) p (Created path)
way s inc (call.Merge path cap into) p = written (SlotOf inc into.0) p (Merged cap.0 (form_of (standing s (walk_end s inc path))))
way s inc (call.Copy path into) p = copied_way s inc path into p
way s inc (call.Enter path args into) p =
    entered_way s (named_by s inc path) (not (has (rights_held (found s inc path)) unconf_right)) args p
way s inc (call.Leave give) p = returned_way (incarnation s inc).caller (incarnation s inc).into.0 give p
way s inc _ p = None

-- the way of each place that a line writes
abbrev pub line_way : State → Line → Place → Option Way
line_way s line p = option_and_then (λ c. way s line.inc c p) (done_call line)

-- the first set has no right that the second lacks
abbrev pub Within : ℕ → ℕ → Type 0
Within a b = first_missing b a ≡ None

-- what may stand in a list, or be returned: a template, or a capability with ENV
abbrev pub HasEnv : Entry → Type 0
HasEnv Empty = ⊥
HasEnv (Held cap) = Within ENV cap.rights
HasEnv (Form form) = Unit {0}

-- a path of the incarnation leads to this capability
abbrev pub LeadsTo : State → Inc → List ℕ → Cap → Type 0
LeadsTo s inc path cap = walk s inc path ≡ Ok (Held cap)

-- what comes of a capability by a Restrict
pub record IsLessened (from : Entry) (keep : ℕ) (x : Entry) : Type 0 where
  pub cap : Cap
  pub held : from ≡ Held cap
  pub is : x ≡ Held (record cap { rights = bit_and cap.rights keep })

-- what comes of a capability by a merge
pub record IsMerged (s : State) (from : Entry) (form : Param) (x : Entry) : Type 0 where
  pub cap : Cap
  pub new : Cap
  pub step : ℕ
  pub held : from ≡ Held cap
  pub merges : merged cap (object s cap.name).of form step ≡ Ok new
  pub is : x ≡ Held new

-- an entry of a copy: what the copied object holds there, without what goes without ENV
pub record IsCopied (s : State) (inc : Inc) (path : List ℕ) (index : ℕ) (x : Entry) : Type 0 where
  pub cap : Cap
  pub leads : LeadsTo s inc path cap
  pub is : x ≡ copied cap.rights (standing s (EntryOf cap.name index))

-- the capability for a copy: with the rights of the path's capability
pub record IsCopyOf (s : State) (inc : Inc) (path : List ℕ) (x : Entry) : Type 0 where
  pub cap : Cap
  pub leads : LeadsTo s inc path cap
  pub is : x ≡ Held (record { name = s.next_name; rights = cap.rights })

-- the capability for a new object: with the rights that the path's template gives
pub record IsCreated (s : State) (inc : Inc) (path : List ℕ) (x : Entry) : Type 0 where
  pub of : Name
  pub give : ℕ
  pub leads : walk s inc path ≡ Ok (Form (template.Create of give))
  pub is : x ≡ Held (record { name = s.next_name; rights = give })

-- a new template for the type that the path's capability names, which has ENV and A0
pub record IsFormed (s : State) (inc : Inc) (path : List ℕ) (kind : Making) (x : Entry) : Type 0 where
  pub cap : Cap
  pub leads : LeadsTo s inc path cap
  pub allowed : Within ENV+A0 cap.rights
  pub is : x ≡ Form (made_form kind cap.name)

-- what each way gives, from the state before the call
abbrev pub Writes : State → Inc → Way → Entry → Type 0
Writes s inc (Walked path) x = walk s inc path ≡ Ok x
Writes s inc (Stored slot) x = (x ≡ standing s (SlotOf inc slot)) × HasEnv x
Writes s inc (Lessened slot keep) x = IsLessened (standing s (SlotOf inc slot)) keep x
Writes s inc (Merged slot form) x = IsMerged s (standing s (SlotOf inc slot)) form x
Writes s inc (Inherited procedure index confined) x = x ≡ inherited confined (standing s (EntryOf procedure index))
Writes s inc (Copied path index) x = IsCopied s inc path index x
Writes s inc (CopyOf path) x = IsCopyOf s inc path x
Writes s inc (Created path) x = IsCreated s inc path x
Writes s inc (Formed path kind) x = IsFormed s inc path kind x
Writes s inc Emptied x = x ≡ Empty

-- what can stand at a place after a call: where it has a way, nothing but what the way gives, and else nothing but what was
-- there. This is an upper bound: nothing comes but by its way, and a place may become empty, as one does that goes with its
-- incarnation
abbrev pub Wrote : State → Inc → Entry → Option Way → Entry → Type 0
Wrote s inc old None x = (x ≡ Empty) ⊎ (x ≡ old)
Wrote s inc old (Some w) x = (x ≡ Empty) ⊎ Writes s inc w x

-- the call changes this object, for which its path leads to a capability with MODIFY
pub record IsModified (s : State) (inc : Inc) (c : Option Call) (name : Name) : Type 0 where
  pub path : List ℕ
  pub cap : Cap
  pub changes : changes_path c ≡ Some path
  pub leads : LeadsTo s inc path cap
  pub allowed : Within MODIFY cap.rights
  pub same : name ≡ cap.name

-- where a call may write: in slots of its own incarnation, of the one that it makes and of the one that it returns to,
-- in the list of the object that it makes and in that of one that it modifies
abbrev pub IsWritable : State → Inc → Option Call → Place → Type 0
IsWritable s inc c (SlotOf i n) =
    (i ≡ inc) ⊎ (((enters_call c ≡ true) × (i ≡ s.next_inc)) ⊎ ((leaves_call c ≡ true) × ((incarnation s inc).caller ≡ Some i)))
IsWritable s inc c (EntryOf name index) = ((makes_object c ≡ true) × (name ≡ s.next_name)) ⊎ IsModified s inc c name

-- what a call that nothing refuses can have written, everywhere: an upper bound, by which nothing comes but by the way of its
-- place, and only where the call may write; a place may become empty
pub record IsWrittenBy (s : State) (inc : Inc) (c : Call) (t : State) : Type 0 where
  pub entries : (p : Place) → Wrote s inc (standing s p) (way s inc c p) (standing t p)
  pub places : (p : Place) → IsSome (way s inc c p) → IsWritable s inc (Some c) p
