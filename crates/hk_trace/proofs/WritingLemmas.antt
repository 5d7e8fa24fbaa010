-- What is kept of a line tells the origin of each entry that it wrote.
use Rattle.std.specs.Prelude.{◌≡◌, ℕ, zero, suc, ◌+◌, ◌==◌, ◌&&◌, Bool, true, false, not, List, [], ◌∷◌, ◌++◌, length, take, slice_index_or, Option, Some, None, refl}
use Rattle.std.proofs.Common.{arith, ap, ◌∙◌, cond}
use Rattle.std.specs.Option.{option_and_then}
use Rattle.hk_model.specs.declared.names.Name.{Name}
use Rattle.hk_model.specs.declared.names.Inc.{Inc}
use Rattle.hk_model.specs.declared.names.Slot.{Slot}
use Rattle.hk_model.specs.declared.entries.Param.{Param}
use Rattle.hk_model.specs.declared.entries.Entry.{Entry}
use Rattle.hk_model.specs.declared.entries.Entry.TheVariants.{Empty}
use Rattle.hk_model.specs.declared.calls.Call.{Call}
use Rattle.hk_model.specs.declared.calls.Call.TheVariants as call
use Rattle.hk_model.specs.declared.lines.Line.{Line}
use Rattle.hk_rights.specs.Rights.{has, unconf_right}
use Rattle.hk_model.specs.State.{State, object, incarnation, same_name, same_inc}
use Rattle.hk_model.specs.Places as places
use Rattle.hk_model.specs.Places.{standing, rights_held, form_of, walk_end, named_by, found}
use Rattle.hk_model.specs.Lines.{done_call}
use Rattle.hk_model.specs.Ways.{Way, Walked, Stored, Lessened, Merged, Copied, CopyOf, Created, Formed, Emptied, way, call_way, returned_way}
use Rattle.hk_model.specs.Origins.{origin_of, line_origin}
use Rattle.hk_trace.specs.declared.chains.Place.{Place}
use Rattle.hk_trace.specs.declared.chains.Place.TheVariants.{SlotOf, EntryOf}
use Rattle.hk_trace.specs.declared.writings.CameFrom.{CameFrom}
use Rattle.hk_trace.specs.declared.writings.CameFrom.TheVariants as source
use Rattle.hk_trace.specs.Told.{meant}
use Rattle.hk_trace.specs.Held.{held_entry, held_at}
use Rattle.hk_trace.specs.Writings.{came, source_told, held_slots, held_list, held_space, leave_writing, writing_by, writing_of, source_in}

module _ (s : State) (inc : Inc) where
  -- a place that is written, or not
  one : (b : Bool) (w : Way) (x : CameFrom) → x ≡ source_told s (origin_of s inc w)
      → cond b x source.Nowhere ≡ source_told s (option_and_then (origin_of s inc) (cond b (Some w) None))
  one true w x h = h
  one false w x h = refl

  emptied : (b : Bool) → source.Nowhere ≡ source_told s (option_and_then (origin_of s inc) (cond b (Some Emptied) None))
  emptied true = refl
  emptied false = refl

  -- the entries of a list
  list_at : (name : Name) (k : ℕ) (es : List Entry) (i : ℕ) → slice_index_or (held_list name k es) i None ≡ held_entry (EntryOf name (k + i)) (slice_index_or es i Empty)
  list_at name k [] i = refl
  list_at name k (e ∷ es) zero = let h : k + zero ≡ k = omega arith in rw h refl
  list_at name k (e ∷ es) (suc i) = let h : k + suc i ≡ (k + 1) + i = omega arith in rw h (list_at name (k + 1) es i)

  from_first : (name : Name) (i : ℕ) → slice_index_or (held_list name 0 (object s name).entries) i None ≡ held_at s (places.EntryOf name i)
  from_first name i =
      let h : 0 + i ≡ i = omega arith in
      list_at name 0 (object s name).entries i ∙ ap (λ (n : ℕ). held_entry (EntryOf name n) (slice_index_or (object s name).entries i Empty)) h

  -- the slots of a new incarnation
  take_one : (param : Param) (params : List Param) (arg : ℕ) (args : List ℕ) → take (length (param ∷ params)) (arg ∷ args) ≡ arg ∷ take (length params) args
  take_one param params arg args = refl

  take_none : (n : ℕ) → take n (let none : List ℕ = [] in none) ≡ []
  take_none zero = refl
  take_none (suc n) = refl

  space_at : (name : Name) (confined : Bool) (args : List ℕ) (params : List Param) (n : ℕ)
      → came (slice_index_or (held_slots s inc (take (length params) args) ++ held_list name 0 (object s name).entries) n None)
      ≡ source_told s (origin_of s inc (call_way name confined args params n))
  space_at name confined (arg ∷ args) (param ∷ params) zero = refl
  space_at name confined (arg ∷ args) (param ∷ params) (suc n) = space_at name confined args params n
  space_at name confined [] params n = rw (take_none (length params), from_first name n) refl
  space_at name confined (arg ∷ args) [] n = rw (from_first name n) refl

  leave_told : (caller : Option Inc) (into : Slot) (give : Option Slot) (p : Place)
      → source_in (leave_writing s inc caller into give) p ≡ source_told s (option_and_then (origin_of s inc) (returned_way caller into.0 give (meant p)))
  leave_told None into give p = refl
  leave_told (Some caller) into None p = refl
  leave_told (Some caller) into (Some slot) (SlotOf i n) = one (same_inc i caller && n.0 == into.0) (Stored slot.0) (came (held_at s (places.SlotOf inc slot.0))) refl
  leave_told (Some caller) into (Some slot) (EntryOf a i) = refl

  -- every call
  writing_told : (c : Call) (p : Place) → source_in (writing_by s inc c) p ≡ source_told s (option_and_then (origin_of s inc) (way s inc c (meant p)))
  writing_told (call.Load path into) (SlotOf i n) = one (same_inc i inc && n.0 == into.0) (Walked path) (came (held_at s (walk_end s inc path))) refl
  writing_told (call.Load path into) (EntryOf a i) = refl
  writing_told (call.Store path at from) (SlotOf i n) = refl
  writing_told (call.Store path at from) (EntryOf a i) = one (same_name a (named_by s inc path) && i == at) (Stored from.0) (came (held_at s (places.SlotOf inc from.0))) refl
  writing_told (call.Append path from) (SlotOf i n) = refl
  writing_told (call.Append path from) (EntryOf a i) =
      one (same_name a (named_by s inc path) && i == length (object s (named_by s inc path)).entries) (Stored from.0) (came (held_at s (places.SlotOf inc from.0))) refl
  writing_told (call.Erase path at) (SlotOf i n) = refl
  writing_told (call.Erase path at) (EntryOf a i) = emptied (same_name a (named_by s inc path) && i == at)
  writing_told (call.Drop slot) (SlotOf i n) = emptied (same_inc i inc && n.0 == slot.0)
  writing_told (call.Drop slot) (EntryOf a i) = refl
  writing_told (call.Restrict slot keep) (SlotOf i n) = one (same_inc i inc && n.0 == slot.0) (Lessened slot.0 keep) (came (held_at s (places.SlotOf inc slot.0))) refl
  writing_told (call.Restrict slot keep) (EntryOf a i) = refl
  writing_told (call.MakeTemplate path kind into) (SlotOf i n) = one (same_inc i inc && n.0 == into.0) (Formed path kind) source.Made refl
  writing_told (call.MakeTemplate path kind into) (EntryOf a i) = refl
  writing_told (call.Create path into) (SlotOf i n) = one (same_inc i inc && n.0 == into.0) (Created path) source.Made refl
  writing_told (call.Create path into) (EntryOf a i) = refl
  writing_told (call.Merge path cap into) (SlotOf i n) =
      one (same_inc i inc && n.0 == into.0) (Merged cap.0 (form_of (standing s (walk_end s inc path)))) (came (held_at s (places.SlotOf inc cap.0))) refl
  writing_told (call.Merge path cap into) (EntryOf a i) = refl
  writing_told (call.Copy path into) (SlotOf i n) = one (same_inc i inc && n.0 == into.0) (CopyOf path) source.Made refl
  writing_told (call.Copy path into) (EntryOf a i) =
      one (same_name a s.next_name) (Copied path i) (came (slice_index_or (held_list (named_by s inc path) 0 (object s (named_by s inc path)).entries) i None))
      (ap came (from_first (named_by s inc path) i))
  writing_told (call.Enter path args into) (SlotOf i n) =
      one (same_inc i s.next_inc)
      (call_way (named_by s inc path) (not (has (rights_held (found s inc path)) unconf_right)) args (object s (named_by s inc path)).params n.0)
      (came (slice_index_or (held_space s inc (named_by s inc path) args (object s (named_by s inc path))) n.0 None))
      (space_at (named_by s inc path) (not (has (rights_held (found s inc path)) unconf_right)) args (object s (named_by s inc path)).params n.0)
  writing_told (call.Enter path args into) (EntryOf a i) = refl
  writing_told (call.Leave give) p = leave_told (incarnation s inc).caller (incarnation s inc).into give p
  writing_told (call.Get of at) p = refl
  writing_told (call.Put of at word) p = refl
  writing_told (call.Add of word) p = refl
  writing_told (call.Length of) p = refl
  writing_told (call.Look of) p = refl
  writing_told (call.P of) p = refl
  writing_told (call.V of) p = refl
  writing_told call.Yield p = refl

-- every line
pub line_told : (s : State) (line : Line) (p : Place) → source_in (writing_of s line.inc (done_call line)) p ≡ source_told s (line_origin s line (meant p))
line_told s line p = by (done_call line)
  where
    by : (o : Option Call) → source_in (writing_of s line.inc o) p
        ≡ source_told s (option_and_then (origin_of s line.inc) (option_and_then (λ c. way s line.inc c (meant p)) o))
    by None = refl
    by (Some c) = writing_told s line.inc c p
