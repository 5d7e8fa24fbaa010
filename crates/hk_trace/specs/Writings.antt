-- What each line writes, and from where: kept of a line once its state has gone. And the way back over such writings.
-- docs/RULES.md, "Where entries come from".
use Rattle.std.specs.Prelude.{ℕ, zero, suc, ◌+◌, ◌==◌, ◌&&◌, List, [], ◌∷◌, ◌++◌, length, map, take, slice_index_or, Option, Some, None, if◌then◌else◌}
use Rattle.hk_model.specs.declared.names.Name.{Name}
use Rattle.hk_model.specs.declared.names.Inc.{Inc}
use Rattle.hk_model.specs.declared.names.Slot.{Slot}
use Rattle.hk_model.specs.declared.entries.Entry.{Entry}
use Rattle.hk_model.specs.declared.calls.Call.{Call}
use Rattle.hk_model.specs.declared.calls.Call.TheVariants as call
use Rattle.hk_model.specs.declared.lines.Line.{Line}
use Rattle.hk_model.specs.declared.objects.Object.{Object}
use Rattle.hk_model.specs.WorldValue.{WorldValue}
use Rattle.hk_model.specs.Running.{Machine, moved}
use Rattle.hk_model.specs.State.{State, object, incarnation, same_name, same_inc}
use Rattle.hk_model.specs.Places as places
use Rattle.hk_model.specs.Places.{walk_end, named_by}
use Rattle.hk_model.specs.Lines.{done_call}
use Rattle.hk_model.specs.Origins as origins
use Rattle.hk_trace.specs.declared.chains.Place.{Place}
use Rattle.hk_trace.specs.declared.chains.Place.TheVariants.{SlotOf, EntryOf}
use Rattle.hk_trace.specs.declared.chains.Standing.{Standing}
use Rattle.hk_trace.specs.declared.chains.Origin.TheVariants.{Opening, Made}
use Rattle.hk_trace.specs.declared.writings.CameFrom.{CameFrom}
use Rattle.hk_trace.specs.declared.writings.CameFrom.TheVariants as source
use Rattle.hk_trace.specs.declared.writings.Writing.{Writing}
use Rattle.hk_trace.specs.declared.writings.Writing.TheVariants as writing
use Rattle.hk_trace.specs.declared.following.WayBack.{WayBack}
use Rattle.hk_trace.specs.Held.{held_entry, held_at}

-- ---- sources

-- the source of an entry that came from a place: nothing came where nothing stood there
abbrev pub came : Option Standing → CameFrom
came None = source.Nowhere
came (Some from) = source.Came from

-- an origin as a source
abbrev pub source_told : State → Option origins.Origin → CameFrom
source_told s None = source.Nowhere
source_told s (Some (origins.From place)) = came (held_at s place)
source_told s (Some (origins.Through place form)) = came (held_at s place)
source_told s (Some (origins.Made by target)) = source.Made

-- what the slots of an incarnation hold
abbrev pub held_slots : State → Inc → List ℕ → List (Option Standing)
held_slots s inc slots = map (λ slot. held_at s (places.SlotOf inc slot)) slots

-- what the entries of an object hold, from an index on
abbrev pub held_list : Name → ℕ → List Entry → List (Option Standing)
held_list name index [] = []
held_list name index (entry ∷ rest) = held_entry (EntryOf name index) entry ∷ held_list name (index + 1) rest

-- where the slots of a new incarnation come from: the arguments, as many as there are parameters, and then the procedure's entries
abbrev pub held_space : State → Inc → Name → List ℕ → Object → List (Option Standing)
held_space s inc name args o = held_slots s inc (take (length o.params) args) ++ held_list name 0 o.entries

-- ---- writings

-- a return hands what a slot holds to the caller's slot
abbrev pub leave_writing : State → Inc → Option Inc → Slot → Option Slot → Writing
leave_writing s inc (Some caller) into (Some slot) = writing.InSlot caller into (held_at s (places.SlotOf inc slot.0))
leave_writing s inc (Some caller) into None = writing.Nothing
leave_writing s inc None into give = writing.Nothing

-- what a call that moves one entry writes, and from where; another call nothing
abbrev pub moving_writing : State → Inc → Call → Writing
moving_writing s inc (call.Load path into) = writing.InSlot inc into (held_at s (walk_end s inc path))
moving_writing s inc (call.Store path at from) = writing.InList (named_by s inc path) at (held_at s (places.SlotOf inc from.0))
moving_writing s inc (call.Append path from) =
    writing.InList (named_by s inc path) (length (object s (named_by s inc path)).entries) (held_at s (places.SlotOf inc from.0))
moving_writing s inc (call.Restrict slot keep) = writing.InSlot inc slot (held_at s (places.SlotOf inc slot.0))
moving_writing s inc (call.Merge path cap into) = writing.InSlot inc into (held_at s (places.SlotOf inc cap.0))
moving_writing s inc _ = writing.Nothing

-- what a call that is done writes, and from where
abbrev pub writing_by : State → Inc → Call → Writing
writing_by s inc (call.MakeTemplate path kind into) = writing.NewInSlot inc into
writing_by s inc (call.Create path into) = writing.NewInSlot inc into
writing_by s inc (call.Copy path into) = writing.InCopy inc into s.next_name (held_list (named_by s inc path) 0 (object s (named_by s inc path)).entries)
writing_by s inc (call.Enter path args into) =
    writing.InSpace s.next_inc (held_space s inc (named_by s inc path) args (object s (named_by s inc path)))
writing_by s inc (call.Leave give) = leave_writing s inc (incarnation s inc).caller (incarnation s inc).into give
writing_by s inc c = moving_writing s inc c

-- of a call, or none
abbrev pub writing_of : State → Inc → Option Call → Writing
writing_of s inc None = writing.Nothing
writing_of s inc (Some c) = writing_by s inc c

-- where a writing has what it wrote at a place from; from nowhere where it did not write there, or nothing
abbrev pub source_in : Writing → Place → CameFrom
source_in writing.Nothing p = source.Nowhere
source_in (writing.InSlot inc into from) (SlotOf i n) = if same_inc i inc && n.0 == into.0 then came from else source.Nowhere
source_in (writing.InSlot inc into from) (EntryOf a i) = source.Nowhere
source_in (writing.NewInSlot inc into) (SlotOf i n) = if same_inc i inc && n.0 == into.0 then source.Made else source.Nowhere
source_in (writing.NewInSlot inc into) (EntryOf a i) = source.Nowhere
source_in (writing.InList name at from) (SlotOf i n) = source.Nowhere
source_in (writing.InList name at from) (EntryOf a i) = if same_name a name && i == at then came from else source.Nowhere
source_in (writing.InCopy inc into name held) (SlotOf i n) = if same_inc i inc && n.0 == into.0 then source.Made else source.Nowhere
source_in (writing.InCopy inc into name held) (EntryOf a i) = if same_name a name then came (slice_index_or held i None) else source.Nowhere
source_in (writing.InSpace inc held) (SlotOf i n) = if same_inc i inc then came (slice_index_or held n.0 None) else source.Nowhere
source_in (writing.InSpace inc held) (EntryOf a i) = source.Nowhere

-- the writings of the lines of a history, from a machine on
abbrev pub writings_of : WorldValue → Machine → List Line → List Writing
writings_of w m [] = []
writings_of w m (line ∷ lines) = writing_of m.state line.inc (done_call line) ∷ writings_of w (moved w m line.cpu) lines

-- ---- the way back

-- the links that lead back from a place, and where they end, after a line, by the trails before it
abbrev pub trail_by : ℕ → CameFrom → (Place → WayBack) → Place → WayBack
trail_by line source.Nowhere before p = before p
trail_by line (source.Came from) before p =
    record { links = record { line = line; from = from } ∷ (before from.place).links; origin = (before from.place).origin }
trail_by line source.Made before p = record { links = []; origin = Made line }

-- the writing of a line, counted from 0
abbrev pub writing_at : List Writing → ℕ → Writing
writing_at writings n = slice_index_or writings n writing.Nothing

-- the way back from a place after so many writings
abbrev pub way_back : List Writing → ℕ → Place → WayBack
way_back writings zero p = record { links = []; origin = Opening }
way_back writings (suc n) p = trail_by (suc n) (source_in (writing_at writings n) p) (way_back writings n) p
