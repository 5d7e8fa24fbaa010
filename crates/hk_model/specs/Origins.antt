-- The origin of each entry that a line writes: the plain reading of its way. docs/RULES.md, "Where entries come from".
use Rattle.std.specs.Prelude.{Option, Some, None}
use Rattle.std.specs.Option.{option_and_then}
use Rattle.hk_model.specs.declared.names.Name.{Name}
use Rattle.hk_model.specs.declared.names.Inc.{Inc}
use Rattle.hk_model.specs.declared.entries.Param.{Param}
use Rattle.hk_model.specs.declared.entries.Entry.{Entry}
use Rattle.hk_model.specs.declared.lines.Line.{Line}
use Rattle.hk_model.specs.State.{State}
use Rattle.hk_model.specs.Places.{Place, SlotOf, EntryOf, walk_end, named_by, found}
use Rattle.hk_model.specs.Ways.{Way, Walked, Stored, Lessened, Merged, Inherited, Copied, CopyOf, Created, Formed, Emptied, line_way}

-- the call that made an entry, with the name of the new object
pub data Maker : Type 0 where
  ByCreate : (new : Name) → Maker
  ByCopy : (new : Name) → Maker
  ByMakeTemplate : Maker

-- where an entry comes from: a place; a slot, through a template; or the call that made it, with the target of its path
pub data Origin : Type 0 where
  From : (place : Place) → Origin
  Through : (slot : Place) (form : Param) → Origin
  Made : (by : Maker) (target : Entry) → Origin

-- the origin of a way: none where nothing is written but that the place is empty
abbrev pub origin_of : State → Inc → Way → Option Origin
origin_of s inc (Walked path) = Some (From (walk_end s inc path))
origin_of s inc (Stored slot) = Some (From (SlotOf inc slot))
origin_of s inc (Lessened slot keep) = Some (From (SlotOf inc slot))
origin_of s inc (Merged slot form) = Some (Through (SlotOf inc slot) form)
origin_of s inc (Inherited procedure index confined) = Some (From (EntryOf procedure index))
origin_of s inc (Copied path index) = Some (From (EntryOf (named_by s inc path) index))
origin_of s inc (CopyOf path) = Some (Made (ByCopy s.next_name) (found s inc path))
origin_of s inc (Created path) = Some (Made (ByCreate s.next_name) (found s inc path))
origin_of s inc (Formed path kind) = Some (Made ByMakeTemplate (found s inc path))
origin_of s inc Emptied = None

-- the origin of each place that a line writes with an entry; none of a place that it leaves, or empties
abbrev pub line_origin : State → Line → Place → Option Origin
line_origin s line p = option_and_then (origin_of s line.inc) (line_way s line p)
