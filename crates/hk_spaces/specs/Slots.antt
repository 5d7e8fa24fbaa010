-- The frames of stacks, as slots are written. docs/RULES.md, "Objects, incarnations, processes".
use Rattle.std.specs.Prelude.{ℕ, ◌≤◌, ◌-◌, List, length, Option, Some, None, slice_get, slice_set}
use Rattle.hk_model.specs.declared.entries.Entry.{Entry}
use Rattle.hk_spaces.specs.declared.stack.Linkage.{Linkage}
use Rattle.hk_spaces.specs.declared.stack.StackFrame.{StackFrame}

-- the frame with an entry in a slot
abbrev pub with_slot : StackFrame → ℕ → Entry → StackFrame
with_slot frame slot entry = record frame { space = slice_set frame.space slot entry }

-- the frames with an entry in a slot of the frame at a place, if there is one
abbrev pub with_changed : List StackFrame → ℕ → Option StackFrame → ℕ → Entry → List StackFrame
with_changed frames at None slot entry = frames
with_changed frames at (Some frame) slot entry = slice_set frames at (with_slot frame slot entry)

-- the frames with an entry in a slot of the last one
abbrev pub with_top : List StackFrame → ℕ → Entry → List StackFrame
with_top frames slot entry = let last = length frames - 1 in with_changed frames last (slice_get frames last) slot entry

-- the frame of a call
abbrev pub called_frame : List Entry → Linkage → StackFrame
called_frame space linkage =
    record { space = space; inc = linkage.inc; into = linkage.into; confined = linkage.confined; procedure = Some linkage.procedure }

-- there is a place for each of so many frames, and at most 64 places
pub record HasPlaces (depth : ℕ) (places : List StackFrame) : Type 0 where
  pub placed : depth ≤ length places
  pub few : length places ≤ 64
