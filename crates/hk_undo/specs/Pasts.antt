-- Lines taken back. docs/RULES.md, "Lines taken back".
use Rattle.std.specs.Prelude.{◌≡◌, ℕ, ◌<◌, List, [], ◌∷◌, ◌++◌, length, Option, Some, None, IfSome, drop, map, slice_set}
use Rattle.hk_model.specs.declared.names.Cpu.{Cpu}
use Rattle.hk_model.specs.declared.names.Proc.{Proc}
use Rattle.hk_model.specs.declared.calls.Call.{Call}
use Rattle.hk_model.specs.declared.calls.Call.TheVariants as call
use Rattle.hk_model.specs.declared.calls.Reply.{Reply}
use Rattle.hk_model.specs.declared.calls.Reply.TheVariants.{Done}
use Rattle.hk_model.specs.declared.frames.Frame.{Frame}
use Rattle.hk_model.specs.declared.lines.Line.{Line}
use Rattle.hk_model.specs.Limits.{depth_limit}
use Rattle.hk_model.specs.WorldValue.{WorldValue, IsWorld}
use Rattle.hk_model.specs.Control.{Context}
use Rattle.hk_model.specs.Running.{Machine, after_lines, context_of, moved, opened, step}
use Rattle.hk_plain.specs.Changes.{IsBehind, taken_back}
use Rattle.hk_undo.specs.declared.frames.FramesBefore.{FramesBefore}
use Rattle.hk_undo.specs.declared.frames.FramesBefore.TheVariants.{Changed, Entered, Left, Halted}
use Rattle.hk_undo.specs.declared.reversible.Made.{Made}

-- a world, and the lines that were made of it
pub record History : Type 0 where
  pub world : WorldValue
  pub lines : List Line

-- the machine after these lines
abbrev pub machine_after : History → Machine
machine_after h = after_lines h.world (opened h.world) h.lines

-- the history with one line more
abbrev pub with_line : History → Line → History
with_line h line = record h { lines = h.lines ++ line ∷ [] }

-- ---- frames

-- what a call keeps of the current frame as it was before: an entered procedure has one more, and a return one less
abbrev pub frames_kept : Call → Reply → Option ℕ → Frame → FramesBefore
frames_kept c reply (Some code) frame = Entered frame
frames_kept (call.Leave give) Done None frame = Left frame
frames_kept _ reply None frame = Changed frame

-- the frames before an event, from those behind it
abbrev pub frames_back : FramesBefore → Context → Context
frames_back (Changed frame) frames = frame ∷ drop 1 frames
frames_back (Entered frame) frames = frame ∷ drop 2 frames
frames_back (Left frame) frames = frame ∷ frames
frames_back (Halted old) frames = old

-- the frames behind it have what is written over, or room for what is put back
abbrev pub CanPutBack : FramesBefore → Context → Type 0
CanPutBack (Changed frame) frames = 0 < length frames
CanPutBack (Entered frame) frames = 1 < length frames
CanPutBack (Left frame) frames = length frames < depth_limit
CanPutBack (Halted old) frames = Unit {0}

-- what was kept leads from the frames behind an event to those before it
pub record LeadsBack (kept : FramesBefore) (behind before : Context) : Type 0 where
  pub can : CanPutBack kept behind
  pub back : frames_back kept behind ≡ before

-- ---- lines

-- the contexts before the line of a process, from those behind it
abbrev pub contexts_back : Machine → Proc → Option FramesBefore → List Context
contexts_back m proc None = m.contexts
contexts_back m proc (Some kept) = slice_set m.contexts proc.0 (frames_back kept (context_of m proc))

-- the machine before a line, from the one behind it
abbrev pub machine_back : Made → Machine → Machine
machine_back made m = record { state = taken_back made.inverse m.state; contexts = contexts_back m made.line.proc made.frames }

-- the machine behind a line is such that it can be taken back
pub record CanGoBack (made : Made) (m : Machine) : Type 0 where
  pub state : IsBehind made.inverse m.state
  pub frames : IfSome made.frames (λ kept. (made.line.proc.0 < length m.contexts) × CanPutBack kept (context_of m made.line.proc))

-- a line that was made by the step of a processor, and what was kept of it leads back
pub record IsMade (w : WorldValue) (before : Machine) (cpu : Cpu) (made : Made) (behind : Machine) : Type 0 where
  pub step : step w before cpu ≡ Some (made.line, behind)
  pub can : CanGoBack made behind
  pub back : machine_back made behind ≡ before

abbrev pub lines_of : List Made → List Line
lines_of made = map (λ (m : Made). m.line) made

-- these lead from one machine to another, line by line
abbrev pub AreMade : WorldValue → Machine → List Made → Machine → Type 0
AreMade w m [] last = last ≡ m
AreMade w m (made ∷ more) last = IsMade w m made.line.cpu made (moved w m made.line.cpu) × AreMade w (moved w m made.line.cpu) more last

-- what was made of a world, and the machine behind it
pub record IsPast (w : WorldValue) (m : Machine) (made : List Made) : Type 0 where
  pub world : IsWorld w
  pub lines : AreMade w (opened w) made m
