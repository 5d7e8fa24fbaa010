-- What the lines of a history have done, and what is told of a history line by line. docs/RULES.md, "Under a call".
use Rattle.std.specs.Prelude.{ℕ, zero, suc, Bool, true, false, List, [], ◌∷◌, length, slice_get, Option, Some, None, option_map, if◌then◌else◌}
use Rattle.std.specs.Option.{option_and_then}
use Rattle.hk_model.specs.declared.names.Name.{Name}
use Rattle.hk_model.specs.declared.names.Inc.{Inc}
use Rattle.hk_model.specs.declared.entries.Cap.{Cap}
use Rattle.hk_model.specs.declared.calls.Call.{Call}
use Rattle.hk_model.specs.declared.calls.Call.TheVariants as call
use Rattle.hk_model.specs.declared.calls.Reply.{Reply}
use Rattle.hk_model.specs.declared.lines.What.{What}
use Rattle.hk_model.specs.declared.lines.What.TheVariants as what
use Rattle.hk_model.specs.declared.lines.Line.{Line}
use Rattle.hk_model.specs.WorldValue.{WorldValue}
use Rattle.hk_model.specs.State.{State}
use Rattle.hk_model.specs.Control.{is_refusal}
use Rattle.hk_model.specs.Running.{Machine, moved}
use Rattle.hk_model.specs.Places.{cap_found}

-- the call that is done by an event with this reply: none for a refusal, a dispatch or a halt
abbrev pub done_by : What → Reply → Option Call
done_by (what.Call c) reply = if is_refusal reply then None else Some c
done_by what.Dispatch reply = None
done_by what.Halt reply = None

-- the call that a line has done
abbrev pub done_call : Line → Option Call
done_call line = done_by line.what line.reply

-- a Create or a Copy was done
abbrev pub makes_object : Option Call → Bool
makes_object (Some (call.Create by into)) = true
makes_object (Some (call.Copy of into)) = true
makes_object _ = false

-- an Enter was done
abbrev pub enters_call : Option Call → Bool
enters_call (Some (call.Enter path args into)) = true
enters_call _ = false

-- a Leave was done
abbrev pub leaves_call : Option Call → Bool
leaves_call (Some (call.Leave give)) = true
leaves_call _ = false

-- how many parameters the call has that an Enter makes: as many as its arguments
abbrev pub param_count : Option Call → ℕ
param_count (Some (call.Enter path args into)) = length args
param_count _ = 0

-- the path to the object that is changed, where a Put, Add, Store, Append, Erase, P or V was done
abbrev pub changes_path : Option Call → Option (List ℕ)
changes_path (Some (call.Put of at word)) = Some of
changes_path (Some (call.Add of word)) = Some of
changes_path (Some (call.Store list at from)) = Some list
changes_path (Some (call.Append list from)) = Some list
changes_path (Some (call.Erase list at)) = Some list
changes_path (Some (call.P of)) = Some of
changes_path (Some (call.V of)) = Some of
changes_path _ = None

-- the object that a call of an incarnation changes where it is done, from the state before it
abbrev pub changed_by : State → Inc → Option Call → Option Name
changed_by s inc c = option_map (λ (cap : Cap). cap.name) (option_and_then (cap_found s inc) (changes_path c))

-- the object that a line changes, from the state before it
abbrev pub changed : State → Line → Option Name
changed s line = changed_by s line.inc (done_call line)

-- the line that leads to a moment, which is after so many lines
abbrev pub line_before : List Line → ℕ → Option Line
line_before lines zero = None
line_before lines (suc earlier) = slice_get lines earlier

-- what is told of a history from a machine on: of each line, from the states before and after it
abbrev pub told : {G : Type 0} → (State → Line → State → G → G) → WorldValue → Machine → List Line → G → G
told f w m [] so_far = so_far
told f w m (line ∷ lines) so_far = told f w (moved w m line.cpu) lines (f m.state line (moved w m line.cpu).state so_far)
