-- Contexts of a world. docs/RULES.md, "Control of a process".
use Rattle.std.specs.Prelude.{Bool, true, false, ◌<◌, ◌≤◌, List, [], ◌∷◌, length}
use Rattle.std.specs.List.{AllByRecursion}
use Rattle.hk_model.specs.declared.calls.Call.{Call}
use Rattle.hk_model.specs.declared.calls.Call.TheVariants as call
use Rattle.hk_model.specs.declared.calls.Reply.{Reply}
use Rattle.hk_model.specs.declared.calls.Reply.TheVariants.{Done}
use Rattle.hk_model.specs.declared.frames.Frame.{Frame}
use Rattle.hk_model.specs.Control.{steps_of, behind}
use Rattle.hk_model.specs.WorldValue.{WorldValue}

-- a frame of a code of the world, at one of its instructions or at its end
abbrev pub IsFrame : WorldValue → Frame → Type 0
IsFrame w f = (f.code < length w.codes) × (f.at ≤ length (steps_of w f.code))

-- frames of the world
abbrev pub AreFrames : WorldValue → List Frame → Type 0
AreFrames w frames = AllByRecursion (IsFrame w) frames

-- a return that was done
abbrev pub is_return : Call → Reply → Bool
is_return (call.Leave give) Done = true
is_return _ _ = false

-- the frames, the current one behind its answered call
abbrev pub behind_top : WorldValue → List Frame → Reply → List Frame
behind_top w [] reply = []
behind_top w (f ∷ rest) reply = behind w f reply ∷ rest

-- there is no frame
abbrev pub has_no_frame : List Frame → Bool
has_no_frame [] = true
has_no_frame (f ∷ frames) = false
