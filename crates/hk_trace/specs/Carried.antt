-- The operands of each call, by their steps: its path, `at`, and the slots that it carries. docs/RULES.md, "Step numbers"
-- and "The table of the calls".
use Rattle.std.specs.Prelude.{ℕ, ◌+◌, Bool, true, false, List, [], ◌∷◌, length, Some, if◌then◌else◌}
use Rattle.hk_model.specs.declared.calls.Call.{Call}
use Rattle.hk_model.specs.declared.calls.Call.TheVariants as call

-- the path of a call, whose indices are its first steps; none of a call without one
abbrev pub call_path : Call → List ℕ
call_path (call.Get of at) = of
call_path (call.Put of at word) = of
call_path (call.Add of word) = of
call_path (call.Length of) = of
call_path (call.Load from into) = from
call_path (call.Store list at from) = list
call_path (call.Append list from) = list
call_path (call.Erase list at) = list
call_path (call.Drop slot) = []
call_path (call.Restrict slot keep) = []
call_path (call.Look of) = of
call_path (call.MakeTemplate of making into) = of
call_path (call.Create by into) = by
call_path (call.Merge with cap into) = with
call_path (call.Copy of into) = of
call_path (call.Enter proc args into) = proc
call_path (call.Leave give) = []
call_path (call.P of) = of
call_path (call.V of) = of
call_path call.Yield = []

-- the call has an index `at`, whose step is the next behind its path
abbrev pub has_at : Call → Bool
has_at (call.Get of at) = true
has_at (call.Put of at word) = true
has_at (call.Store list at from) = true
has_at (call.Erase list at) = true
has_at _ = false

-- the slots that a call carries, in the order of its text: FROM, CAP, each ARG, and the slot of a Restrict and of a return
abbrev pub carried_slots : Call → List ℕ
carried_slots (call.Store list at from) = from.0 ∷ []
carried_slots (call.Append list from) = from.0 ∷ []
carried_slots (call.Restrict slot keep) = slot.0 ∷ []
carried_slots (call.Merge with cap into) = cap.0 ∷ []
carried_slots (call.Enter proc args into) = args
carried_slots (call.Leave (Some slot)) = slot.0 ∷ []
carried_slots _ = []

-- the step of the first of them
abbrev pub carried_step : Call → ℕ
carried_step c = length (call_path c) + (if has_at c then 1 else 0)
