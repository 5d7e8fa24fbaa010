-- The places that a line used. docs/RULES.md, "Traced descent".
use Rattle.std.specs.Prelude.{ℕ, ◌+◌, ◌==◌, Bool, false, not, ◌&&◌, ◌||◌, List, [], ◌∷◌, ◌++◌, length, map, filter, Option, Some, None, nat_lt, if◌then◌else◌}
use Rattle.hk_model.specs.declared.names.Inc.{Inc}
use Rattle.hk_model.specs.declared.calls.Call.{Call}
use Rattle.hk_model.specs.declared.calls.Refusal.{Refusal}
use Rattle.hk_model.specs.declared.calls.Refusal.TheVariants as refused
use Rattle.hk_model.specs.declared.calls.Reply.{Reply}
use Rattle.hk_model.specs.declared.calls.Reply.TheVariants as reply
use Rattle.hk_model.specs.declared.lines.What.{What}
use Rattle.hk_model.specs.declared.lines.What.TheVariants as what
use Rattle.hk_model.specs.declared.lines.Line.{Line}
use Rattle.hk_model.specs.State.{State}
use Rattle.hk_model.specs.Places.{Place, SlotOf, standing, is_empty, passed}
use Rattle.hk_trace.specs.Carried.{call_path, has_at, carried_slots, carried_step}

-- the places of the order of refusals
abbrev pub slots_tested : ℕ
slots_tested = 1

abbrev pub path_walked : ℕ
path_walked = 2

abbrev pub type_tested : ℕ
type_tested = 3

abbrev pub rights_tested : ℕ
rights_tested = 4

abbrev pub at_tested : ℕ
at_tested = 5

abbrev pub arguments_counted : ℕ
arguments_counted = 6

abbrev pub carried_tested : ℕ
carried_tested = 7

abbrev pub limits_tested : ℕ
limits_tested = 8

-- the step of a refusal, if it tells one
abbrev pub step_of : Refusal → Option ℕ
step_of (refused.Range step) = Some step
step_of (refused.Empty step) = Some step
step_of (refused.NotCap step) = Some step
step_of (refused.Denied step right) = Some step
step_of (refused.WrongType step) = Some step
step_of (refused.BadTemplate step) = Some step
step_of refused.Count = None
step_of (refused.Full what) = None
step_of refused.Deep = None

-- a place of the order for a step of the path, and another for a step behind it
abbrev pub on_path : Call → ℕ → ℕ → ℕ → ℕ
on_path c step walked behind = if nat_lt step (length (call_path c)) then walked else behind

-- of a step behind the path: the test of `at`, or of a slot's number
abbrev pub behind_path : Call → ℕ → ℕ
behind_path c step = if has_at c && step == length (call_path c) then at_tested else slots_tested

-- of a step of the path: the walk, or at the last step the rights of the target
abbrev pub rights_place : Call → ℕ → ℕ
rights_place c step = if step + 1 == length (call_path c) then rights_tested else path_walked

-- the place of a refusal of a call in the order of refusals
abbrev pub order_of : Call → Refusal → ℕ
order_of c (refused.Range step) = on_path c step path_walked (behind_path c step)
order_of c (refused.Empty step) = on_path c step path_walked carried_tested
order_of c (refused.NotCap step) = on_path c step path_walked carried_tested
order_of c (refused.Denied step right) = on_path c step (rights_place c step) carried_tested
order_of c (refused.WrongType step) = on_path c step type_tested carried_tested
order_of c (refused.BadTemplate step) = path_walked
order_of c refused.Count = arguments_counted
order_of c (refused.Full what) = limits_tested
order_of c refused.Deep = limits_tested

-- a place that a call looks at: where in the order of refusals, and for which of its steps
pub record Looked : Type 0 where
  pub order : ℕ
  pub step : ℕ
  pub place : Place

-- places that are looked at in one place of the order, for steps that count on from this one
abbrev pub looked_from : ℕ → ℕ → List Place → List Looked
looked_from order step [] = []
looked_from order step (place ∷ rest) = record { order = order; step = step; place = place } ∷ looked_from order (step + 1) rest

-- all places that a call looks at, by their steps: those of its path, and the slots that it carries
abbrev pub looked_at : State → Inc → Call → List Looked
looked_at s inc c =
    looked_from path_walked 0 (passed s inc (call_path c)) ++ looked_from carried_tested (carried_step c) (map (λ slot. SlotOf inc slot) (carried_slots c))

-- a step that is told is below this one
abbrev pub is_below : Option ℕ → ℕ → Bool
is_below None step = false
is_below (Some told) step = nat_lt told step

-- the refusal stands at an earlier step than this, or in an earlier place of the order
abbrev pub is_refused_before : Call → Reply → ℕ → ℕ → Bool
is_refused_before c (reply.No refusal) order step = is_below (step_of refusal) step || nat_lt (order_of c refusal) order
is_refused_before c reply.Done order step = false
is_refused_before c (reply.Word word) order step = false
is_refused_before c reply.Waits order step = false

-- it is used: something stands there, and the call was not refused before
abbrev pub is_used : State → Call → Reply → Looked → Bool
is_used s c reply l = not (is_empty (standing s l.place)) && not (is_refused_before c reply l.order l.step)

-- the places that an event with this reply used
abbrev pub used_by : State → Inc → What → Reply → List Looked
used_by s inc (what.Call c) reply = filter (is_used s c reply) (looked_at s inc c)
used_by s inc what.Dispatch reply = []
used_by s inc what.Halt reply = []

-- the places that a line used, from the state before it
abbrev pub used : State → Line → List Looked
used s line = used_by s line.inc line.what line.reply
