-- What has stood in the list of each object, from which moment to which. docs/RULES.md, "Reaches".
use Rattle.std.specs.Prelude.{◌≡◌, ◌<◌, ◌≤◌, ℕ, zero, suc, ◌+◌, ◌-◌, ◌==◌, ◌&&◌, Bool, true, false, List, [], ◌∷◌, ◌++◌, length, replicate, nat_lt, slice_get, slice_set, slice_index_or}
use Rattle.std.specs.Prelude.{Option, Some, None, option_map, is_some}
use Rattle.std.specs.Option.{option_and_then}
use Rattle.hk_model.specs.declared.names.Name.{Name}
use Rattle.hk_model.specs.declared.names.Inc.{Inc}
use Rattle.hk_model.specs.declared.entries.Cap.{Cap}
use Rattle.hk_model.specs.declared.entries.Entry.{Entry}
use Rattle.hk_model.specs.declared.lines.Line.{Line}
use Rattle.hk_model.specs.WorldValue.{WorldValue}
use Rattle.hk_model.specs.State.{State, object}
use Rattle.hk_model.specs.Places.{cap_of}
use Rattle.hk_model.specs.Running.{Machine, opened, moved}
use Rattle.hk_report.specs.declared.doings.Doing.{Doing}
use Rattle.hk_report.specs.declared.histories.Since.{Since}
use Rattle.hk_report.specs.declared.histories.Span.{Span}
use Rattle.hk_report.specs.declared.histories.History.{History}
use Rattle.hk_report.specs.Doings.{doing}

-- the capability at an index of a list
abbrev pub cap_at : List Entry → ℕ → Option Cap
cap_at entries index = option_and_then cap_of (slice_get entries index)

abbrev pub same_cap : Cap → Cap → Bool
same_cap a b = a.name.0 == b.name.0 && a.rights == b.rights

-- what stood at an index stands there still
abbrev pub stays : Option Since → Option Cap → Bool
stays None new = false
stays (Some since) None = false
stays (Some since) (Some cap) = same_cap since.cap cap

-- the same stands at an index as before: a capability, or none
abbrev pub same_at : Option Since → Option Cap → Bool
same_at None None = true
same_at None (Some cap) = false
same_at (Some since) new = stays (Some since) new

-- the same stands in a list as before
pub record StaysListed (now : List (Option Since)) (entries : List Entry) : Type 0 where
  pub within : length entries ≤ length now
  pub each : (k : ℕ) → k < length now → same_at (slice_index_or now k None) (cap_at entries k) ≡ true

-- what stands at an index from a moment on
abbrev pub from_now : ℕ → Cap → Since
from_now moment cap = record { cap = cap; from = moment }

abbrev pub since_by : ℕ → Option Since → Option Cap → Option Since
since_by moment old new = elim (stays old new) [ true ↦ old | false ↦ option_map (from_now moment) new ]

-- what stood at an index up to a moment
abbrev pub up_to : ℕ → ℕ → Since → Span
up_to moment index since = record { index = index; cap = since.cap; from = since.from; until = moment }

abbrev pub ended_by : ℕ → ℕ → Option Since → Option Cap → Option Span
ended_by moment index old new = elim (stays old new) [ true ↦ None | false ↦ option_map (up_to moment index) old ]

abbrev pub added : Option Span → List Span
added None = []
added (Some span) = span ∷ []

-- nothing stands at the indices that come later
abbrev pub padded : List (Option Since) → ℕ → List (Option Since)
padded now count = now ++ replicate (count - length now) None

-- what stands at the indices from one on, where a list has these entries from a moment on
abbrev pub sinces : ℕ → List Entry → ℕ → List (Option Since) → List (Option Since)
sinces moment entries index [] = []
sinces moment entries index (old ∷ olds) = since_by moment old (cap_at entries index) ∷ sinces moment entries (index + 1) olds

-- and what stood there up to that moment
abbrev pub ended : ℕ → List Entry → ℕ → List (Option Since) → List Span
ended moment entries index [] = []
ended moment entries index (old ∷ olds) = added (ended_by moment index old (cap_at entries index)) ++ ended moment entries (index + 1) olds

-- a list has these entries from a moment on
abbrev pub relisted : ℕ → Option Inc → List Entry → History → History
relisted moment maker entries h = record {
  maker = elim (is_some maker) [ true ↦ maker | false ↦ h.maker ];
  now = sinces moment entries 0 (padded h.now (length entries));
  spans = h.spans ++ ended moment entries 0 (padded h.now (length entries));
}

abbrev pub no_history : History
no_history = record { maker = None; now = []; spans = [] }

-- the history of the object of this name
abbrev pub history_of : List History → Name → History
history_of histories name = slice_index_or histories name.0 no_history

-- the list of the object of this name has these entries from a moment on
abbrev pub touched : ℕ → Option Inc → List Entry → Name → List History → List History
touched moment maker entries name histories = elim (nat_lt name.0 (length histories)) [
  | true ↦ slice_set histories name.0 (relisted moment maker entries (history_of histories name))
  | false ↦ (histories ++ replicate (name.0 - length histories) no_history) ++ relisted moment maker entries no_history ∷ []
]

-- the object whose list a line has changed or made, and who made it
abbrev pub touched_name : Doing → Option Name
touched_name doing = elim doing.listed [ Some name ↦ Some name | None ↦ doing.made ]

abbrev pub maker_of : Doing → Option Inc
maker_of doing = elim doing.made [ Some name ↦ Some doing.inc | None ↦ None ]

-- the histories after one line more, by the state behind it
abbrev pub noted : ℕ → Doing → State → List History → List History
noted moment doing t histories = elim (touched_name doing) [
  | None ↦ histories
  | Some name ↦ touched moment (maker_of doing) (object t name).entries name histories
]

-- the histories of the objects below a name, at the opening
abbrev pub opened_below : State → ℕ → List History
opened_below s zero = []
opened_below s (suc n) = touched 0 None (object s (record { 0 = n })).entries (record { 0 = n }) (opened_below s n)

-- the histories after these lines, from a machine on
abbrev pub histories_after : WorldValue → ℕ → Machine → List Line → List History → List History
histories_after w moment m [] histories = histories
histories_after w moment m (line ∷ lines) histories =
    histories_after w (moment + 1) (moved w m line.cpu) lines
    (noted (moment + 1) (doing m.state line (moved w m line.cpu).state) (moved w m line.cpu).state histories)

-- all that stands in the lists of the objects below a name ends at a moment
abbrev pub finished_below : ℕ → ℕ → List History → List History
finished_below moment zero histories = histories
finished_below moment (suc n) histories = touched moment None [] (record { 0 = n }) (finished_below moment n histories)

-- the histories of a whole history, where all that stands ends behind the last moment
abbrev pub histories_at_end : WorldValue → List Line → List History
histories_at_end w lines = histories_after w 0 (opened w) lines (opened_below (opened w).state (opened w).state.next_name.0)

abbrev pub told_histories : WorldValue → List Line → List History
told_histories w lines = finished_below (length lines + 1) (length (histories_at_end w lines)) (histories_at_end w lines)
