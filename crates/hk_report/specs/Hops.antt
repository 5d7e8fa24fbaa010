-- Hops over what has stood in lists, which of them comes first, and from which moments the rest of a way can be made.
-- docs/RULES.md, "Reaches".
use Rattle.std.specs.Prelude.{◌≡◌, ◌<◌, ◌≤◌, ◌⊎◌, ℕ, ◌==◌, ◌&&◌, ◌||◌, Bool, true, false, List, [], ◌∷◌, nat_lt, slice_index_or, Option, Some, None, if◌then◌else◌}
use Rattle.std.specs.List.{list_any}
use Rattle.std.specs.BTreeMap.{get}
use Rattle.std.specs.Option.{unwrap_or}
use Rattle.std.specs.Ordering.{nat_cmp, is_lt}
use Rattle.std.specs.Cmp.Lexicographic.{slice_cmp}
use Rattle.hk_rights.specs.Rights.{has, modify_right, unconf_right}
use Rattle.hk_model.specs.declared.names.Name.{Name}
use Rattle.hk_model.specs.declared.entries.Cap.{Cap}
use Rattle.hk_model.specs.declared.reaches.Hop.{Hop}
use Rattle.hk_model.specs.declared.reaches.Hop.TheVariants as hop_by
use Rattle.hk_model.specs.Reaches.{index_of, moment_of}
use Rattle.hk_model.specs.State.{name_cmp}
use Rattle.hk_model.specs.Changes.{hop_key}
use Rattle.hk_report.specs.declared.families.Begun.{Begun}
use Rattle.hk_report.specs.declared.histories.Span.{Span}
use Rattle.hk_report.specs.declared.histories.History.{History}
use Rattle.hk_report.specs.declared.hops.Arrived.{Arrived}
use Rattle.hk_report.specs.declared.hops.Latest.{Latest}
use Rattle.hk_report.specs.declared.hops.Bounds.{Bounds}
use Rattle.hk_report.specs.declared.hops.Level.{Level}
use Rattle.hk_report.specs.declared.hops.Level.TheVariants.{End, Near, Behind}
use Rattle.hk_report.specs.declared.hops.Onward.{Onward}
use Rattle.hk_report.specs.Histories.{history_of}

-- the same call, and one of these
abbrev pub same_begun : Begun → Begun → Bool
same_begun a b = a.call.0 == b.call.0 && a.moment == b.moment

abbrev pub has_begun : Begun → List Begun → Bool
has_begun begun calls = list_any (same_begun begun) calls

-- the object was made under a call: the family of its maker holds the call
abbrev pub is_made : List (List Begun) → Begun → List History → Name → Bool
is_made families begun histories name = elim (history_of histories name).maker [
  | None ↦ false
  | Some inc ↦ has_begun begun (slice_index_or families inc.0 [])
]

-- moments and bounds
abbrev pub later : ℕ → ℕ → ℕ
later a b = if nat_lt a b then b else a

abbrev pub greater : ℕ → ℕ → ℕ
greater a b = if nat_lt a b then b else a

abbrev pub lesser : ℕ → ℕ → ℕ
lesser a b = if nat_lt a b then a else b

-- what a capability stands good for, and what was made under the call
abbrev pub arrived_by : ℕ → Cap → Arrived
arrived_by moment cap = record { name = cap.name; modify = has cap.rights modify_right; unconf = has cap.rights unconf_right; moment = moment }

abbrev pub arrived_whole : ℕ → Cap → Arrived
arrived_whole moment cap = record { name = cap.name; modify = true; unconf = true; moment = moment }

-- from which moments the rest can be made at an object, as it is kept
abbrev pub no_latest : Latest
no_latest = record { modify = 0; unconf = 0 }

abbrev pub ends_before : ℕ → Latest
ends_before before = record { modify = before; unconf = 0 }

abbrev pub latest_end : Name → ℕ → Name → Latest
latest_end end before name = if name.0 == end.0 then ends_before before else no_latest

-- what is kept for one object, and nothing for any other
abbrev pub alone : Name → Latest → Name → Latest
alone object latest name = if name.0 == object.0 then latest else no_latest

abbrev pub bounds_at : Bounds → Name → Latest
bounds_at bounds name = unwrap_or (get name_cmp bounds.latest name) no_latest

-- from no moment from this one on
abbrev pub IsBy : ℕ → Latest → Type 0
IsBy moment latest = (latest.modify ≤ moment) × (latest.unconf ≤ moment)

-- the rest can be made from there
abbrev pub is_good : Arrived → Latest → Bool
is_good to latest = (to.modify && nat_lt to.moment latest.modify) || (to.unconf && nat_lt to.moment latest.unconf)

-- the hops over a span at the first moment, each where it can be made and the rest after it
abbrev pub entry_onward : Arrived → Span → Latest → Option Onward
entry_onward from span latest =
    if from.unconf && (nat_lt (later from.moment span.from) span.until && is_good (arrived_by (later from.moment span.from) span.cap) latest)
    then Some (record { hop = hop_by.Entry span.index (later from.moment span.from); to = arrived_by (later from.moment span.from) span.cap })
    else None

abbrev pub handed_onward : Arrived → Span → Latest → Bool → Option Onward
handed_onward from span latest made =
    if from.modify && (made && (nat_lt (later from.moment span.from) span.until && is_good (arrived_whole (later from.moment span.from) span.cap) latest))
    then Some (record { hop = hop_by.Handed span.index (later from.moment span.from); to = arrived_whole (later from.moment span.from) span.cap })
    else None

-- the hop that comes first of those that there are
abbrev pub comes_before : Hop → Hop → Bool
comes_before a b = is_lt (slice_cmp nat_cmp (hop_key a) (hop_key b))

abbrev pub earlier : Option Onward → Option Onward → Option Onward
earlier None b = b
earlier (Some a) None = Some a
earlier (Some a) (Some b) = if comes_before b.hop a.hop then Some b else Some a

-- over a span of an object from which the rest can be made below these
abbrev pub onward_below : Latest → Bool → Arrived → Span → Option Onward
onward_below latest made from span = earlier (entry_onward from span latest) (handed_onward from span latest made)

abbrev pub onward_over : (Name → Bool) → (Name → Latest) → Arrived → Span → Option Onward
onward_over made level from span = onward_below (level span.cap.name) (made span.cap.name) from span

-- of a hop, and of those over a span where there is one
abbrev pub first_open_below : Latest → Bool → Arrived → Option Onward → Option Span → Option Onward
first_open_below latest made from first None = first
first_open_below latest made from first (Some span) = earlier first (onward_below latest made from span)

-- a hop comes before all that go over a span, or over one at its index that begins later
abbrev pub IsSooner : Arrived → Span → Hop → Type 0
IsSooner from span hop =
    (moment_of hop < later from.moment span.from) ⊎ ((moment_of hop ≡ later from.moment span.from) × (index_of hop < span.index))

abbrev pub StaysFirst : Arrived → Span → Option Onward → Type 0
StaysFirst from span None = ⊥
StaysFirst from span (Some onward) = IsSooner from span onward.hop

-- or before all that go over what begins at a moment
abbrev pub StaysBefore : Arrived → ℕ → Option Onward → Type 0
StaysBefore from moment None = ⊥
StaysBefore from moment (Some onward) = moment_of onward.hop < later from.moment moment

-- of these spans, and of a hop besides
abbrev pub first_from : (Name → Bool) → (Name → Latest) → Arrived → Option Onward → List Span → Option Onward
first_from made level from first [] = first
first_from made level from first (span ∷ spans) = first_from made level from (earlier first (onward_over made level from span)) spans

-- from which moments a hop over a span can be made, and the rest after it
abbrev pub from_on : Span → ℕ → ℕ
from_on span bound = if nat_lt span.from (lesser span.until bound) then lesser span.until bound else 0

abbrev pub entry_bound : Span → Latest → ℕ
entry_bound span latest =
    from_on span (greater (if has span.cap.rights modify_right then latest.modify else 0) (if has span.cap.rights unconf_right then latest.unconf else 0))

abbrev pub handed_bound : Span → Latest → Bool → ℕ
handed_bound span latest made = if made then from_on span (greater latest.modify latest.unconf) else 0

abbrev pub raised : (Name → Bool) → (Name → Latest) → Latest → Span → Latest
raised made level all span = record {
  modify = greater all.modify (handed_bound span (level span.cap.name) (made span.cap.name));
  unconf = greater all.unconf (entry_bound span (level span.cap.name));
}

abbrev pub latest_from : (Name → Bool) → (Name → Latest) → Latest → List Span → Latest
latest_from made level all [] = all
latest_from made level all (span ∷ spans) = latest_from made level (raised made level all span) spans

-- the same with one hop more
abbrev pub next_latest : (Name → Bool) → List History → (Name → Latest) → Name → Latest
next_latest made histories level name = latest_from made level no_latest (history_of histories name).spans

-- as the level is kept
abbrev pub latest_at : (Name → Bool) → List History → Level → Name → Latest
latest_at made histories (End name before) = latest_end name before
latest_at made histories (Near name before) = next_latest made histories (latest_end name before)
latest_at made histories (Behind bounds) = bounds_at bounds
