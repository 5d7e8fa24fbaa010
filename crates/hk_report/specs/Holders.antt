-- Which runs hold an object, and what a level gives to those in whose lists they stand. docs/RULES.md, "Reaches".
use Rattle.std.specs.Prelude.{◌≡◌, ℕ, zero, suc, ◌==◌, ◌≤◌, Bool, true, not, List, [], ◌∷◌, ◌++◌, length, filter, slice_get, slice_index_or, Option, Some, None, if◌then◌else◌}
use Rattle.std.specs.List.{AllByRecursion, between}
use Rattle.hk_rights.specs.Rights.{has, modify_right, unconf_right}
use Rattle.hk_model.specs.declared.names.Name.{Name}
use Rattle.hk_model.specs.declared.entries.Cap.{Cap}
use Rattle.hk_report.specs.declared.histories.Span.{Span}
use Rattle.hk_report.specs.declared.histories.History.{History}
use Rattle.hk_report.specs.declared.holders.Stretch.{Stretch}
use Rattle.hk_report.specs.declared.hops.Latest.{Latest}
use Rattle.hk_report.specs.Histories.{history_of}
use Rattle.hk_report.specs.Hops.{greater, from_on, entry_bound, handed_bound, no_latest}
use Rattle.hk_report.specs.Runs.{IsRun, ends_at}

-- the spans of a stretch of a list
abbrev pub spans_in : List History → Stretch → List Span
spans_in histories stretch = between stretch.first stretch.end (history_of histories stretch.by).spans

-- the stretches of a list from a place on, which end at these places
abbrev pub stretch_at : Name → ℕ → ℕ → Option Span → List Stretch
stretch_at by first end None = []
stretch_at by first end (Some span) = record { by = by; cap = span.cap; from = span.from; first = first; end = end } ∷ []

abbrev pub stretches : Name → List Span → ℕ → List ℕ → List Stretch
stretches by spans first [] = []
stretches by spans first (end ∷ ends) = stretch_at by first end (slice_get spans first) ++ stretches by spans end ends

-- as they are kept, by name: those that hold an object
abbrev pub holds : Name → Stretch → Bool
holds name stretch = stretch.cap.name.0 == name.0

abbrev pub held_at : List (List Stretch) → Name → List Stretch
held_at all name = slice_index_or all name.0 []

-- those of them in the lists of objects of which a test is true
abbrev pub live_at : (Name → Bool) → List (List Stretch) → Name → List Stretch
live_at live all name = filter (λ (stretch : Stretch). live stretch.by) (held_at all name)

-- those of them in the list of one object
abbrev pub stands_in : Name → Stretch → Bool
stands_in by stretch = stretch.by.0 == by.0

abbrev pub held_in : List (List Stretch) → Name → Name → List Stretch
held_in all name by = filter (stands_in by) (held_at all name)

-- another than the last one, if there is one
abbrev pub is_other : Option Name → Name → Bool
is_other None name = true
is_other (Some last) name = not (last.0 == name.0)

-- one stretch more is kept, with those that hold its object
abbrev pub IsOneMore : Stretch → List (List Stretch) → List (List Stretch) → Type 0
IsOneMore stretch before after = (name : Name) → held_at after name ≡ held_at before name ++ filter (holds name) (stretch ∷ [])

-- a stretch of a list is a run of spans that hold an object, all by the same capability
pub record HoldsAlone (histories : List History) (name : Name) (stretch : Stretch) : Type 0 where
  pub begins : stretch.first ≤ stretch.end
  pub ends : stretch.end ≤ length (history_of histories stretch.by).spans
  pub run : IsRun (spans_in histories stretch)
  pub alike : AllByRecursion (λ (span : Span). span.cap ≡ stretch.cap) (spans_in histories stretch)
  pub begun : AllByRecursion (λ (span : Span). stretch.from ≤ span.from) (spans_in histories stretch)
  pub name_is : stretch.cap.name ≡ name

-- the stretches of the lists of the objects below a number, which end at these places
abbrev pub numbered : ℕ → Name
numbered n = record { 0 = n }

abbrev pub stretches_of : List History → List (List ℕ) → Name → List Stretch
stretches_of histories runs by = stretches by (history_of histories by).spans 0 (ends_at runs by)

abbrev pub stretches_below : List History → List (List ℕ) → ℕ → List Stretch
stretches_below histories runs zero = []
stretches_below histories runs (suc n) = stretches_below histories runs n ++ stretches_of histories runs (numbered n)

-- those that are kept for each object are all that hold it
abbrev pub AreHolders : List History → List (List ℕ) → List (List Stretch) → Type 0
AreHolders histories runs all = (name : Name) → held_at all name ≡ filter (holds name) (stretches_below histories runs (length histories))

-- the greater bounds of two
abbrev pub joined : Latest → Latest → Latest
joined a b = record { modify = greater a.modify b.modify; unconf = greater a.unconf b.unconf }

-- from which moments on a hop over a span can be made, and the rest after it
abbrev pub latest_over : Span → Latest → Bool → Latest
latest_over span latest made = record { modify = handed_bound span latest made; unconf = entry_bound span latest }

-- over any of these
abbrev pub latest_within : List Span → Latest → Bool → Latest
latest_within [] latest made = no_latest
latest_within (span ∷ spans) latest made = joined (latest_over span latest made) (latest_within spans latest made)

-- below which moment a hop has to be made, of whatever span: by an entry with a capability, and to what was made under the call
abbrev pub entry_most : Cap → Latest → ℕ
entry_most cap latest = greater (if has cap.rights modify_right then latest.modify else 0) (if has cap.rights unconf_right then latest.unconf else 0)

abbrev pub handed_most : Bool → Latest → ℕ
handed_most made latest = if made then greater latest.modify latest.unconf else 0

-- from which moments on a hop over any of these spans can be made below a moment
abbrev pub most_on : List Span → ℕ → ℕ
most_on [] bound = 0
most_on (span ∷ spans) bound = greater (from_on span bound) (most_on spans bound)

-- the same, where something is kept for each object already
abbrev pub raised_at : (Name → Latest) → Name → Latest → Name → Latest
raised_at level name latest x = if name.0 == x.0 then joined (level x) latest else level x

abbrev pub raised_over : List History → Latest → Bool → (Name → Latest) → List Stretch → Name → Latest
raised_over histories latest made level [] = level
raised_over histories latest made level (held ∷ more) =
    raised_over histories latest made (raised_at level held.by (latest_within (spans_in histories held) latest made)) more
