-- When ways can be at objects, and what is left where the rest is left out. docs/RULES.md, "Reaches".
use Rattle.std.specs.Prelude.{◌≡◌, ◌≤◌, ◌-◌, ◌^◌, ℕ, Bool, false, List, [], ◌∷◌, nat_lt, nat_le, filter, slice_index_or, Option, Some, None, if◌then◌else◌}
use Rattle.std.specs.Coded.{Π_prop, Unit-prop, le_prop}
use Rattle.std.specs.List.{AllByRecursion, AllByRecursion-prop}
use Rattle.std.specs.List.Sorted.{IsPermutation}
use Rattle.hk_model.specs.declared.names.Name.{Name}
use Rattle.hk_model.specs.declared.entries.Cap.{Cap}
use Rattle.hk_report.specs.declared.families.Begun.{Begun}
use Rattle.hk_report.specs.declared.families.BareChange.{BareChange}
use Rattle.hk_report.specs.declared.histories.Span.{Span}
use Rattle.hk_report.specs.declared.histories.History.{History}
use Rattle.hk_report.specs.declared.hops.Latest.{Latest}
use Rattle.hk_report.specs.declared.reachable.Side.{Side}
use Rattle.hk_report.specs.declared.reachable.Side.TheVariants.{First, Last}
use Rattle.hk_report.specs.Histories.{history_of}
use Rattle.hk_report.specs.Hops.{later}
use Rattle.hk_report.specs.Reasons.{params_at}

-- the moment that is told of an object, by its name, if ways can be at it at all; of what has no place 0 is told
abbrev pub moment_at : List (Option ℕ) → Name → Option ℕ
moment_at moments name = slice_index_or moments name.0 (Some 0)

-- a moment that is told, and not after this one
abbrev pub IsBy : Option ℕ → ℕ → Type 0
IsBy None bound = ⊥
IsBy (Some moment) bound = moment ≤ bound

-- whether a moment is told, and not after this one
abbrev pub is_by : Option ℕ → ℕ → Bool
is_by None moment = false
is_by (Some told) moment = nat_le told moment

-- counted back from the last moment that there can be
abbrev pub from_end : ℕ → ℕ
from_end moment = (2 ^ 32 - 1) - moment

-- what is told at the latest of the object of a parameter, where the call begins at a moment
abbrev pub begins_at : Side → ℕ → ℕ
begins_at First moment = moment
begins_at Last moment = from_end moment

-- what is told at the latest of the object of a span, where this is told of its list
abbrev pub goes_on : Side → Option ℕ → Span → Option ℕ
goes_on side None span = None
goes_on First (Some moment) span = if nat_lt moment span.until then Some (later moment span.from) else None
goes_on Last (Some moment) span = Some (later moment (from_end span.until))

abbrev pub IsByThen : Option ℕ → Option ℕ → Type 0
IsByThen told None = Unit {0}
IsByThen told (Some moment) = IsBy told moment

-- by these moments ways go on over these spans of a list of which this is told
abbrev pub AreGoneOver : Side → (Name → Option ℕ) → Option ℕ → List Span → Type 0
AreGoneOver side told at spans = AllByRecursion (λ (span : Span). IsByThen (told span.cap.name) (goes_on side at span)) spans

abbrev pub IsClosed : Side → List History → (Name → Option ℕ) → Type 0
IsClosed side histories told = (name : Name) → AreGoneOver side told (told name) (history_of histories name).spans

-- by then ways are at the objects of these parameters
abbrev pub IsHeldBy : (Name → Option ℕ) → ℕ → Option Cap → Type 0
IsHeldBy told moment None = Unit {0}
IsHeldBy told moment (Some cap) = IsBy (told cap.name) moment

abbrev pub AreHeldBy : (Name → Option ℕ) → ℕ → List (Option Cap) → Type 0
AreHeldBy told moment params = AllByRecursion (λ (param : Option Cap). IsHeldBy told moment param) params

-- the moments of all objects that ways can come to from the parameters of the calls under which there were these changes
pub record AreReachable (side : Side) (families : List (List Begun)) (params : List (List (Option Cap))) (bares : List BareChange) (histories : List History) (told : Name → Option ℕ)
    : Type 0 where
  pub starts : AllByRecursion (λ (bare : BareChange). AreHeldBy told (begins_at side bare.under.moment) (params_at families params bare.under.call)) bares
  pub closed : IsClosed side histories told

-- a span that has not ended before the first way can be at its list, if one can
abbrev pub can_matter : Option ℕ → Span → Bool
can_matter None span = false
can_matter (Some first) span = nat_le first span.until

-- an object has the same maker, and of what has stood in its list that is left which can matter, in whatever order it is kept
pub record IsKept (first : Option ℕ) (before after : History) : Type 0 where
  pub maker_is : after.maker ≡ before.maker
  pub spans_are : IsPermutation (filter (can_matter first) before.spans) after.spans

abbrev pub AreKept : (Name → Option ℕ) → List History → List History → Type 0
AreKept firsts before after = (name : Name) → IsKept (firsts name) (history_of before name) (history_of after name)

-- what is left is enough for the reasons of these changes
pub record IsEnough (families : List (List Begun)) (params : List (List (Option Cap))) (bares : List BareChange) (before after : List History) : Type 0 where
  pub firsts : Name → Option ℕ
  pub reachable : AreReachable First families params bares before firsts
  pub kept : AreKept firsts before after

-- whether a call that begins at a moment can come to an object, and from when it can
abbrev pub can_come : (Name → Option ℕ) → ℕ → Name → Bool
can_come lasts moment name = is_by (lasts name) (from_end moment)

abbrev pub comes_at : (Name → Option ℕ) → ℕ → Name → Option ℕ
comes_at lasts moment name = if can_come lasts moment name then Some moment else None

-- bounds are the same at a moment
pub record SameAt (moment : ℕ) (a b : Latest) : Type 0 where
  pub modify : nat_lt moment a.modify ≡ nat_lt moment b.modify
  pub unconf : nat_lt moment a.unconf ≡ nat_lt moment b.unconf

-- levels are, at each object, from when a way can be there, and one level after another
abbrev pub Agree : (Name → Option ℕ) → (Name → Latest) → (Name → Latest) → Type 0
Agree told a b = (name : Name) → (moment : ℕ) → IsBy (told name) moment → SameAt moment (a name) (b name)

abbrev pub AgreeEach : (Name → Option ℕ) → List (Name → Latest) → List (Name → Latest) → Type 0
AgreeEach told [] [] = Unit {0}
AgreeEach told (a ∷ firsts) (b ∷ seconds) = Agree told a b × AgreeEach told firsts seconds
AgreeEach told [] (b ∷ seconds) = ⊥
AgreeEach told (a ∷ firsts) [] = ⊥

-- these facts have one proof each
pub IsByThen-prop : (told bound : Option ℕ) → IsProp (IsByThen told bound)
IsByThen-prop told None = Unit-prop
IsByThen-prop None (Some moment) = λ a b. absurd a
IsByThen-prop (Some told) (Some moment) = le_prop {n = told} {m = moment}

pub IsClosed-prop : (side : Side) (histories : List History) (told : Name → Option ℕ) → IsProp (IsClosed side histories told)
IsClosed-prop side histories told = Π_prop (λ (name : Name). by (told name) (history_of histories name).spans)
  where
    by : (at : Option ℕ) (spans : List Span) → IsProp (AreGoneOver side told at spans)
    by at spans =
        AllByRecursion-prop (λ (span : Span). IsByThen (told span.cap.name) (goes_on side at span)) (λ span. IsByThen-prop (told span.cap.name) (goes_on side at span)) spans
