-- The runs in which one capability stands at one index of a list again and again. docs/RULES.md, "Reaches".
use Rattle.std.specs.Prelude.{◌≡◌, ℕ, ◌≤◌, ◌==◌, ◌&&◌, Bool, true, List, [], ◌∷◌, length, nat_lt, nat_le, slice_index_or}
use mathlib.Core.Bool.{Bool-set}
use Rattle.std.specs.Coded.{×_prop, Π_prop, →_prop, Unit-prop, le_prop}
use Rattle.std.specs.List.{AllByRecursion, AllByRecursion-prop, between}
use Rattle.std.specs.List.Sorted.{IsPermutation, IsNonDecreasingBy}
use Rattle.hk_model.specs.declared.names.Name.{Name}
use Rattle.hk_report.specs.declared.histories.Span.{Span}
use Rattle.hk_report.specs.declared.histories.History.{History}
use Rattle.hk_report.specs.Histories.{same_cap, history_of}

-- the same capability stood at the same index, and was gone before it stood there again
abbrev pub precedes : Span → Span → Bool
precedes a b = a.index == b.index && (same_cap a.cap b.cap && (nat_lt a.from a.until && (nat_le a.until b.from && nat_lt b.from b.until)))

-- each precedes all that come later
abbrev pub IsRun : List Span → Type 0
IsRun [] = Unit {0}
IsRun (span ∷ more) = AllByRecursion (λ (later : Span). precedes span later ≡ true) more × IsRun more

-- the spans from a place on are cut into runs, which end at these places
abbrev pub AreCut : ℕ → List ℕ → List Span → Type 0
AreCut first [] spans = length spans ≤ first
AreCut first (end ∷ ends) spans = (first ≤ end) × ((end ≤ length spans) × (IsRun (between first end spans) × AreCut end ends spans))

-- the places for each object, by its name
abbrev pub ends_at : List (List ℕ) → Name → List ℕ
ends_at all name = slice_index_or all name.0 []

abbrev pub AreRuns : List History → List (List ℕ) → Type 0
AreRuns histories all = (name : Name) → AreCut 0 (ends_at all name) (history_of histories name).spans

-- the spans of each list stand in the order of the names of their objects
abbrev pub AreByName : List Span → Type 0
AreByName spans = IsNonDecreasingBy (λ (span : Span). span.cap.name.0) spans

abbrev pub AreOrdered : List History → Type 0
AreOrdered histories = (name : Name) → AreByName (history_of histories name).spans

-- these facts have one proof each
pub IsRun-prop : (spans : List Span) → IsProp (IsRun spans)
IsRun-prop [] = Unit-prop
IsRun-prop (span ∷ more) =
    ×_prop (AllByRecursion-prop (λ (later : Span). precedes span later ≡ true) (λ later. Bool-set (precedes span later) true) more) (IsRun-prop more)

pub AreCut-prop : (first : ℕ) (ends : List ℕ) (spans : List Span) → IsProp (AreCut first ends spans)
AreCut-prop first [] spans = le_prop {n = length spans} {m = first}
AreCut-prop first (end ∷ ends) spans = ×_prop (le_prop {n = first} {m = end}) (×_prop (le_prop {n = end} {m = length spans}) (×_prop (IsRun-prop (between first end spans)) (AreCut-prop end ends spans)))

pub AreRuns-prop : (histories : List History) (all : List (List ℕ)) → IsProp (AreRuns histories all)
AreRuns-prop histories all = Π_prop (λ (name : Name). AreCut-prop 0 (ends_at all name) (history_of histories name).spans)

pub AreOrdered-prop : (histories : List History) → IsProp (AreOrdered histories)
AreOrdered-prop histories = Π_prop (λ (name : Name). by (history_of histories name).spans)
  where
    by : (spans : List Span) → IsProp (AreByName spans)
    by spans =
        Π_prop (λ (i : ℕ). Π_prop (λ (j : ℕ). Π_prop (λ (d : Span). →_prop (→_prop (le_prop {n = (slice_index_or spans i d).cap.name.0} {m = (slice_index_or spans j d).cap.name.0})))))

-- a span that has not ended by a moment
abbrev pub is_open : ℕ → Span → Bool
is_open moment span = nat_lt moment span.until

-- an object has the same maker, and the same has stood in its list, in whatever order it is kept
pub record IsRearranged (before after : History) : Type 0 where
  pub maker_is : after.maker ≡ before.maker
  pub spans_are : IsPermutation before.spans after.spans

abbrev pub AreRearranged : List History → List History → Type 0
AreRearranged before after = (name : Name) → IsRearranged (history_of before name) (history_of after name)
