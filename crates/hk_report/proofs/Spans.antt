-- What the spans of a list tell of it.
use Rattle.std.proofs.Common.{◌≡◌, ℕ, ◌<◌, ◌≤◌, List, [], ◌∷◌, true, Some, refl, subst}
use mathlib.Core.Logic.{inl, inr}
use Rattle.hk_model.specs.declared.names.Name.{Name}
use Rattle.hk_model.specs.declared.entries.Cap.{Cap}
use Rattle.hk_model.specs.State.{State}
use Rattle.hk_model.specs.Keeping.{stands}
use Rattle.hk_model.specs.Reaches.{listed_cap}
use Rattle.hk_model.proofs.NamesStand.{All}
use Rattle.hk_model.proofs.Members.{Has}
use Rattle.hk_report.specs.declared.histories.Span.{Span}

-- what holds of all holds of each, and the other way round
pub all_has : {X : Type 0} (R : X → Type 0) (xs : List X) (x : X) → All R xs → Has xs x → R x
all_has R [] x h g = absurd g
all_has R (y ∷ ys) x h (inl e) = subst R e h.0
all_has R (y ∷ ys) x h (inr g) = all_has R ys x h.1 g

pub has_all : {X : Type 0} (R : X → Type 0) (xs : List X) → ((x : X) → Has xs x → R x) → All R xs
has_all R [] f = tt
has_all R (x ∷ xs) f = (f x (inl refl), has_all R xs (λ y g. f y (inr g)))

-- a span is of a list: the object stands where it begins, and has the capability there as long as it stands
pub record Stood (at : ℕ → State) (end : ℕ) (x : Name) (span : Span) : Type 0 where
  pub begins : stands (at span.from) x ≡ true
  pub by_end : span.from ≤ end
  pub holds : (m : ℕ) → span.from ≤ m → m < span.until → m ≤ end → stands (at m) x ≡ true → listed_cap (at m) x span.index ≡ Some span.cap

-- a span tells what stands at an index at a moment
pub record SpanAt (spans : List Span) (m index : ℕ) (cap : Cap) : Type 0 where
  pub span : Span
  pub is : Has spans span
  pub index_is : span.index ≡ index
  pub cap_is : span.cap ≡ cap
  pub from : span.from ≤ m
  pub until : m < span.until

-- the spans are those of a list, up to a moment
pub record SpansTell (at : ℕ → State) (end : ℕ) (x : Name) (spans : List Span) : Type 0 where
  pub sound : All (Stood at end x) spans
  pub complete : (m index : ℕ) (cap : Cap) → m ≤ end → listed_cap (at m) x index ≡ Some cap → SpanAt spans m index cap
