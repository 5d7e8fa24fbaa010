-- Counts, as contracts see them. docs/RULES.md, "Objects that vanish".
use Rattle.std.specs.Prelude.{◌≡◌, ℕ, ◌+◌, ◌-◌, ◌^◌, ◌<◌, ◌≤◌, ◌==◌, ◌⊎◌, ◌↔◌, nat_lt, Bool, true, not, ◌&&◌, cond, List, [], ◌∷◌, ◌++◌, length, Option, Some, None, IsSome}
use Rattle.std.specs.Prelude.{slice_index, slice_set}
use Rattle.std.specs.List.{list_any}
use Rattle.hk_links.specs.Chained.{Chained, listed}
use Rattle.hk_model.specs.declared.names.Name.{Name}
use Rattle.hk_objects.specs.declared.body.Body.{Body}
use Rattle.hk_objects.specs.Slots.{place, name_at}
use Rattle.hk_reclaim.specs.Naming.{times, namings}

pub record Tally : Type 0 where
  pub first_new : Name
  pub outside : List ℕ
  pub total : List ℕ
  pub pending : List ℕ

-- a slot is in a list
abbrev pub has : List ℕ → ℕ → Bool
has xs k = list_any (λ x. k == x) xs

abbrev pub raised : List ℕ → ℕ → List ℕ
raised xs k = slice_set xs k (slice_index xs k + 1)

abbrev pub lowered : List ℕ → ℕ → List ℕ
lowered xs k = slice_set xs k (slice_index xs k - 1)

-- nothing counts any longer, and it is no opening object
abbrev pub is_due : Name → ℕ → Name → Bool
is_due first total name = (total == 0) && not (nat_lt name.0 first.0)

-- one naming fewer
abbrev pub released : Tally → ℕ → Name → Tally
released t k name = record t {
  total = lowered t.total k;
  pending = cond (is_due t.first_new (slice_index t.total k - 1) name) (t.pending ++ k ∷ []) t.pending;
}

-- what holds of the fields
pub record IsTally (outside total : List ℕ) (pending : Chained) : Type 0 where
  pub sizes : length outside ≡ length total
  pub within : (k : ℕ) → slice_index outside k ≤ slice_index total k
  pub small : length total < 2 ^ 32
  pub cells : pending.cells ≡ length total
  pub lists : pending.lists ≡ listed pending.lists 0 ∷ []
  pub zeros : (k : ℕ) → has (listed pending.lists 0) k ≡ true → slice_index total k ≡ 0

abbrev pub due : (Name → ℕ) → Option Name → ℕ
due owed None = 0
due owed (Some n) = owed n

-- the counts are right for these objects, where each is owed so many namings
pub record AreCounted (ps : List (Option (Name × Body))) (owed : Name → ℕ) (t : Tally) : Type 0 where
  pub sizes : length t.outside ≡ length t.total
  pub room : (k : ℕ) → IsSome (place ps k) → k < length t.total
  pub totals : (k : ℕ) → slice_index t.total k ≡ slice_index t.outside k + due owed (name_at ps k)
  pub pending : (k : ℕ) → has t.pending k ≡ true ↔ ((n : Name) × (name_at ps k ≡ Some n) × (t.first_new.0 ≤ n.0) × (slice_index t.total k ≡ 0))

-- each total is outside and the namings by standing objects, and pending has the zero ones
abbrev pub IsCounted : List (Option (Name × Body)) → Tally → Type 0
IsCounted ps t = AreCounted ps (namings ps) t

-- what else is owed
abbrev pub owing : (Name → ℕ) → List Name → Name → ℕ
owing owed rest n = owed n + times n rest

-- a naming of a standing object is counted
abbrev pub IsReleasable : List (Option (Name × Body)) → Tally → Option Name → Type 0
IsReleasable ps t None = Unit {0}
IsReleasable ps t (Some n) = (k : ℕ) → name_at ps k ≡ Some n → (k < length t.total) × (slice_index t.outside k < slice_index t.total k)

-- a naming is taken back, where its object stands
abbrev pub IsReleased : List (Option (Name × Body)) → Option Name → Tally → Tally → Type 0
IsReleased ps None old new = new ≡ old
IsReleased ps (Some n) old new = ((k : ℕ) × (name_at ps k ≡ Some n) × (new ≡ released old k n)) ⊎ (((k : ℕ) → name_at ps k ≡ Some n → ⊥) × (new ≡ old))

-- the rest is as it was
pub record SameOutside (old new : Tally) : Type 0 where
  pub first_new : new.first_new ≡ old.first_new
  pub outside : new.outside ≡ old.outside
  pub total : length new.total ≡ length old.total
