-- What holds of each item of a list.
use Rattle.std.specs.Prelude.{◌≡◌, ℕ, ◌<◌, List, Some, slice_get}

abbrev pub Each : {A : Type 0} → (A → Type 0) → List A → Type 0
Each {A} P xs = (k : ℕ) (x : A) → slice_get xs k ≡ Some x → P x

-- of each of the first items
abbrev pub EachBelow : {A : Type 0} → ℕ → (A → Type 0) → List A → Type 0
EachBelow {A} n P xs = (k : ℕ) (x : A) → k < n → slice_get xs k ≡ Some x → P x

-- an item of the list
pub record Among {A : Type 0} (xs : List A) (x : A) : Type 0 where
  pub place : ℕ
  pub is : slice_get xs place ≡ Some x
