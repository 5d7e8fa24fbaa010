-- A number of lists of cells, as contracts see them.
use Rattle.std.specs.Prelude.{ℕ, ◌==◌, Bool, List, [], filter, not, slice_index_or}
use Rattle.std.specs.List.{list_any}

pub record Chained : Type 0 where
  pub cells : ℕ
  pub lists : List (List ℕ)

-- a list by its number
abbrev pub listed : List (List ℕ) → ℕ → List ℕ
listed ls l = slice_index_or ls l []

abbrev pub in_list : List (List ℕ) → ℕ → ℕ → Bool
in_list ls l c = list_any (λ x. c == x) (listed ls l)

-- a list without a cell
abbrev pub without : ℕ → List ℕ → List ℕ
without c xs = filter (λ x. not (c == x)) xs
