-- How the lists stand in arrays. Behind the cells there is a node for each list, which closes it to a ring.
use Rattle.std.specs.Prelude.{◌≡◌, ℕ, zero, suc, ◌+◌, ◌<◌, ◌==◌, nat_lt, true, cond, List, [], ◌∷◌, length, slice_index_or, Option, Some, None}
use Rattle.std.specs.List.{IsDistinct}
use Rattle.hk_links.specs.Chained.{listed, in_list}

abbrev pub at : List ℕ → ℕ → ℕ
at xs i = slice_index_or xs i 0

-- the cells behind a node, at most so many
abbrev pub chain : List ℕ → ℕ → ℕ → ℕ → List ℕ
chain next n zero a = []
chain next n (suc k) a = cond (nat_lt (at next a) n) (at next a ∷ chain next n k (at next a)) []

abbrev pub chains : List ℕ → ℕ → ℕ → ℕ → List (List ℕ)
chains next n a zero = []
chains next n a (suc k) = chain next n n a ∷ chains next n (a + 1) k

-- the nodes behind a are these, and then the node z; all of them are cells of list l
abbrev pub IsPath : List ℕ → List (Option ℕ) → ℕ → ℕ → ℕ → ℕ → List ℕ → Type 0
IsPath next owner n l z a [] = at next a ≡ z
IsPath next owner n l z a (x ∷ xs) = (at next a ≡ x) × (x < n) × (slice_index_or owner x None ≡ Some l) × IsPath next owner n l z x xs

pub record IsNode (next prev : List ℕ) (size x : ℕ) : Type 0 where
  pub next_in : at next x < size
  pub prev_in : at prev x < size
  pub there : at prev (at next x) ≡ x
  pub back : at next (at prev x) ≡ x

abbrev pub IsHome : List ℕ → List (List ℕ) → ℕ → Option ℕ → Type 0
IsHome next ls c None = at next c ≡ c
IsHome next ls c (Some l) = (l < length ls) × (in_list ls l c ≡ true)

pub record IsLinked (next prev : List ℕ) (owner : List (Option ℕ)) (n : ℕ) (ls : List (List ℕ)) : Type 0 where
  pub nexts : length next ≡ n + length ls
  pub prevs : length prev ≡ n + length ls
  pub owners : length owner ≡ n
  pub nodes : (x : ℕ) → x < n + length ls → IsNode next prev (n + length ls) x
  pub paths : (l : ℕ) → l < length ls → IsPath next owner n l (n + l) (n + l) (listed ls l)
  pub homes : (c : ℕ) → c < n → IsHome next ls c (slice_index_or owner c None)
  pub apart : (l : ℕ) → l < length ls → IsDistinct (λ x y. x == y) (listed ls l)
