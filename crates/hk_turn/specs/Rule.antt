-- The rule of the turn, which holds between any two steps. docs/TURNS.md, 'The rule'.
-- The word is 2n + held_count, where n is the number of entries of the one list.
use Rattle.std.specs.Prelude.{◌≡◌, ◌≢◌, ℕ, ◌+◌, ◌*◌, ◌<◌, ◌≤◌, true, List, [], ◌∷◌, ◌++◌, length, Option, Some, All}
use mathlib.Core.List.{IsPrefix}
use mathlib.Core.Option.{some}
use mathlib.Core.Option as maybe
use lib.ListN.{get_elem?}
use Rattle.atomic_table.specs.Table.{State}
use Rattle.hk_turn.specs.declared.view.View.{View}

-- f of each element, added up
abbrev pub total : {V : Type 0} → (V → ℕ) → List V → ℕ
total f [] = 0
total f (v ∷ vs) = f v + total f vs

-- the list begins with what was seen, and the number owns nothing behind that
abbrev pub GoesOn : {E : Type 0} → (E → ℕ) → ℕ → List E → List E → Type 0
GoesOn {E} owner number seen list = (rest : List E) × (list ≡ seen ++ rest) × All (λ e. owner e ≢ number) rest

-- what a view that is not spent knows of the list
pub record ViewFits {E : Type 0} (owner : E → ℕ) (list : List E) (seats top : ℕ) (v : View E) : Type 0 where
  -- it has seen a prefix of the list with all entries of its number
  pub goes_on : GoesOn owner v.number v.seen list
  -- so have the views that it took in, but for the entries
  pub lists_told : All (λ l. IsPrefix l list) v.lists_told
  -- its known count is at most the number of entries
  pub known : v.known ≤ length list
  -- it knows how many passes there are in all
  pub seats_are : v.seats ≡ seats
  -- its number was given to a pass
  pub below : v.number < top

-- who sits at the table: the view at the place `maker` has made `top` passes, which have the numbers below `top`
pub record Seated {E : Type 0} (seats top maker : ℕ) (views : List (View E)) : Type 0 where
  -- the maker is not spent
  pub makes : (m : View E) × (get_elem? views maker ≡ some m) × (m.made ≡ top) × (0 < m.weight)
  -- no other view has made passes
  pub no_other : (i : ℕ) (v : View E) → get_elem? views i ≡ some v → 0 < v.weight → 0 < v.made → i ≡ maker
  -- no two views have one number
  pub apart : (i j : ℕ) (v w : View E) → get_elem? views i ≡ some v → get_elem? views j ≡ some w → 0 < v.weight → 0 < w.weight → v.number ≡ w.number → i ≡ j
  -- the views stand for as many passes as there are seats
  pub sum : total (λ (v : View E). v.weight) views ≡ seats
  -- at least one pass was made, and no more than there are seats
  pub room : (0 < top) × (top ≤ seats)

-- the view at the place i holds the turn: the turn is taken, i is the place of the holder, and the view has found the list and is not spent
abbrev pub HoldsTurn : {E : Type 0} → List E → ℕ → ℕ → ℕ → View E → Type 0
HoldsTurn list held_count holder i v = (held_count ≡ 1) × (i ≡ holder) × (v.found ≡ list) × (0 < v.weight)

-- who holds the turn: where `held_count` is 1 the view at the place `holder` alone, and where it is 0 none
pub record Holding {E : Type 0} (list : List E) (held_count holder : ℕ) (views : List (View E)) : Type 0 where
  -- no view but the holder's holds the turn
  pub each : (i : ℕ) (v : View E) → get_elem? views i ≡ some v → v.holds ≡ true → HoldsTurn list held_count holder i v
  -- where the turn is taken, the holder's view holds it
  pub someone : held_count ≡ 1 → (v : View E) × (get_elem? views holder ≡ some v) × (v.holds ≡ true)

-- the table keeps the rule of the turn for so many seats
pub record KeepsRule {T E : Type 0} (stands : T → List E → Type 0) (owner : E → ℕ) (seats : ℕ) (table : State (Option T) (View E)) : Type 0 where
  -- the one list of entries
  pub list : List E
  -- 1 where the turn is taken, else 0
  pub held_count : ℕ
  -- the place of the view that makes passes, that of the one that holds the turn, and how many passes were made
  pub maker : ℕ
  pub holder : ℕ
  pub top : ℕ
  -- the word counts the entries, and says whether the turn is taken
  pub word : table.words ≡ (2 * length list + held_count) ∷ []
  pub bit : held_count ≤ 1
  -- while the turn is free the slot is at home, with a value that stands for the list
  pub home : held_count ≡ 0 → (x : T) × (table.homes ≡ some (Some x) ∷ []) × stands x list
  -- while it is taken the slot is out
  pub away : held_count ≡ 1 → table.homes ≡ maybe.none ∷ []
  -- who sits at the table, who holds the turn, and what each knows
  pub seated : Seated seats top maker table.views
  pub holding : Holding list held_count holder table.views
  pub fits : (i : ℕ) (v : View E) → get_elem? table.views i ≡ some v → 0 < v.weight → ViewFits owner list seats top v
  -- each entry is owned by a pass that was made
  pub owned : All (λ e. owner e < top) list
