-- What clauses say of turns and of one turn. docs/TURNS.md, 'Passes', 'A turn' and 'Closing'.
use Rattle.std.specs.Prelude.{◌≡◌, ℕ, ◌+◌, ◌<◌, ◌≤◌, List, [], length, slice_index_or, All}
use mathlib.Core.List.{IsPrefix}
use Rattle.hk_turn.specs.declared.pass.Pass.{Pass}
use Rattle.hk_turn.specs.declared.turn.Turn.{Turn}
use Rattle.hk_turn.specs.declared.turns.Turns.{Turns}
use Rattle.hk_turn.specs.Passes.{pass_number, seen_list, known_count}

module _ {T E : Type 0} where
  -- how many passes there are in all
  abbrev pub seat_count : Turns T E → ℕ
  seat_count t = t.seats

  -- the pass is of these turns
  abbrev pub IsPassOf : Turns T E → Pass E → Type 0
  IsPassOf t p = p.badge.table_id ≡ t.table.shared.table_id

  -- so is each of these
  abbrev pub ArePassesOf : Turns T E → List (Pass E) → Type 0
  ArePassesOf t ps = All (IsPassOf t) ps

  -- a pass of these turns with that number, which has seen nothing
  abbrev pub IsNewPass : Turns T E → ℕ → Pass E → Type 0
  IsNewPass t number p = IsPassOf t p × (pass_number p ≡ number) × (seen_list p ≡ []) × (known_count p ≡ 0)

  -- new passes, numbered from there in the order of the list
  abbrev pub AreNewPasses : Turns T E → ℕ → List (Pass E) → Type 0
  AreNewPasses t from ps = (k : ℕ) (p : Pass E) → k < length ps → IsNewPass t (from + k) (slice_index_or ps k p)

  -- the number of the pass that took the turn
  abbrev pub turn_number : Turn T E → ℕ
  turn_number t = t.number

  -- the list of entries that was found at the turn
  abbrev pub found_list : Turn T E → List E
  found_list t = t.seat.me.0.found

  -- the value while the turn has it
  abbrev pub turn_value : Turn T E → T
  turn_value t = t.value

  -- the turn with another value
  abbrev pub with_value : Turn T E → T → Turn T E
  with_value t x = record t { value = x }

  -- the turn was taken with that pass: it is at the pass's turns, has its number and keeps what it knew
  abbrev pub IsTurnOf : Pass E → Turn T E → Type 0
  IsTurnOf p t = (t.seat.table_id ≡ p.badge.table_id) × (turn_number t ≡ pass_number p) × (t.seat.me.0.known ≡ known_count p)

  -- the pass came back from that turn: it is of the turn's turns, has its number and knows what was known
  abbrev pub IsPassAfter : Turn T E → Pass E → Type 0
  IsPassAfter t p = (p.badge.table_id ≡ t.seat.table_id) × (pass_number p ≡ turn_number t) × (known_count p ≡ t.seat.me.0.known)

-- the list begins with what the pass had seen, and has at least as many entries as the pass knew of
abbrev pub Extends : {E : Type 0} → List E → Pass E → Type 0
Extends list p = IsPrefix (seen_list p) list × (known_count p ≤ length list)

-- the value stands for a list that extends each of these passes, and whose owners are below that number
abbrev pub StandsForAll : {T E : Type 0} → (T → List E → Type 0) → (E → ℕ) → ℕ → List (Pass E) → T → Type 0
StandsForAll {T} {E} stands owner seats ps x = (list : List E) × stands x list × All (Extends list) ps × All (λ e. owner e < seats) list
