-- The kinds of step of the turn: what each tells of the seat before and after it. docs/TURNS.md, 'The kinds of step'.
--
--   kind            seat               word                       its view
--   load            any                stays                      its known count becomes the number of entries
--   try, won        any                from 2n to 2n + 1          holds the turn, and has found the list
--   try, lost       any                stays                      stays
--   slot out, in    the holder         none                       stays
--   finish          the holder         from 2n + 1 to 2n + 2      has seen the list with its entry; holds nothing
--   back            the holder         from 2n + 1 to 2n          has seen the list; holds nothing
--   split           the first          stays                      has made one pass more (Views: maker_after_split, split_view)
--   join            that which stays   stays                      stands for the passes of both (Views: joined_view, spent_view)
use Rattle.std.specs.Prelude.{◌≡◌, ◌≢◌, ℕ, ◌*◌, ◌/◌, ◌≤◌, true, false, List, [], ◌∷◌, ◌++◌, length, Option, Some, All}
use Rattle.atomic_table.specs.Table.{Me, Step}
use Rattle.hk_turn.specs.declared.view.View.{View}
use Rattle.hk_turn.specs.Rule.{GoesOn}

-- a seat: its view, and the slots that are out with it
abbrev pub AtSeat : Type 0 → Type 0 → Type 0
AtSeat T E = Me (Option T) (View E)

module _ {T E : Type 0} where
  -- load: the known count becomes the number of entries, which is at least what was seen and known
  abbrev pub Loads : Step (Option T) → AtSeat T E → ℕ → AtSeat T E → Type 0
  Loads step before word after = (after.0 ≡ record before.0 { known = word / 2 }) × (after.1 ≡ before.1) × (length before.0.seen ≤ word / 2) × (before.0.known ≤ word / 2)

  -- a try that was won: the slot is out with the seat, and its value stands for the list found, which goes on from what was seen
  abbrev pub Wins : (T → List E → Type 0) → (E → ℕ) → AtSeat T E → ℕ → AtSeat T E → Type 0
  Wins stands owner before word after = (x : T) × (list : List E) × (after.0 ≡ record before.0 { holds = true; found = list }) × (after.1 ≡ (0, Some x) ∷ before.1)
      × stands x list × (2 * length list ≡ word) × GoesOn owner before.0.number before.0.seen list × (before.0.known ≤ length list)

  -- try: won where the word was the one hoped for, and else lost
  abbrev pub Tries : (T → List E → Type 0) → (E → ℕ) → Step (Option T) → AtSeat T E → ℕ → AtSeat T E → Type 0
  Tries stands owner step before word after = (word ≡ step.first → Wins stands owner before word after) × (word ≢ step.first → after ≡ before)

  -- finish and back: the slot is at home again, and the seat has seen a list that is noted
  abbrev pub GivesBack : (List E → Type 0) → Step (Option T) → AtSeat T E → ℕ → AtSeat T E → Type 0
  GivesBack noted step before word after = (list : List E) × noted list × (after.0 ≡ record before.0 { holds = false; found = []; seen = list }) × (after.1 ≡ [])

-- the view of a pass that holds the turn
abbrev pub IsHolder : {E : Type 0} → ℕ → View E → Type 0
IsHolder number v = (v.holds ≡ true) × (v.weight ≡ 1) × (v.number ≡ number)

-- a list grows by entries of that number: by one at finish, by none at back
abbrev pub GrowsBy : {E : Type 0} → (E → ℕ) → ℕ → List E → List E → Type 0
GrowsBy {E} owner number before after = (more : List E) × (after ≡ before ++ more) × All (λ e. owner e ≡ number) more

-- the turn may be given back with that value and word: a noted list grew from the one found, the value stands for it, and the word counts it
abbrev pub MayGiveBack : {T E : Type 0} → (T → List E → Type 0) → (E → ℕ) → (List E → Type 0) → ℕ → List E → T → ℕ → Type 0
MayGiveBack {T} {E} stands owner noted number found x word = (list : List E) × noted list × stands x list × GrowsBy owner number found list × (word ≡ 2 * length list)
