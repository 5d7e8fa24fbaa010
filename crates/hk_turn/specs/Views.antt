-- Views: what each seat at the table of the turn knows. docs/TURNS.md, 'Views'.
use Rattle.std.specs.Prelude.{◌≡◌, ℕ, ◌+◌, ◌-◌, Bool, true, false, List, [], ◌∷◌, length, Contains, nat_lt, max, ◌⊎◌}
use Rattle.hk_turn.specs.declared.view.View.{View}

-- the longer list; the first where they are of one length
abbrev pub longer_if : {E : Type 0} → Bool → List E → List E → List E
longer_if true first second = second
longer_if false first second = first

-- the same, chosen by the lengths
abbrev pub longer : {E : Type 0} → List E → List E → List E
longer first second = longer_if (nat_lt (length first) (length second)) first second

module _ {E : Type 0} where
  -- a view of that number that has seen nothing and holds nothing; it made so many passes, and stands for so many
  abbrev pub blank_view : ℕ → ℕ → ℕ → ℕ → View E
  blank_view number made weight seats = record { number = number; made = made; weight = weight; seats = seats; known = 0; seen = []; lists_told = []; holds = false; found = [] }

  -- the view of the first seat, which stands for all passes and has made one, itself
  abbrev pub opening_view : ℕ → View E
  opening_view seats = blank_view 0 1 seats seats

  -- the view that a joined seat leaves behind: it stands for no pass
  abbrev pub spent_view : View E
  spent_view = blank_view 0 0 0 0

  -- the view of a badge, which has one
  abbrev pub first_view : List (View E) → View E
  first_view [] = spent_view
  first_view (v ∷ vs) = v

  -- the view that made passes, after it made one more
  abbrev pub maker_after_split : View E → View E
  maker_after_split v = record v { made = v.made + 1; weight = v.weight - 1 }

  -- the view of the pass that it made
  abbrev pub split_view : View E → View E
  split_view v = blank_view v.made 0 1 v.seats

  -- a view that took in another: it stands for the passes of both, has seen the longer list, and remembers what each had seen
  abbrev pub joined_view : View E → View E → View E
  joined_view v w = record v {
    made = max v.made w.made;
    weight = v.weight + w.weight;
    known = max v.known w.known;
    seen = longer v.seen w.seen;
    lists_told = v.seen ∷ w.seen ∷ v.lists_told;
  }

  -- the view has seen the list, or took in one that had
  abbrev pub Heard : View E → List E → Type 0
  Heard v list = (list ≡ v.seen) ⊎ Contains v.lists_told list
