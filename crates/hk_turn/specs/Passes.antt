-- What clauses say of a pass. docs/TURNS.md, 'Passes'.
use Rattle.std.specs.Prelude.{◌≡◌, ℕ, ◌≤◌, List, All}
use Rattle.hk_turn.specs.declared.view.View.{View}
use Rattle.hk_turn.specs.declared.pass.Pass.{Pass}
use Rattle.hk_turn.specs.Views.{first_view, Heard}

module _ {E : Type 0} where
  -- the number of the pass
  abbrev pub pass_number : Pass E → ℕ
  pass_number p = p.number

  -- the list of entries that the pass has seen
  abbrev pub seen_list : Pass E → List E
  seen_list p = (first_view p.badge.views).seen

  -- how many entries there are at least, as the pass knows
  abbrev pub known_count : Pass E → ℕ
  known_count p = (first_view p.badge.views).known

  -- the second pass is of the turns of the first, and has its number
  abbrev pub IsSamePass : Pass E → Pass E → Type 0
  IsSamePass p q = (q.badge.table_id ≡ p.badge.table_id) × (pass_number q ≡ pass_number p)

  -- the view knows what the pass had seen, and of as many entries
  abbrev pub Remembers : View E → Pass E → Type 0
  Remembers v p = Heard v (seen_list p) × (known_count p ≤ v.known)

  -- so it does for each of these passes
  abbrev pub RemembersAll : View E → List (Pass E) → Type 0
  RemembersAll v ps = All (Remembers v) ps
