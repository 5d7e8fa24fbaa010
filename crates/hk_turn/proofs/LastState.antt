-- What the last state shows to the seat that stands for all passes.
use Rattle.std.proofs.Common.{◌≡◌, ℕ, ◌<◌, ◌≤◌, false, true≢false, List, Some, Option, length, sym, ap, ◌∙◌, arith}
use Rattle.std.specs.Prelude.{All}
use mathlib.Core.List.{IsPrefix}
use mathlib.Core.Option.{some, some-ne-none, some-injective}
use mathlib.Core.Option as maybe
use lib.ListN.{get_elem?}
use Rattle.atomic_table.specs.Table.{State, Final, Seen}
use Rattle.hk_turn.specs.declared.view.View.{View}
use Rattle.hk_turn.specs.Rule.{KeepsRule}
use Rattle.hk_turn.proofs.Places.{one_there}
use Rattle.hk_turn.proofs.Prefixes.{prefix_of_goes}
use Rattle.hk_turn.proofs.Seating.{alone}

module _ {T E : Type 0} (stands : T → List E → Type 0) (owner : E → ℕ) (seats : ℕ) where
  abbrev Rule : State (Option T) (View E) → Type 0
  Rule = KeepsRule stands owner seats

  -- the slot is at home, with a value that stands for a list which begins with all that the seat has seen and was told
  pub last_state_shows : (id : ℕ) (v : View E) (ws : List ℕ) (xs : List (Option T)) → 0 < seats → v.weight ≡ seats → v.holds ≡ false → Final (Seen Rule id v) ws xs
      → (x : T) × (l : List E) × (get_elem? xs 0 ≡ some (Some x)) × stands x l × IsPrefix v.seen l × All (λ t. IsPrefix t l) v.lists_told × (v.known ≤ length l)
      × All (λ e. owner e < seats) l
  last_state_shows id v ws xs some_seats all free f =
      let s : State (Option T) (View E) = f.0 in let r : Rule s = f.1.0 in let at = f.1.1 in
      let fit = r.fits id v at (omega arith) in
      let not_out : ¬ (r.held_count ≡ 1) = λ h. let k = r.holding.someone h in let mine = r.holding.each r.holder k.0 k.1 k.2 in
      let is : r.holder ≡ id = alone seats r.top r.maker s.views id r.holder v k.0 r.seated at all k.1 mine.3 in
      true≢false (sym k.2 ∙ (ap (λ (y : View E). y.holds) (one_there s.views r.holder id k.0 v is k.1 at) ∙ free)) in
      let home = r.home (let b = r.bit in omega arith) in
      let x : T = home.0 in (
        x,
        r.list,
        f.4 0 (Some x) (ap (λ (hs : List (maybe.Option (Option T))). get_elem? hs 0) home.1),
        home.2,
        prefix_of_goes owner v.number v.seen r.list fit.goes_on,
        fit.lists_told,
        fit.known,
        λ k d l. let o = r.owned k d l in let t = r.seated.room in omega arith,
      )
