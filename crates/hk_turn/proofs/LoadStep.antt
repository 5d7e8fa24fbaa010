-- Load keeps the rule.
use Rattle.std.proofs.Common.{◌≡◌, ℕ, ◌+◌, ◌*◌, ◌/◌, ◌<◌, List, Option, length, get_or, refl, ap, arith}
use mathlib.Core.Option.{some, some-ne-none, some-injective}
use mathlib.Core.Option as maybe
use Rattle.atomic_table.specs.Table.{State, step, keeps, Allows}
use Rattle.hk_turn.specs.declared.view.View.{View}
use Rattle.hk_turn.specs.Rule.{KeepsRule}
use Rattle.hk_turn.specs.Steps.{AtSeat, Loads}
use Rattle.hk_turn.proofs.Prefixes.{goes_length}
use Rattle.hk_turn.proofs.ViewChange.{view_change_keeps_rule}

module _ {T E : Type 0} (stands : T → List E → Type 0) (owner : E → ℕ) (seats : ℕ) where
  abbrev Rule : State (Option T) (View E) → Type 0
  Rule = KeepsRule stands owner seats

  -- a load keeps the rule, and the number of entries is known
  pub load_keeps_rule : (slots id : ℕ) (me : AtSeat T E) → 0 < me.0.weight → Allows Rule slots id me 0 (λ n. n) (Loads (step slots 0 0 0 maybe.none) me)
  load_keeps_rule slots id me some_weight s r _ at _ =
      let v : View E = me.0 in let n : ℕ = get_or s.words 0 0 in
      let n_is : n ≡ 2 * length r.list + r.held_count = ap (λ (ws : List ℕ). get_or ws 0 0) r.word in
      let b = r.bit in
      let fit = r.fits id v at some_weight in
      let half : n / 2 ≡ length r.list = omega arith in
      let w : View E = record v { known = n / 2 } in (
        w,
        keeps,
        tt,
        view_change_keeps_rule stands owner seats s r id v w at refl refl refl refl refl some_weight record
            { goes_on = fit.goes_on; lists_told = fit.lists_told; known = omega arith; seats_are = fit.seats_are; below = fit.below },
        (refl, refl, (let l = goes_length owner v.number v.seen r.list fit.goes_on in omega arith), (let l = fit.known in omega arith)),
      )
