-- A try, won or lost, keeps the rule.
use Rattle.std.proofs.Common.{◌≡◌, ℕ, ◌+◌, ◌*◌, ◌%◌, ◌<◌, eqb, true, List, [], ◌∷◌, Some, Option, length, set, get_or, sym, refl, ap, ◌∙◌, arith}
use mathlib.Core.Option.{some, some-ne-none, some-injective}
use mathlib.Core.Option as maybe
use lib.ListN.{get_elem?}
use prog.Atomic.{either}
use Rattle.atomic_table.specs.Table.{State, step, keeps, takes, stepped, Valid, carried_after, Allows}
use Rattle.atomic_table.proofs.Lists.{set_here, exchanged}
use Rattle.hk_turn.specs.declared.view.View.{View}
use Rattle.hk_turn.specs.Rule.{ViewFits, HoldsTurn, KeepsRule}
use Rattle.hk_turn.specs.Steps.{AtSeat, Tries}
use Rattle.hk_turn.proofs.Places.{within, each_set}
use Rattle.hk_turn.proofs.Seating.{seated_set}
use Rattle.hk_turn.proofs.ViewChange.{view_change_keeps_rule}

module _ {T E : Type 0} (stands : T → List E → Type 0) (owner : E → ℕ) (seats : ℕ) where
  abbrev Rule : State (Option T) (View E) → Type 0
  Rule = KeepsRule stands owner seats

  -- a try that was won keeps the rule
  won_try_keeps_rule : (s : State (Option T) (View E)) (r : Rule s) (id : ℕ) (me : AtSeat T E) (n : ℕ) → get_elem? s.views id ≡ some me.0 → 0 < me.0.weight → get_or s.words 0 0 ≡ n
      → n % 2 ≡ 0
      → (x : T) → s.homes ≡ some (Some x) ∷ [] → let w : View E = record me.0 { holds = true; found = r.list } in
      Rule (stepped s 0 (n + 1) id me.1 w (takes 0 (Some x)))
  won_try_keeps_rule s r id me n at some_weight found even x homes =
      let v : View E = me.0 in let w : View E = record v { holds = true; found = r.list } in let b = r.bit in
      let n_is : n ≡ 2 * length r.list + r.held_count = sym found ∙ ap (λ (ws : List ℕ). get_or ws 0 0) r.word in
      let free : r.held_count ≡ 0 = omega arith in
      let fit = r.fits id v at some_weight in record {
        list = r.list;
        held_count = 1;
        maker = r.maker;
        holder = id;
        top = r.top;
        word = ap (λ (ws : List ℕ). set ws 0 (n + 1)) r.word ∙ ap (λ (m : ℕ). m ∷ []) (let e : n + 1 ≡ 2 * length r.list + 1 = omega arith in e);
        bit = omega arith;
        home = λ no. absurd (omega arith);
        away = λ _. ap (λ (hs : List (maybe.Option (Option T))). set hs 0 maybe.none) homes;
        seated = seated_set seats r.top r.maker s.views id v w at refl refl refl some_weight r.seated;
        holding = record {
          each = each_set (λ i u. u.holds ≡ true → HoldsTurn r.list 1 id i u) s.views id w (λ _. (refl, refl, refl, some_weight))
              (λ j u _ e h. let k = (r.holding.each j u e h).0 in absurd (omega arith));
          someone = λ _. (w, set_here s.views id w (within s.views id v at), refl);
        };
        fits = each_set (λ i u. 0 < u.weight → ViewFits owner r.list seats r.top u) s.views id w
            (λ _. record { goes_on = fit.goes_on; lists_told = fit.lists_told; known = fit.known; seats_are = fit.seats_are; below = fit.below }) (λ j u _ e. r.fits j u e);
        owned = r.owned;
      }

  -- a try keeps the rule, and is won where the even word was the one hoped for
  pub try_keeps_rule : (slots id : ℕ) (me : AtSeat T E) (old : ℕ) → 0 < me.0.weight → old % 2 ≡ 0
      → Allows Rule slots id me 0 (λ n. either (eqb n old) (old + 1) n) (Tries stands owner (step slots 0 old (old + 1) maybe.none) me)
  try_keeps_rule slots id me old some_weight even s r _ at _ =
      let v : View E = me.0 in let n : ℕ = get_or s.words 0 0 in let b = r.bit in
      let n_is : n ≡ 2 * length r.list + r.held_count = ap (λ (ws : List ℕ). get_or ws 0 0) r.word in
      let fit = r.fits id v at some_weight in
      exchanged n old (old + 1) (λ m. (w : View E) × (a : _) × Valid s.homes me.1 a × Rule (stepped s 0 m id me.1 w a) × Tries stands owner (step slots 0 old (old + 1) maybe.none)
      me n (w, carried_after me.1 a))
      (λ hit.
      let free : r.held_count ≡ 0 = omega arith in
      let home = r.home free in
      let x : T = home.0 in
      let w : View E = record v { holds = true; found = r.list } in (
        w,
        takes 0 (Some x),
        ap (λ (hs : List (maybe.Option (Option T))). get_elem? hs 0) home.1,
        won_try_keeps_rule s r id me old at some_weight hit even x home.1,
        (
          (λ _. (x, r.list, refl, refl, home.2, omega arith, fit.goes_on, fit.known)),
          (λ no. absurd (no hit)),
        ),
      ))
      (λ miss. (v, keeps, tt, view_change_keeps_rule stands owner seats s r id v v at refl refl refl refl refl some_weight fit, ((λ yes. absurd (miss yes)), (λ _. refl))))
