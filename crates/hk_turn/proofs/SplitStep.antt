-- Split keeps the rule.
use Rattle.std.proofs.Common.{◌≡◌, ℕ, ◌+◌, ◌-◌, ◌<◌, true, true≢false, List, [], ◌∷◌, Option, length, set, sym, refl, ap, ◌∙◌, subst, ⊎_elim, arith}
use Rattle.std.proofs.lemmas.List.Elements.{All-nil}
use mathlib.Core.List.{IsPrefix}
use mathlib.Core.Logic.{dite}
use mathlib.Core.Option.{some}
use native.Mathlib.Decide.{ℕ_discrete}
use lib.ListN.{get_elem?}
use Rattle.atomic_table.specs.Table.{State, Splits}
use Rattle.atomic_table.proofs.Lists.{set_here, set_else, at_longer}
use Rattle.hk_turn.specs.declared.view.View.{View}
use Rattle.hk_turn.specs.Views.{blank_view, maker_after_split, split_view}
use Rattle.hk_turn.specs.Rule.{ViewFits, HoldsTurn, KeepsRule}
use Rattle.hk_turn.specs.Steps.{AtSeat}
use Rattle.hk_turn.proofs.Places.{one_there, within, at_new, each_set}
use Rattle.hk_turn.proofs.Seating.{seated_split}

module _ {T E : Type 0} (stands : T → List E → Type 0) (owner : E → ℕ) (seats : ℕ) where
  abbrev Rule : State (Option T) (View E) → Type 0
  Rule = KeepsRule stands owner seats

  -- a split keeps the rule
  pub split_keeps_rule : (id : ℕ) (v : View E) → 0 < v.made → v.made < v.seats → 1 < v.weight → Splits Rule id v (maker_after_split v) (split_view v)
  split_keeps_rule id v makes few some_weight s r at =
      let after : List (View E) = set s.views id (maker_after_split v) in
      let fit = r.fits id v at (omega arith) in
      let is : id ≡ r.maker = r.seated.no_other id v at (omega arith) makes in
      let m = r.seated.makes in
      let top_is : v.made ≡ r.top = ap (λ (u : View E). u.made) (one_there s.views id r.maker v m.0 is at m.1) ∙ m.2 in
      let higher : (u : View E) → ViewFits owner r.list seats r.top u → ViewFits owner r.list seats (r.top + 1) u = λ u h. record
      { goes_on = h.goes_on; lists_told = h.lists_told; known = h.known; seats_are = h.seats_are; below = (let b = h.below in omega arith) } in
      let mine = r.fits id v at (omega arith) in record {
        list = r.list;
        held_count = r.held_count;
        maker = r.maker;
        holder = r.holder;
        top = r.top + 1;
        word = r.word;
        bit = r.bit;
        home = r.home;
        away = r.away;
        seated =
            seated_split seats r.top r.maker s.views id v at makes (let e = fit.seats_are in omega arith) some_weight fit.seats_are (λ i u e p. (r.fits i u e p).below) r.seated;
        holding = record {
          each = λ i u e. ⊎_elim
              (λ (old : get_elem? after i ≡ some u). each_set (λ i u. u.holds ≡ true → HoldsTurn r.list r.held_count r.holder i u) s.views id (maker_after_split v)
              (λ h. let k = r.holding.each id v at h in (k.0, k.1, k.2, omega arith)) (λ j u _ e. r.holding.each j u e) i u old)
              (λ (new : (i ≡ length after) × (split_view v ≡ u)) h. absurd (true≢false (sym h ∙ sym (ap (λ (z : View E). z.holds) new.1))))
              (at_new after (split_view v) u i e);
          someone = λ h. let k = r.holding.someone h in dite (ℕ_discrete r.holder id)
              (λ is. (
                maker_after_split v,
                at_longer after (split_view v ∷ []) r.holder (maker_after_split v)
                    (subst (λ (n : ℕ). get_elem? after n ≡ some (maker_after_split v)) (sym is) (set_here s.views id (maker_after_split v) (within s.views id v at))),
                ap
                    (λ (u : View E). u.holds) (one_there s.views id r.holder v k.0 (sym is) at k.1) ∙ k.2,
              ))
              (λ apart. (k.0, at_longer after (split_view v ∷ []) r.holder k.0 (set_else s.views id r.holder (maker_after_split v) apart ∙ k.1), k.2));
        };
        fits = λ i u e. ⊎_elim
            (λ (old : get_elem? after i ≡ some u). each_set (λ i u. 0 < u.weight → ViewFits owner r.list seats (r.top + 1) u) s.views id (maker_after_split v)
            (λ _. record { goes_on = mine.goes_on; lists_told = mine.lists_told; known = mine.known; seats_are = mine.seats_are; below = (let b = mine.below in omega arith) })
            (λ j u _ e p. higher u (r.fits j u e p)) i u old)
            (λ (new : (i ≡ length after) × (split_view v ≡ u)) _. subst (ViewFits owner r.list seats (r.top + 1)) new.1 record {
              goes_on = (r.list, refl, λ k d l own. let o = r.owned k d l in absurd (omega arith));
              lists_told = All-nil (λ t. IsPrefix t r.list);
              known = omega arith;
              seats_are = fit.seats_are;
              below = omega arith;
            })
            (at_new after (split_view v) u i e);
        owned = λ k d l. let o = r.owned k d l in omega arith;
      }

  -- the same for the first seat, which has made n of k passes
  pub split_of_first_seat : (id n w k : ℕ) (me : AtSeat T E) → me ≡ (blank_view 0 n w k, []) → 0 < n → n < k → 1 < w
      → Splits Rule id me.0 (maker_after_split me.0) (split_view me.0)
  split_of_first_seat id n w k me is makes few more =
      subst (λ (m : AtSeat T E). Splits Rule id m.0 (maker_after_split m.0) (split_view m.0)) (sym is) (split_keeps_rule id (blank_view 0 n w k) makes few more)

  -- the first seat, after it made one pass more
  pub first_seat_after_split : (n k : ℕ) (me after : AtSeat T E) → me ≡ (blank_view 0 n (k + 1 - n) k, []) → n < k → after ≡ (maker_after_split me.0, me.1)
      → after ≡ (blank_view 0 (n + 1) (k - n) k, [])
  first_seat_after_split n k me after is few step_is =
      step_is ∙ (ap (λ (m : AtSeat T E). (maker_after_split m.0, m.1)) is ∙ ap (λ (w : ℕ). (blank_view 0 (n + 1) w k, [])) (let e : k + 1 - n - 1 ≡ k - n = omega arith in e))
