-- Finish and back keep the rule.
use Rattle.std.proofs.Common.{◌≡◌, ◌≢◌, ℕ, ◌+◌, ◌*◌, ◌<◌, true, false, true≢false, List, [], ◌∷◌, ◌++◌, Some, None, Option, length, set, sym, refl, ap, ◌∙◌, subst, arith}
use Rattle.std.proofs.Common.{length-append}
use Rattle.std.specs.Prelude.{All}
use Rattle.std.proofs.lemmas.List.Elements.{All-append}
use mathlib.Core.List.{IsPrefix}
use mathlib.Core.Option.{some, some-ne-none, some-injective}
use mathlib.Core.Option as maybe
use Rattle.atomic_table.specs.Table.{State, step, gives, put_back, rest, Allows}
use Rattle.hk_turn.specs.declared.view.View.{View}
use Rattle.hk_turn.specs.Rule.{ViewFits, HoldsTurn, KeepsRule}
use Rattle.hk_turn.specs.Steps.{AtSeat, GivesBack, IsHolder, MayGiveBack}
use Rattle.hk_turn.proofs.Places.{each_set}
use Rattle.hk_turn.proofs.Prefixes.{prefix_longer, goes_nowhere, goes_further}
use Rattle.hk_turn.proofs.Seating.{seated_set}

module _ {T E : Type 0} (stands : T → List E → Type 0) (owner : E → ℕ) (seats : ℕ) where
  abbrev Rule : State (Option T) (View E) → Type 0
  Rule = KeepsRule stands owner seats

  -- what a view of the list knows stays so where the list grows by entries of another number
  fits_longer : (list more : List E) (top number : ℕ) (u : View E) → All (λ e. owner e ≡ number) more → u.number ≢ number → ViewFits owner list seats top u
      → ViewFits owner (list ++ more) seats top u
  fits_longer list more top number u mine other h = record {
    goes_on = goes_further owner u.number u.seen list more h.goes_on (λ k d l is. other (sym is ∙ mine k d l));
    lists_told = λ k d l. prefix_longer _ _ more (h.lists_told k d l);
    known = omega (arith, h.known, length-append list more);
    seats_are = h.seats_are;
    below = h.below;
  }

  -- finish and back keep the rule: the list grows by entries of the seat's own number, one or none
  pub give_back_keeps_rule : (noted : List E → Type 0) (slots id : ℕ) (me : AtSeat T E) (x : T) (list more : List E) (new : ℕ) → 0 < me.0.weight → me.0.holds ≡ true
      → me.1 ≡ (0, Some x) ∷ [] → noted list → stands x list → list ≡ me.0.found ++ more → All (λ e. owner e ≡ me.0.number) more
      → new ≡ 2 * length list → Allows Rule slots id me 0 (λ _. new) (λ _. GivesBack noted (step slots 0 new 0 maybe.none) me new)
  give_back_keeps_rule noted slots id me x list more new some_weight holds out is_noted is_sound grows mine new_is s r _ at _ =
      let v : View E = me.0 in let w : View E = record v { holds = false; found = []; seen = list } in
      let k = r.holding.each id v at holds in
      let fit = r.fits id v at some_weight in
      let grown : list ≡ r.list ++ more = grows ∙ ap (λ l. l ++ more) k.2 in (
        w,
        gives,
        tt,
        record {
          list = list;
          held_count = 0;
          maker = r.maker;
          holder = 0;
          top = r.top;
          word = ap (λ (ws : List ℕ). set ws 0 new) r.word ∙ ap (λ (m : ℕ). m ∷ []) (let e : new ≡ 2 * length list + 0 = omega arith in e);
          bit = omega arith;
          home = λ _. (x, ap (put_back s.homes) out ∙ ap (λ (hs : List (maybe.Option (Option T))). set hs 0 (some (Some x))) (r.away k.0), is_sound);
          away = λ no. absurd (omega arith);
          seated = seated_set seats r.top r.maker s.views id v w at refl refl refl some_weight r.seated;
          holding = record {
            each = each_set (λ i u. u.holds ≡ true → HoldsTurn list 0 0 i u) s.views id w (λ no. absurd (true≢false (sym no)))
                (λ j u apart e h. absurd (apart ((r.holding.each j u e h).1 ∙ sym k.1)));
            someone = λ no. absurd (omega arith);
          };
          fits = each_set (λ i u. 0 < u.weight → ViewFits owner list seats r.top u) s.views id w
              (λ _. record {
                goes_on = goes_nowhere owner v.number list;
                lists_told = subst (λ l. All (λ t. IsPrefix t l) v.lists_told) (sym grown) (λ i d l. prefix_longer _ _ more (fit.lists_told i d l));
                known = (let l = fit.known in let e : length list ≡ length r.list + length more = ap length grown ∙ length-append r.list more in omega arith);
                seats_are = fit.seats_are;
                below = fit.below;
              })
              (λ j u apart e p. subst (λ l. ViewFits owner l seats r.top u) (sym grown)
              (fits_longer r.list more r.top v.number u mine (λ is. apart (r.seated.apart j id u v e at p some_weight is)) (r.fits j u e p)));
          owned =
              subst (All (λ e. owner e < r.top)) (sym grown) (All-append (λ e. owner e < r.top) r.list more r.owned
              (λ i d l. let o = mine i d l in let b = fit.below in omega arith));
        },
        (list, is_noted, refl, ap rest out),
      )

  -- the same for a seat that put the value into its slot before
  pub give_back_of_holder : (noted : List E → Type 0) (slots id number : ℕ) (was me : AtSeat T E) (x : T) (new : ℕ) → was.1 ≡ (0, None) ∷ [] → IsHolder number was.0
      → me ≡ (was.0, (0, Some x) ∷ rest was.1)
      → MayGiveBack stands owner noted number was.0.found x new → Allows Rule slots id me 0 (λ _. new) (λ _. GivesBack noted (step slots 0 new 0 maybe.none) me new)
  give_back_of_holder noted slots id number was me x new out holder is may =
      let grows = may.3 in
      subst (λ (m : AtSeat T E). Allows Rule slots id m 0 (λ _. new) (λ _. GivesBack noted (step slots 0 new 0 maybe.none) m new)) (sym is)
      (give_back_keeps_rule noted slots id (was.0, (0, Some x) ∷ rest was.1) x may.0 grows.0 new (let w = holder.1 in omega arith) holder.0
      (ap (λ (l : List (ℕ × Option T)). (0, Some x) ∷ rest l) out) may.1 may.2 grows.1 (λ k d l. grows.2 k d l ∙ sym holder.2) may.4)
