-- The table keeps the rule when it is made.
use Rattle.std.proofs.Common.{◌≡◌, ℕ, ◌<◌, true, true≢false, List, [], ◌∷◌, Some, Option, sym, refl, arith}
use Rattle.std.proofs.lemmas.List.Elements.{All-nil}
use mathlib.Core.List.{IsPrefix}
use mathlib.Core.Option.{some}
use lib.ListN.{get_elem?}
use Rattle.atomic_table.specs.Table.{State, opening}
use Rattle.hk_turn.specs.declared.view.View.{View}
use Rattle.hk_turn.specs.Views.{opening_view}
use Rattle.hk_turn.specs.Rule.{ViewFits, HoldsTurn, KeepsRule}
use Rattle.hk_turn.proofs.Places.{within, each_set}
use Rattle.hk_turn.proofs.Prefixes.{goes_nowhere}

module _ {T E : Type 0} (stands : T → List E → Type 0) (owner : E → ℕ) (seats : ℕ) where
  abbrev Rule : State (Option T) (View E) → Type 0
  Rule = KeepsRule stands owner seats

  -- a new table keeps the rule, if its value stands for the empty list
  pub opening_keeps_rule : (x : T) → stands x [] → 0 < seats → Rule (opening (0 ∷ []) (Some x ∷ []) (opening_view seats))
  opening_keeps_rule x is_sound some_seats =
      let v : View E = opening_view seats in
      let only : (P : ℕ → View E → Type 0) → P 0 v → (i : ℕ) (u : View E) → get_elem? (v ∷ []) i ≡ some u → P i u = λ P p i u e. each_set P (v ∷ []) 0 v p
      (λ j z out f. absurd (let l = within (v ∷ []) j z f in omega arith)) i u e in record {
        list = [];
        held_count = 0;
        maker = 0;
        holder = 0;
        top = 1;
        word = refl;
        bit = omega arith;
        home = λ _. (x, refl, is_sound);
        away = λ no. absurd (omega arith);
        seated = record {
          makes = (v, refl, refl, some_seats);
          no_other = only (λ i u. 0 < u.weight → 0 < u.made → i ≡ 0) (λ _ _. refl);
          apart = λ i j a b ea eb _ _ _. let l = within (v ∷ []) i a ea in let l' = within (v ∷ []) j b eb in omega arith;
          sum = omega arith;
          room = (omega arith, omega arith);
        };
        holding = record {
          each = only (λ i u. u.holds ≡ true → HoldsTurn [] 0 0 i u) (λ no. absurd (true≢false (sym no)));
          someone = λ no. absurd (omega arith);
        };
        fits = only (λ i u. 0 < u.weight → ViewFits owner [] seats 1 u) (λ _. record {
          goes_on = goes_nowhere owner 0 [];
          lists_told = All-nil (λ t. IsPrefix t []);
          known = omega arith;
          seats_are = refl;
          below = omega arith;
        });
        owned = All-nil (λ e. owner e < 1);
      }
