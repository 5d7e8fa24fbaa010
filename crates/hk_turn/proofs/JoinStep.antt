-- Join keeps the rule.
use Rattle.std.proofs.Common.{◌≡◌, ◌≢◌, ℕ, ◌<◌, true, false, true≢false, List, ◌∷◌, Option, length, set, sym, refl, ap, ◌∙◌, arith}
use Rattle.std.specs.Prelude.{nat_lt}
use Rattle.std.proofs.lemmas.List.Elements.{All-cons}
use Rattle.std.proofs.Math.Nat.{max-le}
use mathlib.Core.List.{IsPrefix}
use mathlib.Core.Option.{some}
use lib.ListN.{get_elem?}
use Rattle.atomic_table.specs.Table.{State, Joins}
use Rattle.atomic_table.proofs.Lists.{set_else}
use Rattle.hk_turn.specs.declared.view.View.{View}
use Rattle.hk_turn.specs.Views.{spent_view, joined_view}
use Rattle.hk_turn.specs.Rule.{ViewFits, HoldsTurn, KeepsRule}
use Rattle.hk_turn.proofs.Places.{one_there, each_set}
use Rattle.hk_turn.proofs.Prefixes.{goes_longer_if, prefix_of_goes}
use Rattle.hk_turn.proofs.Seating.{seated_join}

module _ {T E : Type 0} (stands : T → List E → Type 0) (owner : E → ℕ) (seats : ℕ) where
  abbrev Rule : State (Option T) (View E) → Type 0
  Rule = KeepsRule stands owner seats

  -- a join of two seats that hold nothing keeps the rule
  pub join_keeps_rule : (id : ℕ) (v : View E) (other : ℕ) (u : View E) → 0 < v.weight → 0 < u.weight → v.holds ≡ false → u.holds ≡ false
      → Joins Rule id v other u (joined_view v u) spent_view
  join_keeps_rule id v other u some_weight some_other free free' s r at two at' =
      let w : View E = joined_view v u in let mid : List (View E) = set s.views id w in
      let there : get_elem? s.views other ≡ some u = sym (set_else s.views id other w two) ∙ at' in
      let sit = seated_join seats r.top r.maker s.views id other v u w at there two refl refl some_weight some_other refl r.seated in
      let mine = r.fits id v at some_weight in let theirs = r.fits other u there some_other in
      let apart_from : (i : ℕ) (z : View E) → get_elem? s.views i ≡ some z → z.holds ≡ true → (i ≢ id) × (i ≢ other) = λ i z e h. (
        (λ is. true≢false (sym h ∙ (ap (λ (y : View E). y.holds) (one_there s.views i id z v is e at) ∙ free))),
        (λ is. true≢false (sym h ∙ (ap (λ (y : View E). y.holds) (one_there s.views i other z u is e there) ∙ free'))),
      ) in record {
        list = r.list;
        held_count = r.held_count;
        maker = sit.0;
        holder = r.holder;
        top = r.top;
        word = r.word;
        bit = r.bit;
        home = r.home;
        away = r.away;
        seated = sit.1;
        holding = record {
          each = each_set (λ i z. z.holds ≡ true → HoldsTurn r.list r.held_count r.holder i z) mid other spent_view (λ no. absurd (true≢false (sym no)))
              (λ j z _ e. each_set (λ i z. z.holds ≡ true → HoldsTurn r.list r.held_count r.holder i z) s.views id w (λ h. absurd (true≢false (sym h ∙ free)))
              (λ k y _ f. r.holding.each k y f) j z e);
          someone =
              λ h. let k = r.holding.someone h in let out = apart_from r.holder k.0 k.1 k.2
              in (k.0, set_else mid other r.holder spent_view out.1 ∙ (set_else s.views id r.holder w out.0 ∙ k.1), k.2);
        };
        fits = each_set (λ i z. 0 < z.weight → ViewFits owner r.list seats r.top z) mid other spent_view (λ no. absurd (omega arith))
            (λ j z _ e. each_set (λ i z. 0 < z.weight → ViewFits owner r.list seats r.top z) s.views id w
            (λ _. record {
              goes_on =
                  goes_longer_if owner v.number v.seen u.seen r.list mine.goes_on (prefix_of_goes owner u.number u.seen r.list theirs.goes_on)
                  (nat_lt (length v.seen) (length u.seen)) refl;
              lists_told =
                  All-cons (λ (t : List E). IsPrefix t r.list) v.seen (u.seen ∷ v.lists_told) (prefix_of_goes owner v.number v.seen r.list mine.goes_on)
                  (All-cons (λ (t : List E). IsPrefix t r.list) u.seen v.lists_told (prefix_of_goes owner u.number u.seen r.list theirs.goes_on) mine.lists_told);
              known = max-le mine.known theirs.known;
              seats_are = mine.seats_are;
              below = mine.below;
            })
            (λ k y _ f p. r.fits k y f p) j z e);
        owned = r.owned;
      }
