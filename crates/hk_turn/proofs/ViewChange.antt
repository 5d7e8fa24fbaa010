-- A view changes, and no word or slot does.
use Rattle.std.proofs.Common.{◌≡◌, ℕ, ◌<◌, true, List, Option, set, get_or, sym, ap, ◌∙◌, subst, arith}
use mathlib.Core.Logic.{dite}
use mathlib.Core.Option.{some}
use native.Mathlib.Decide.{ℕ_discrete}
use lib.ListN.{get_elem?}
use Rattle.atomic_table.specs.Table.{State}
use Rattle.atomic_table.proofs.Lists.{set_here, set_else}
use Rattle.hk_turn.specs.declared.view.View.{View}
use Rattle.hk_turn.specs.Rule.{ViewFits, HoldsTurn, KeepsRule}
use Rattle.hk_turn.proofs.Places.{one_there, within, each_set}
use Rattle.hk_turn.proofs.Seating.{seated_set}

module _ {T E : Type 0} (stands : T → List E → Type 0) (owner : E → ℕ) (seats : ℕ) where
  abbrev Rule : State (Option T) (View E) → Type 0
  Rule = KeepsRule stands owner seats

  -- the view of one seat changes, and keeps its number, its weight, its count of passes made, and the turn
  pub view_change_keeps_rule : (s : State (Option T) (View E)) (r : Rule s) (id : ℕ) (v w : View E) → get_elem? s.views id ≡ some v → w.number ≡ v.number → w.weight ≡ v.weight
      → w.made ≡ v.made → w.holds ≡ v.holds → w.found ≡ v.found → 0 < v.weight
      → ViewFits owner r.list seats r.top w → Rule record { words = set s.words 0 (get_or s.words 0 0); homes = s.homes; views = set s.views id w }
  view_change_keeps_rule s r id v w at number weighs made holds found some_weight fits = record {
    list = r.list;
    held_count = r.held_count;
    maker = r.maker;
    holder = r.holder;
    top = r.top;
    word = ap (λ (ws : List ℕ). set ws 0 (get_or ws 0 0)) r.word;
    bit = r.bit;
    home = r.home;
    away = r.away;
    seated = seated_set seats r.top r.maker s.views id v w at number weighs made some_weight r.seated;
    holding = record {
      each = each_set (λ i u. u.holds ≡ true → HoldsTurn r.list r.held_count r.holder i u) s.views id w
          (λ h. let k = r.holding.each id v at (sym holds ∙ h) in (k.0, k.1, found ∙ k.2, omega arith)) (λ j u _ e. r.holding.each j u e);
      someone = λ h. let k = r.holding.someone h in dite (ℕ_discrete r.holder id)
          (λ is. (
            w,
            subst (λ (n : ℕ). get_elem? (set s.views id w) n ≡ some w) (sym is) (set_here s.views id w (within s.views id v at)),
            holds
                ∙ (ap (λ (u : View E). u.holds) (one_there s.views id r.holder v k.0 (sym is) at k.1) ∙ k.2),
          ))
          (λ apart. (k.0, set_else s.views id r.holder w apart ∙ k.1, k.2));
    };
    fits = each_set (λ i u. 0 < u.weight → ViewFits owner r.list seats r.top u) s.views id w (λ _. fits) (λ j u _ e. r.fits j u e);
    owned = r.owned;
  }
