-- The view of a pass, once its badge is a seat.
use Rattle.std.proofs.Common.{◌≡◌, false, List, [], ◌∷◌, sym, ap, ◌∙◌}
use Rattle.hk_turn.specs.declared.view.View.{View}
use Rattle.hk_turn.specs.declared.pass.Pass.{Pass}
use Rattle.hk_turn.specs.Views.{first_view}
use Rattle.hk_turn.specs.Passes.{seen_list, known_count}

module _ {E : Type 0} where
  -- it stands for one pass
  pub weight_is : (vs : List (View E)) (v : View E) → vs ≡ v ∷ [] → (first_view vs).weight ≡ 1 → v.weight ≡ 1
  weight_is vs v is one = ap (λ (us : List (View E)). (first_view us).weight) (sym is) ∙ one

  -- it holds nothing
  pub free_is : (vs : List (View E)) (v : View E) → vs ≡ v ∷ [] → (first_view vs).holds ≡ false → v.holds ≡ false
  free_is vs v is free = ap (λ (us : List (View E)). (first_view us).holds) (sym is) ∙ free

  -- it has seen what the pass has
  pub seen_list_is : (p : Pass E) (v : View E) → p.badge.views ≡ v ∷ [] → seen_list p ≡ v.seen
  seen_list_is p v is = ap (λ (vs : List (View E)). (first_view vs).seen) is

  -- it knows of as many entries as the pass
  pub known_count_is : (p : Pass E) (v : View E) → p.badge.views ≡ v ∷ [] → known_count p ≡ v.known
  known_count_is p v is = ap (λ (vs : List (View E)). (first_view vs).known) is
