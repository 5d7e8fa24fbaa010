-- What stands at the keys of a value.
use Rattle.std.proofs.Common.{◌≡◌, List, [], ◌∷◌, map, refl, ap, Option, Some, None}
use Rattle.std.specs.Prelude.{is_some, option_map}
use Rattle.serde_json.specs.Data.{Data}
use Rattle.serde_json.specs.View.{view, items_of, items_view}
use Rattle.serde_json.specs.declared.value.Value.{Value}
use Rattle.hk_json.specs.Scripts.{values_in}

-- the values of a list are those in its data
pub values_again : (ds : List Data) → values_in (items_of ds) ≡ ds
values_again [] = refl
values_again (d ∷ ds) = ap (λ (t : List Data). d ∷ t) (values_again ds)

pub values_seen : (vs : List Value) → values_in (items_view vs) ≡ map view vs
values_seen vs = values_again (map view vs)

-- what is found is there
pub some_mapped : {A B : Type 0} (f : A → B) (found : Option A) → is_some (option_map f found) ≡ is_some found
some_mapped f None = refl
some_mapped f (Some x) = refl
