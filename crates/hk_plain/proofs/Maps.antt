-- Writes into a map that change nothing.
use Rattle.std.proofs.Common.{◌≡◌, List, [], ◌∷◌, Bool, true, false, cond, Some, None, refl, ap}
use Rattle.std.specs.Map.{lookup, set_value}

-- a value for a key that is not there changes nothing
by_test : {K X : Type 0} (test : K → Bool) (e : K × X) (es : List (K × X)) (w : X) (b : Bool) → cond b (Some e.1) (lookup test es) ≡ None
    → (lookup test es ≡ None → set_value test es w ≡ es) → cond b ((e.0, w) ∷ es) (e ∷ set_value test es w) ≡ e ∷ es
by_test test e es w true absent later = absurd (cc)
by_test test e es w false absent later = ap (λ rest. e ∷ rest) (later absent)

pub set_value_absent : {K X : Type 0} (test : K → Bool) (es : List (K × X)) (w : X) → lookup test es ≡ None → set_value test es w ≡ es
set_value_absent test [] w absent = refl
set_value_absent test (e ∷ es) w absent =
    by_test test e es w (test e.0) absent (λ rest. set_value_absent test es w rest)

-- the value that stands at a key, written there again, changes nothing
same_by_test : {K X : Type 0} (test : K → Bool) (e : K × X) (es : List (K × X)) (w : X) (b : Bool) → cond b (Some e.1) (lookup test es) ≡ Some w
    → (lookup test es ≡ Some w → set_value test es w ≡ es) → cond b ((e.0, w) ∷ es) (e ∷ set_value test es w) ≡ e ∷ es
same_by_test test e es w true there later = let same : w ≡ e.1 = cc in rw same refl
same_by_test test e es w false there later = ap (λ rest. e ∷ rest) (later there)

pub set_value_same : {K X : Type 0} (test : K → Bool) (es : List (K × X)) (w : X) → lookup test es ≡ Some w → set_value test es w ≡ es
set_value_same test [] w there = refl
set_value_same test (e ∷ es) w there =
    same_by_test test e es w (test e.0) there (λ rest. set_value_same test es w rest)
