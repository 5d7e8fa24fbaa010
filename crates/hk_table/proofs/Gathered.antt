-- What an answer says of the value that it has.
use Rattle.std.proofs.Common.{◌≡◌, subst, IfOk, Ok, Result}

-- what holds of an answer's value if there is one holds of the value that it is
pub fact_of : {A E : Type 0} {r : Result A E} {x : A} (P : A → Type 0) → IfOk r P → r ≡ Ok x → P x
fact_of P h e = subst (λ r. IfOk r P) e h
