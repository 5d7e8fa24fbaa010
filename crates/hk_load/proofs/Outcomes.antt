-- What is answered where a line is refused, or is not.
use Rattle.std.proofs.Common.{◌≡◌, ℕ, refl, ap, sym, ◌∙◌, Ok, Err, Result}
use Rattle.std.specs.Prelude.{IfOk}
use Rattle.hk_format.specs.declared.causes.LoadCause.{LoadCause}
use Rattle.hk_format.specs.Loading.{Refused, at_line}
use Rattle.hk_model.specs.Refusing.{◌>>=◌}
use Rattle.hk_format.specs.declared.errors.LineError.{LineError}
use Rattle.hk_format.specs.declared.errors.LineError.TheVariants as line_error
use Rattle.hk_format.specs.declared.errors.ReadError.{ReadError}
use Rattle.hk_format.specs.declared.errors.ReadError.TheVariants as load_error
use Rattle.hk_format.specs.Outcomes.{Fails, Stops, GivesAll, IsRefused, error_on}

-- the line is refused, and so all lines are
pub line_stops : {A B : Type 0} (e : (LineError LoadCause)) (line : ℕ) (r : Result A LoadCause) (f : A → Result B Refused) (whole : Result B Refused) → Fails e r
    → whole ≡ (at_line line r >>= f) → Stops (error_on line e) whole
line_stops (line_error.Bad cause) line r f whole h e = e ∙ ap (λ x. at_line line x >>= f) h
line_stops line_error.NoMemory line r f whole h e = tt

-- the line gives this, and the others follow
pub line_goes : {A B : Type 0} (line : ℕ) (r : Result A LoadCause) (x : A) (f : A → Result B Refused) (whole : Result B Refused) → r ≡ Ok x → whole ≡ (at_line line r >>= f)
    → f x ≡ whole
line_goes line r x f whole h e = sym (e ∙ ap (λ r. at_line line r >>= f) h)

-- an item is refused, and so all items are
pub item_stops : {A B : Type 0} (e : (ReadError LoadCause)) (r : Result A Refused) (f : A → Result B Refused) (whole : Result B Refused) → Stops e r → whole ≡ (r >>= f)
    → Stops e whole
item_stops (load_error.Refused line cause) r f whole h e = e ∙ ap (λ x. x >>= f) h
item_stops load_error.NoMemory r f whole h e = tt

-- the item gives this, and the others follow
pub item_goes : {A B : Type 0} (r : Result A Refused) (x : A) (f : A → Result B Refused) (whole : Result B Refused) → r ≡ Ok x → whole ≡ (r >>= f) → f x ≡ whole
item_goes r x f whole h e = sym (e ∙ ap (λ y. y >>= f) h)

-- the line and its cause
refused_at : {X B : Type 0} (result : Result X (ReadError LoadCause)) (e : (ReadError LoadCause)) (whole : Result B Refused) (line : ℕ) (cause : LoadCause) → result ≡ Err e
    → Stops e whole → IsRefused result line cause → whole ≡ Err (line, cause)
refused_at result (load_error.Refused l c) whole line cause h k r =
    let same : Err (load_error.Refused l c) ≡ Err (load_error.Refused line cause) = sym h ∙ r in
    let lines : l ≡ line = cc in
    let causes : c ≡ cause = cc in
    k ∙ ap (λ x. Err (x, c)) lines ∙ ap (λ x. Err (line, x)) causes
refused_at result load_error.NoMemory whole line cause h k r = absurd (let same : Err load_error.NoMemory ≡ Err (load_error.Refused line cause) = sym h ∙ r in cc)

-- what is loaded, as clauses say it

pub loaded_ok : {X B : Type 0} (view : X → B) (result : Result X (ReadError LoadCause)) (whole : Result B Refused) → GivesAll view result whole
    → IfOk result (λ x. whole ≡ Ok (view x))
loaded_ok view (Ok x) whole h = h
loaded_ok view (Err e) whole h = tt

pub loaded_refused : {X B : Type 0} (view : X → B) (result : Result X (ReadError LoadCause)) (whole : Result B Refused) → GivesAll view result whole
    → (line : ℕ) (cause : LoadCause) → IsRefused result line cause → whole ≡ Err (line, cause)
loaded_refused view (Ok x) whole h line cause r = absurd (let same : Ok x ≡ Err (load_error.Refused line cause) = r in cc)
loaded_refused view (Err e) whole h line cause r = refused_at (Err e) e whole line cause refl h r
