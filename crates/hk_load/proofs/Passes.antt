-- A world, or a refusal, pass by pass.
use Rattle.std.proofs.Common.{◌≡◌, ℕ, List, Result, Ok, Err, refl, ap, ◌∙◌}
use Rattle.std.specs.Result.{IsErrAnd}
use Rattle.hk_format.specs.declared.causes.TextCause.{TextCause}
use Rattle.hk_format.specs.declared.causes.ParseCause.{ParseCause}
use Rattle.hk_format.specs.declared.causes.LoadCause.{LoadCause}
use Rattle.hk_format.specs.declared.causes.Cause.{Cause}
use Rattle.hk_format.specs.declared.causes.Cause.TheVariants.{OfText, OfParse, OfLoad}
use Rattle.hk_format.specs.declared.syntax.Item.{Item}
use Rattle.hk_format.specs.Texts.{Lines, text}
use Rattle.hk_format.specs.Grammar.{script}
use Rattle.hk_format.specs.Loading.{load}
use Rattle.hk_model.specs.WorldValue.{WorldValue}
use Rattle.hk_format.specs.Worlds.{Refused, world, pass, parsed, last_pass}
use Rattle.hk_format.specs.declared.errors.ReadError.{ReadError}
use Rattle.hk_format.specs.declared.errors.ReadError.TheVariants as read_error
use Rattle.hk_format.specs.Outcomes.{IsRefused, with_cause}
use Rattle.hk_script.specs.Progresses.{checked, source_items}

-- the last pass over what the passes before gave
abbrev loaded : Result (List Item) Refused → Result WorldValue Refused
loaded (Ok items) = last_pass items
loaded (Err refused) = Err refused

-- the passes before, and the last
in_passes : (bytes : List ℕ) → world bytes ≡ loaded (source_items bytes)
unfolding world
in_passes bytes = go (text bytes)
  where
    at_script : (items : Result (List Item) (ℕ × ParseCause)) → pass OfParse items last_pass ≡ loaded (pass OfParse items Ok)
    at_script (Ok items) = refl
    at_script (Err refused) = refl

    go : (lines : Result Lines (ℕ × TextCause)) → pass OfText lines parsed ≡ loaded (checked lines script)
    go (Ok ls) = at_script (script ls)
    go (Err refused) = refl

-- a world
pub world_is : (bytes : List ℕ) (items : List Item) (w : WorldValue) → source_items bytes ≡ Ok items → load items ≡ Ok w → world bytes ≡ Ok w
world_is bytes items w h g = in_passes bytes ∙ ap loaded h ∙ ap (λ r. pass OfLoad r Ok) g

-- a refusal of the passes before
pub source_refused : (bytes : List ℕ) (line : ℕ) (cause : Cause) → source_items bytes ≡ Err (line, cause) → world bytes ≡ Err (line, cause)
source_refused bytes line cause h = in_passes bytes ∙ ap loaded h

load_refused : (bytes : List ℕ) (items : List Item) (line : ℕ) (cause : LoadCause) → source_items bytes ≡ Ok items → load items ≡ Err (line, cause)
    → world bytes ≡ Err (line, OfLoad cause)
load_refused bytes items line cause h g = in_passes bytes ∙ ap loaded h ∙ ap (λ r. pass OfLoad r Ok) g

-- what the last pass says of the whole, where it refuses
pub of_load_error : (bytes : List ℕ) (items : List Item) (result : Result WorldValue (ReadError Cause)) (e : (ReadError LoadCause)) → source_items bytes ≡ Ok items
    → IsErrAnd result (λ error. error ≡ with_cause OfLoad e)
    → ((line : ℕ) (cause : LoadCause) → e ≡ read_error.Refused line cause → load items ≡ Err (line, cause)) → (line : ℕ) (cause : Cause) → IsRefused result line cause
    → world bytes ≡ Err (line, cause)
of_load_error bytes items (Ok w) e p h f line cause r = absurd h
of_load_error bytes items (Err error) (read_error.Refused at why) p h f line cause r =
    let a : at ≡ line = cc in let b : OfLoad why ≡ cause = cc in load_refused bytes items at why p (f at why refl) ∙ rw (a, b) refl
of_load_error bytes items (Err error) read_error.NoMemory p h f line cause r = absurd (cc)
