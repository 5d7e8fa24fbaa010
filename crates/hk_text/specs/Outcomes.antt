-- What the text pass answers, beside what the definitions give. docs/FORMATS.md, "Text".
use Rattle.std.specs.Prelude.{◌≡◌, ℕ, ◌==◌, true, false, List, Result, Ok, Err, take}
use Rattle.std.specs.List.{list_any, position_or_len}
use Rattle.hk_format.specs.declared.causes.TextCause.{TextCause}
use Rattle.hk_format.specs.declared.causes.TextCause.TheVariants.{NotAscii}
use Rattle.hk_format.specs.declared.errors.LineError.{LineError}
use Rattle.hk_format.specs.declared.errors.LineError.TheVariants.{Bad}
use Rattle.hk_format.specs.Texts.{is_no_text}

-- the value and the cause are those that were read
abbrev pub GivesOrCause : {X Y : Type 0} → (X → Y) → Result X TextCause → Result Y TextCause → Type 0
GivesOrCause view (Ok x) read = read ≡ Ok (view x)
GivesOrCause view (Err cause) read = read ≡ Err cause

-- the bytes before the first line feed, or all
abbrev pub first_line : List ℕ → List ℕ
first_line text = take (position_or_len (λ b. b == 10) text) text

-- the length of the first line, in which each byte may stand in a script, or NotAscii where one may not
abbrev pub FindsLine : Result ℕ (LineError TextCause) → List ℕ → Type 0
FindsLine (Ok len) text = (len ≡ position_or_len (λ b. b == 10) text) × (list_any is_no_text (first_line text) ≡ false)
FindsLine (Err error) text = (error ≡ Bad NotAscii) × (list_any is_no_text (first_line text) ≡ true)
