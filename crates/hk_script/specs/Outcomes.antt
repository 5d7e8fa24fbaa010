-- What reading answers, beside what the grammar gives. docs/FORMATS.md, "Grammar".
use Rattle.std.specs.Prelude.{◌≡◌, ℕ, List, Result, Ok, Err, IsTrue, false}
use Rattle.hk_format.specs.declared.causes.ParseCause.{ParseCause}
use Rattle.hk_format.specs.declared.causes.ParseCause.TheVariants.{UnknownWord}
use Rattle.hk_format.specs.declared.errors.LineError.{LineError}
use Rattle.hk_format.specs.declared.errors.LineError.TheVariants.{Bad}
use Rattle.hk_model.specs.Labels.{is_register}
use Rattle.hk_format.specs.Outcomes.{Fails}
use Rattle.hk_format.specs.Pieces.{Piece, register_of}
use Rattle.hk_format.specs.Reading.{Found}

-- the value is the one that a reader gives, and these pieces are left, or the cause is, or memory was wanting
abbrev pub Reads : {X Y : Type 0} → (X → Y) → Result X (LineError ParseCause) → List Piece → Found Y → Type 0
Reads view (Ok x) left read = read ≡ Ok (view x, left)
Reads view (Err error) left read = Fails error read

-- the number of the register that the text names, or UnknownWord
abbrev pub GivesRegister : Result ℕ (LineError ParseCause) → List ℕ → Type 0
GivesRegister (Ok reg) t = IsTrue (is_register t) × (reg ≡ register_of t)
GivesRegister (Err error) t = (error ≡ Bad UnknownWord) × (is_register t ≡ false)
