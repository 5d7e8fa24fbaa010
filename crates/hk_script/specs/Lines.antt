-- What is left of a line that is read. docs/FORMATS.md, "Grammar".
use Rattle.std.specs.Prelude.{ℕ, List, Result, Ok, Err, IsTrue, ◌||◌, map, drop, if◌then◌else◌}
use Rattle.hk_format.specs.declared.causes.ParseCause.{ParseCause}
use Rattle.hk_format.specs.declared.causes.ParseCause.TheVariants.{OutOfRange}
use Rattle.hk_model.specs.declared.instructions.Index.{Index}
use Rattle.hk_model.specs.Labels.{is_word}
use Rattle.hk_format.specs.Pieces.{Piece, is_upper}
use Rattle.hk_format.specs.Forms.{is_index_below}
use Rattle.hk_text.specs.Views.{seen}
use Rattle.hk_script.specs.declared.line.Line.{Line}

-- the pieces that are left
abbrev pub rest : Line → List Piece
rest line = map (seen line.source.now) (drop line.at line.pieces.now)

-- a word, or names in capital letters
abbrev pub HasText : List ℕ → Type 0
HasText t = IsTrue (is_word t || is_upper t)

-- an index of a path, which is to be a register or below the bound
abbrev pub index_in : ℕ → Index → Result Index ParseCause
index_in bound index = if is_index_below bound index then Ok index else Err OutOfRange
