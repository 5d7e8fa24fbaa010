-- The lines of a source that are still to be read, one after another. docs/FORMATS.md, "Text".
use Rattle.std.specs.Prelude.{ℕ, ◌+◌, ◌-◌, ◌<◌, ◌^◌, List, Result, length, map, drop}
use Rattle.hk_format.specs.declared.causes.TextCause.{TextCause}
use Rattle.hk_format.specs.Pieces as piece
use Rattle.hk_format.specs.Texts.{Lines, lines_of, text_lines}
use Rattle.hk_text.specs.declared.reader.LineReader.{LineReader}
use Rattle.hk_text.specs.Views.{seen}

-- the lines that are still to be read, or the first that is bad and its first cause
abbrev pub lines_ahead : LineReader → Result Lines (ℕ × TextCause)
lines_ahead reader = text_lines reader.number (lines_of (drop reader.start reader.source.now))

-- how many bytes are still to be read
abbrev pub bytes_ahead : LineReader → ℕ
bytes_ahead reader = length reader.source.now - reader.start

-- the pieces of the last line that was read
abbrev pub pieces_read : LineReader → List piece.Piece
pieces_read reader = map (seen reader.source.now) reader.pieces.items

-- a number of 32 bits is left for each line
abbrev pub HasNumbers : LineReader → Type 0
HasNumbers reader = reader.number + length (lines_of (drop reader.start reader.source.now)) < 2 ^ 32
