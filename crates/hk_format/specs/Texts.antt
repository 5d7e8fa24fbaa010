-- Bytes as lines, and lines as pieces; and the other way. docs/FORMATS.md, "Text".
use Rattle.std.specs.Prelude.{ℕ, ◌+◌, ◌==◌, Bool, true, false, not, ◌&&◌, ◌||◌, List, [], ◌∷◌, ◌++◌, length, Result, Ok, Err, if◌then◌else◌, nat_lt, nat_le, map}
use Rattle.std.specs.List.{list_all, list_any, slice_split, before_first, filter, join_with_byte, flat_map}
use Rattle.hk_format.specs.declared.causes.TextCause.{TextCause}
use Rattle.hk_format.specs.declared.causes.TextCause.TheVariants.{NotAscii, LongLine}
use Rattle.hk_model.specs.Limits.{line_bytes}
use Rattle.hk_format.specs.Pieces.{Piece, piece_of, spell, is_piece}

-- the list is empty
abbrev pub is_none : {A : Type 0} → List A → Bool
is_none [] = true
is_none (x ∷ xs) = false

-- the texts but the last, where that is empty
abbrev pub without_last_empty : List (List ℕ) → List (List ℕ)
without_last_empty [] = []
without_last_empty (x ∷ []) = if is_none x then [] else x ∷ []
without_last_empty (x ∷ y ∷ more) = x ∷ without_last_empty (y ∷ more)

-- the lines: what line feeds end, and what stands behind the last of them if that is anything
abbrev pub lines_of : List ℕ → List (List ℕ)
lines_of bytes = without_last_empty (slice_split (λ b. b == 10) bytes)

-- spaces, tabs and carriage returns
abbrev pub is_blank : ℕ → Bool
is_blank b = b == 32 || b == 9 || b == 13

-- the texts between blanks, up to a `#`, from which on a line is a comment
abbrev pub tokens : List ℕ → List (List ℕ)
tokens line = filter (λ t. not (is_none t)) (slice_split is_blank (before_first (λ b. b == 35) line))

-- above 126, or below 32 and neither a tab nor a carriage return
abbrev pub is_no_text : ℕ → Bool
is_no_text b = nat_lt 126 b || (nat_lt b 32 && not (b == 9) && not (b == 13))

-- a piece before the pieces behind it, unless it is bad or one of these is: the cause is that of the leftmost
abbrev pub piece_onto : Result Piece TextCause → Result (List Piece) TextCause → Result (List Piece) TextCause
piece_onto (Err cause) rest = Err cause
piece_onto (Ok piece) (Err cause) = Err cause
piece_onto (Ok piece) (Ok pieces) = Ok (piece ∷ pieces)

-- the pieces of these texts, or the cause of the leftmost that is bad
abbrev pub pieces_of : List (List ℕ) → Result (List Piece) TextCause
pieces_of [] = Ok []
pieces_of (t ∷ ts) = piece_onto (piece_of t) (pieces_of ts)

-- the pieces of a line, or its first cause. The bytes of a comment count too.
abbrev pub text_line : List ℕ → Result (List Piece) TextCause
text_line line =
    if list_any is_no_text line then Err NotAscii
    else if nat_lt line_bytes (length line) then Err LongLine
    else pieces_of (tokens line)

-- lines that have pieces, each with its number
abbrev pub Lines : Type 0
Lines = List (ℕ × List Piece)

-- a line of this number before those behind it; it is dropped where it has no piece
abbrev pub line_onto : ℕ → Result (List Piece) TextCause → Result Lines (ℕ × TextCause) → Result Lines (ℕ × TextCause)
line_onto n (Err cause) rest = Err (n, cause)
line_onto n (Ok pieces) (Err refused) = Err refused
line_onto n (Ok pieces) (Ok lines) = Ok (if is_none pieces then lines else (n, pieces) ∷ lines)

-- the lines from number n on
abbrev pub text_lines : ℕ → List (List ℕ) → Result Lines (ℕ × TextCause)
text_lines n [] = Ok []
text_lines n (line ∷ lines) = line_onto n (text_line line) (text_lines (n + 1) lines)

-- the lines of a script that have pieces, or the first line that is bad and its first cause
abbrev pub text : List ℕ → Result Lines (ℕ × TextCause)
text bytes = text_lines 1 (lines_of bytes)

-- the pieces, with one space between
abbrev pub spell_line : List Piece → List ℕ
spell_line pieces = join_with_byte 32 (map spell pieces)

-- a text, and a line feed behind it
abbrev pub ended_line : List ℕ → List ℕ
ended_line line = line ++ 10 ∷ []

-- the lines, each with a line feed
abbrev pub spell_lines : List (List Piece) → List ℕ
spell_lines lines = flat_map (λ line. ended_line (spell_line line)) lines

-- pieces of a line that some script has
abbrev pub is_line : List Piece → Bool
is_line pieces = not (is_none pieces) && list_all is_piece pieces && nat_le (length (spell_line pieces)) line_bytes
