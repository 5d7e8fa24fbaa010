-- Pieces and lines of a source as the definitions have them. docs/FORMATS.md, "Text" and "Pieces".
use Rattle.std.specs.Prelude.{ℕ, ◌==◌, ◌<◌, ◌≤◌, ◌&&◌, ◌||◌, Bool, not, List, [], ◌∷◌, Result, Ok, Err, map, length, nat_le, if◌then◌else◌}
use Rattle.std.specs.List.{slice_range, slice_split, filter}
use Rattle.hk_format.specs.Pieces as piece
use Rattle.hk_format.specs.Pieces.{pointed_of}
use Rattle.hk_format.specs.Texts.{is_none, is_blank, is_no_text}
use Rattle.hk_format.specs.declared.causes.TextCause.{TextCause}
use Rattle.hk_text.specs.declared.pieces.PieceKind.{PieceKind}
use Rattle.hk_text.specs.declared.pieces.PieceKind.TheVariants as kind
use Rattle.hk_text.specs.declared.pieces.Piece.{Piece}
use Rattle.hk_text.specs.declared.text.TextLine.{TextLine}

-- the path that was read, or one without indices, which no text spells
abbrev pub path_read : Result piece.Piece TextCause → piece.Piece
path_read (Ok path) = path
path_read (Err cause) = piece.Path []

-- a piece of this kind, with this text
abbrev pub kind_piece : PieceKind → List ℕ → piece.Piece
kind_piece kind.Word t = piece.Word t
kind_piece kind.Upper t = piece.Upper t
kind_piece kind.Dash t = piece.Dash
kind_piece (kind.Number n) t = piece.Number n
kind_piece kind.Path t = path_read (pointed_of (slice_split (λ b. b == 46) t))

-- the text of a piece, or nothing where it is no part of the source
abbrev pub text_of : List ℕ → Piece → List ℕ
text_of source p = if nat_le p.start p.end && nat_le p.end (length source) then slice_range source p.start p.end else []

-- a piece of the source, with its text
abbrev pub seen : List ℕ → Piece → piece.Piece
seen source p = kind_piece p.kind (text_of source p)

-- the number of a line, and its pieces with their texts
abbrev pub line_seen : List ℕ → TextLine → ℕ × List piece.Piece
line_seen source line = (line.number, map (seen source) line.pieces)

-- the pieces of a line
abbrev pub line_pieces : TextLine → List Piece
line_pieces line = line.pieces

-- the pieces lie one behind another between these places, and none is empty
abbrev pub LieBetween : ℕ → ℕ → List Piece → Type 0
LieBetween start end [] = start ≤ end
LieBetween start end (p ∷ ps) = (start ≤ p.start) × (p.start < p.end) × LieBetween p.end end ps

-- the texts between blanks
abbrev pub texts_of : List ℕ → List (List ℕ)
texts_of line = filter (λ t. not (is_none t)) (slice_split is_blank line)

-- the text of a line ends at these: what may not stand in a line, and the `#` of a comment
abbrev pub is_mark : ℕ → Bool
is_mark b = is_no_text b || b == 35

-- a token ends at these: the blanks, and where the text of the line ends
abbrev pub is_end : ℕ → Bool
is_end b = is_blank b || is_mark b
