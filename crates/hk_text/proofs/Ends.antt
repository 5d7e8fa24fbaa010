-- Where the text of a line ends, and the tokens before it.
use Rattle.std.proofs.Common.{◌≡◌, ℕ, ◌+◌, ◌-◌, ◌<◌, ◌≤◌, true, false, List, [], ◌∷◌, ◌++◌, length, get_or, take, drop, map, not, refl, sym, ap, ◌∙◌, arith, Ok, Err, Result}
use Rattle.std.specs.List.{slice_range, position_or_len}
use Rattle.std.proofs.lemmas.List.{take-take, length-take, length-drop, append-nil}
use Rattle.std.proofs.lemmas.List.Sums.{prefix_len-le-length}
use Rattle.hk_format.specs.declared.causes.TextCause.{TextCause}
use Rattle.hk_format.specs.Pieces as piece
use Rattle.hk_format.specs.Pieces.{piece_of}
use Rattle.hk_format.specs.Texts.{is_blank, pieces_of}
use Rattle.hk_text.specs.declared.pieces.Piece.{Piece}
use Rattle.hk_text.specs.declared.pieces.PieceKind.{PieceKind}
use Rattle.hk_text.specs.Views.{kind_piece, seen, texts_of, is_mark, is_end}
use Rattle.hk_text.proofs.Turns.{after_front, range_on, turn_none, turn_pushed, turn_refused}
use Rattle.hk_text.proofs.Tokens.{token_place, ends_with_token, behind_token, behind_blank}

-- what is left of the source from this place on
abbrev pub left : List ℕ → ℕ → List ℕ
left source at = slice_range source at (length source)

-- where the text of the line ends that begins at this place
abbrev pub text_end : List ℕ → ℕ → ℕ
text_end source at = at + position_or_len is_mark (left source at)

-- how much is left
pub left_length : (source : List ℕ) (at : ℕ) → length (left source at) ≡ length source - at
left_length source at =
    let size = length-drop at source in
    let few = length-take (length source - at) (drop at source) in
    omega arith

-- it ends in the source
pub end_inside : (source : List ℕ) (at : ℕ) → at ≤ length source → text_end source at ≤ length source
end_inside source at low =
    let few = prefix_len-le-length (λ x. not (is_mark x)) (left source at) in
    let size = left_length source at in
    omega arith

-- it is the first of what is left
pub text_first : (source : List ℕ) (at len : ℕ) → at + len ≤ length source → slice_range source at (at + len) ≡ take len (left source at)
text_first source at len low =
    let few : at + len - at ≡ len = omega arith in
    rw few (sym (take-take len (length source - at) (drop at source) (omega arith)))

-- a token lies in the text of the line, and ends at the first blank in it
pub token_inside : (source : List ℕ) (at len : ℕ) → at ≤ length source → len ≡ position_or_len is_end (left source at)
    → (len ≡ position_or_len is_blank (slice_range source at (text_end source at))) × (at + len ≤ text_end source at)
token_inside source at len low place =
    let here = token_place (left source at) len _ place refl in
    let inside = end_inside source at low in
    (rw (text_first source at (position_or_len is_mark (left source at)) inside) here.0, omega (arith, here.1))

-- a token as the first of the text of its line
pub token_text : (source : List ℕ) (at len : ℕ) → at ≤ length source → at + len ≤ text_end source at
    → take len (slice_range source at (text_end source at)) ≡ take len (left source at)
token_text source at len low inside =
    let within = end_inside source at low in
    rw (text_first source at (position_or_len is_mark (left source at)) within) (take-take len (position_or_len is_mark (left source at)) (left source at) (omega arith))

-- the text of the line ends where it did, behind a token
pub end_behind : (source : List ℕ) (at len : ℕ) → len ≡ position_or_len is_end (left source at) → text_end source (at + len) ≡ text_end source at
end_behind source at len place = rw (range_on source at (length source) len) (omega (arith, behind_token (left source at) len place))

-- and behind the blank that ends it
pub end_on : (source : List ℕ) (at len : ℕ) → len ≡ position_or_len is_end (left source at) → len < length (left source at)
    → is_blank (get_or (left source at) len 0) ≡ true → text_end source (at + (len + 1)) ≡ text_end source at
end_on source at len place more blank = rw (range_on source at (length source) (len + 1)) (omega (arith, behind_blank (left source at) len place more blank))

-- or at the end of a token that no blank ends
pub end_here : (source : List ℕ) (at len : ℕ) → len ≡ position_or_len is_end (left source at)
    → (len < length (left source at) → is_blank (get_or (left source at) len 0) ≡ false) → at + len ≡ text_end source at
end_here source at len place ends = omega (arith, ends_with_token (left source at) len place ends)

-- behind the last byte
pub end_last : (source : List ℕ) (at : ℕ) → at ≤ length source → length source ≤ at → at ≡ text_end source at
end_last source at low high = let inside = end_inside source at low in omega arith

-- all texts of the line were read
pub all_read : (source : List ℕ) (at end : ℕ) (front : List piece.Piece) (all : Result (List piece.Piece) TextCause) → end ≤ at
    → after_front front (pieces_of (texts_of (slice_range source at end))) ≡ all → all ≡ Ok front
all_read source at end front all past h =
    let none : end - at ≡ 0 = omega arith in
    sym (rw none at h) ∙ ap Ok (append-nil front)

-- a turn without a piece
pub line_none : (source : List ℕ) (at end len : ℕ) (front : List piece.Piece) (all : Result (List piece.Piece) TextCause) → at ≤ length source
    → text_end source at ≡ end → len ≡ position_or_len is_end (left source at) → len ≡ 0
    → after_front front (pieces_of (texts_of (slice_range source at (text_end source at)))) ≡ all
    → after_front front (pieces_of (texts_of (slice_range source (at + (len + 1)) end))) ≡ all
line_none source at end len front all low same place none h =
    rw (← same) (turn_none source at (text_end source at) len front all (token_inside source at len low place).0 none h)

-- a turn with a piece
pub line_some : (source : List ℕ) (at end len : ℕ) (pieces : List Piece) (kind : PieceKind) (all : Result (List piece.Piece) TextCause) → at ≤ length source
    → text_end source at ≡ end → len ≡ position_or_len is_end (left source at) → 0 < len
    → piece_of (take len (left source at)) ≡ Ok (kind_piece kind (take len (left source at)))
    → after_front (map (seen source) pieces) (pieces_of (texts_of (slice_range source at (text_end source at)))) ≡ all
    → after_front (map (seen source) (pieces ++ record { start = at; end = at + len; kind = kind } ∷ [])) (pieces_of (texts_of (slice_range source (at + (len + 1)) end))) ≡ all
line_some source at end len pieces kind all low same place some read h =
    let here = token_inside source at len low place in
    let inside = end_inside source at low in
    let size = length-drop at source in
    let few = length-take (text_end source at - at) (drop at source) in
    let token = token_text source at len low here.1 in
    rw (← same) (turn_pushed source at (text_end source at) len pieces kind all (omega (arith, here.1)) inside here.0 some (omega (arith, here.1))
    (ap piece_of token ∙ read ∙ ap (λ t. Ok (kind_piece kind t)) (sym token)) h)

-- a turn whose piece is refused
pub line_bad : (source : List ℕ) (at len : ℕ) (front : List piece.Piece) (cause : TextCause) (all : Result (List piece.Piece) TextCause) → at ≤ length source
    → len ≡ position_or_len is_end (left source at) → 0 < len → piece_of (take len (left source at)) ≡ Err cause
    → after_front front (pieces_of (texts_of (slice_range source at (text_end source at)))) ≡ all → all ≡ Err cause
line_bad source at len front cause all low place some read h =
    let here = token_inside source at len low place in
    let inside = end_inside source at low in
    let size = length-drop at source in
    let few = length-take (text_end source at - at) (drop at source) in
    turn_refused source at (text_end source at) len front cause all here.0 some (omega (arith, here.1)) (ap piece_of (token_text source at len low here.1) ∙ read) h
