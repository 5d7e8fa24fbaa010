-- The pieces of a line, and how each is spelled. docs/FORMATS.md, "Pieces".
use Rattle.std.specs.Prelude.{ℕ, ◌+◌, ◌-◌, ◌==◌, Bool, true, false, not, ◌&&◌, ◌||◌, List, [], ◌∷◌, length, Result, Ok, Err, if◌then◌else◌, nat_le, nat_lt, map}
use Rattle.std.specs.List.{list_all, list_any, slice_split, join_with_byte}
use Rattle.std.specs.Str.Parse.{digits_value}
use Rattle.std.specs.Fmt.{decimal}
use Rattle.hk_model.specs.declared.instructions.Index.{Index}
use Rattle.hk_model.specs.declared.instructions.Index.TheVariants.{Fixed, ByReg}
use Rattle.hk_format.specs.declared.causes.TextCause.{TextCause}
use Rattle.hk_format.specs.declared.causes.TextCause.TheVariants.{BadToken, NumberTooLarge}
use Rattle.hk_model.specs.Limits.{path_limit, register_limit, word_bound}
use Rattle.hk_model.specs.Labels.{between, is_digit, is_lower, is_capital, is_word, is_register, first}

-- a piece: a word, names in capital letters, a dash, a number, or a path of two to eight indices, each any number or a register
pub data Piece : Type 0 where
  Word : (text : List ℕ) → Piece
  Upper : (text : List ℕ) → Piece
  Dash : Piece
  Number : (n : ℕ) → Piece
  Path : (steps : List Index) → Piece

-- the largest number that a piece of a script can be
abbrev pub largest_number : ℕ
largest_number = word_bound - 1

-- capital letters and digits
abbrev pub is_upper_byte : ℕ → Bool
is_upper_byte b = is_capital b || is_digit b

-- names joined by a plus, each a capital letter and then capital letters or digits; the flag is true where a name begins
abbrev pub is_names : Bool → List ℕ → Bool
is_names begins [] = not begins
is_names begins (b ∷ bs) =
    if b == 43 then not begins && is_names true bs
    else (if begins then is_capital b else is_upper_byte b) && is_names false bs

-- names in capital letters, joined by a plus
abbrev pub is_upper : List ℕ → Bool
is_upper t = is_names true t

-- a dash alone
abbrev pub is_dash : List ℕ → Bool
is_dash t = first t == 45 && length t == 1

-- digits, one at least
abbrev pub is_number : List ℕ → Bool
is_number t = is_digit (first t) && list_all is_digit t

-- the number that digits stand for; leading zeros change nothing
abbrev pub value : List ℕ → ℕ
value t = digits_value 10 t

-- the digits stand for a number that no piece can be
abbrev pub is_too_large : List ℕ → Bool
is_too_large t = is_number t && nat_lt largest_number (value t)

-- the number of the register that `r0` to `r7` name
abbrev pub register_of : List ℕ → ℕ
register_of [] = 0
register_of (r ∷ []) = 0
register_of (r ∷ d ∷ more) = d - 48

-- an index: a number or a register
abbrev pub is_index_text : List ℕ → Bool
is_index_text t = is_number t || is_register t

-- the index that a text spells
abbrev pub index_of : List ℕ → Index
index_of t = if is_register t then ByReg (register_of t) else Fixed (value t)

-- two to eight indices, which points join
abbrev pub is_path : List (List ℕ) → Bool
is_path parts = between 2 path_limit (length parts) && list_all is_index_text parts

-- a text with a point in it, cut at its points
abbrev pub pointed_of : List (List ℕ) → Result Piece TextCause
pointed_of parts =
    if not (is_path parts) then Err BadToken
    else if list_any is_too_large parts then Err NumberTooLarge
    else Ok (Path (map index_of parts))

-- a text that begins with a digit
abbrev pub number_of : List ℕ → Result Piece TextCause
number_of t =
    if not (list_all is_digit t) then Err BadToken
    else if nat_lt largest_number (value t) then Err NumberTooLarge
    else Ok (Number (value t))

-- the piece, where the text has its form
abbrev pub formed : Bool → Piece → Result Piece TextCause
formed good piece = if good then Ok piece else Err BadToken

-- a text without a point: its first byte tells which form it has to have
abbrev pub plain_of : List ℕ → Result Piece TextCause
plain_of t =
    if is_digit (first t) then number_of t
    else if is_lower (first t) then formed (is_word t) (Word t)
    else if is_capital (first t) then formed (is_upper t) (Upper t)
    else formed (is_dash t) Dash

-- the piece that a text spells, or why it spells none
unfoldable pub piece_of : List ℕ → Result Piece TextCause
piece_of t = if list_any (λ b. b == 46) t then pointed_of (slice_split (λ b. b == 46) t) else plain_of t

-- `r` and the number of the register
abbrev pub register_text : ℕ → List ℕ
register_text reg = 114 ∷ (48 + reg) ∷ []

-- the text of an index
abbrev pub spell_index : Index → List ℕ
spell_index (Fixed n) = decimal n
spell_index (ByReg reg) = register_text reg

-- the text of a piece: numbers have no leading zeros, and points join the indices of a path
abbrev pub spell : Piece → List ℕ
spell (Word t) = t
spell (Upper t) = t
spell Dash = 45 ∷ []
spell (Number n) = decimal n
spell (Path steps) = join_with_byte 46 (map spell_index steps)

-- an index that some text spells
abbrev pub is_index : Index → Bool
is_index (Fixed n) = nat_le n largest_number
is_index (ByReg reg) = nat_lt reg register_limit

-- a piece that some text spells
abbrev pub is_piece : Piece → Bool
is_piece (Word t) = is_word t
is_piece (Upper t) = is_upper t
is_piece Dash = true
is_piece (Number n) = nat_le n largest_number
is_piece (Path steps) = between 2 path_limit (length steps) && list_all is_index steps
