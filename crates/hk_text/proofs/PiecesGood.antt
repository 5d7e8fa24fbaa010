-- What the text pass reads is spelled by some text.
use Rattle.std.proofs.Common.{◌≡◌, ℕ, ◌+◌, Bool, true, false, cond, ltb, List, [], ◌∷◌, length, refl, sym, arith, ◌&&◌, ◌||◌, ◌==◌, not, map, Ok, Err, Result}
use Rattle.std.specs.Prelude.{IfOk}
use Rattle.std.specs.List.{list_all, list_any, slice_split}
use Rattle.std.proofs.lemmas.Bool.{and_parts, and_from, false≢true, ltb-false, le-leb}
use Rattle.std.proofs.lemmas.Bool.Decides.{nat_tests}
use Rattle.std.proofs.lemmas.List.{length-map}
use Rattle.hk_format.specs.declared.causes.TextCause.{TextCause}
use Rattle.hk_format.specs.declared.causes.TextCause.TheVariants.{BadToken, NumberTooLarge, NotAscii, LongLine}
use Rattle.hk_model.specs.declared.instructions.Index.TheVariants.{Fixed, ByReg}
use Rattle.hk_model.specs.Labels.{between, is_digit, is_lower, is_capital, is_word, is_register, first}
use Rattle.hk_format.specs.Pieces.{Piece, Word, Upper, Dash, Number, Path, is_upper, is_dash, is_number, value, is_index_text, is_too_large, register_of, index_of, is_path}
use Rattle.hk_format.specs.Pieces.{pointed_of, number_of, formed, plain_of, piece_of, is_piece, is_index}
use Rattle.hk_format.specs.Texts.{Lines, is_no_text, pieces_of, piece_onto, tokens, text_line, text_lines, text, lines_of, line_onto}

-- the piece is spelled by some text, if there is one
abbrev pub GoodPiece : Result Piece TextCause → Type 0
GoodPiece r = IfOk r (λ p. is_piece p ≡ true)

-- each piece is, if there are pieces
abbrev pub GoodPieces : Result (List Piece) TextCause → Type 0
GoodPieces r = IfOk r (λ ps. list_all is_piece ps ≡ true)

-- the pieces of a line are
abbrev pub is_good : ℕ × List Piece → Bool
is_good line = list_all is_piece line.1

-- each line is, if there are lines
abbrev pub GoodLines : Result Lines (ℕ × TextCause) → Type 0
GoodLines r = IfOk r (λ ls. list_all is_good ls ≡ true)

-- one of two answers
chosen : (b : Bool) (x y : Result Piece TextCause) → GoodPiece x → GoodPiece y → GoodPiece (cond b x y)
chosen true x y h k = h
chosen false x y h k = k

formed_good : (b : Bool) (p : Piece) → (b ≡ true → is_piece p ≡ true) → GoodPiece (formed b p)
formed_good true p h = h refl
formed_good false p h = tt

number_good : (t : List ℕ) → GoodPiece (number_of t)
number_good t = go (list_all is_digit t) (ltb 0xffffffff (value t)) refl
  where
    go : (digits large : Bool) → ltb 0xffffffff (value t) ≡ large → GoodPiece (cond (not digits) (Err BadToken) (cond large (Err NumberTooLarge) (Ok (Number (value t)))))
    go false large e = tt
    go true true e = tt
    go true false e = le-leb _ _ (ltb-false _ _ e)

named_good : (t : List ℕ) → GoodPiece (cond (is_capital (first t)) (formed (is_upper t) (Upper t)) (formed (is_dash t) Dash))
named_good t =
    chosen (is_capital (first t)) (formed (is_upper t) (Upper t)) (formed (is_dash t) Dash) (formed_good (is_upper t) (Upper t) (λ h. h)) (formed_good (is_dash t) Dash (λ h. refl))

word_good : (t : List ℕ)
    → GoodPiece (cond (is_lower (first t)) (formed (is_word t) (Word t)) (cond (is_capital (first t)) (formed (is_upper t) (Upper t)) (formed (is_dash t) Dash)))
word_good t =
    chosen (is_lower (first t)) (formed (is_word t) (Word t)) (cond (is_capital (first t)) (formed (is_upper t) (Upper t)) (formed (is_dash t) Dash))
    (formed_good (is_word t) (Word t) (λ h. h)) (named_good t)

plain_good : (t : List ℕ) → GoodPiece (plain_of t)
plain_good t =
    chosen (is_digit (first t)) (number_of t) (cond (is_lower (first t)) (formed (is_word t) (Word t))
    (cond (is_capital (first t)) (formed (is_upper t) (Upper t)) (formed (is_dash t) Dash))) (number_good t) (word_good t)

pub register_below : (t : List ℕ) → is_register t ≡ true → ltb (register_of t) 8 ≡ true
register_below [] h = absurd (false≢true h)
register_below (r ∷ []) h = absurd (false≢true h)
register_below (r ∷ d ∷ []) h = grind (arith, nat_tests)
register_below (r ∷ d ∷ e ∷ more) h = absurd (false≢true h)

pub index_good : (t : List ℕ) → is_index_text t ≡ true → is_too_large t ≡ false → is_index (index_of t) ≡ true
index_good t h k = go (is_register t) (is_number t) (ltb 0xffffffff (value t)) refl refl refl h k
  where
    go : (reg number large : Bool) → is_register t ≡ reg → is_number t ≡ number → ltb 0xffffffff (value t) ≡ large → (number || reg) ≡ true → (number && large) ≡ false
        → is_index (cond reg (ByReg (register_of t)) (Fixed (value t))) ≡ true
    go true number large e f g h k = register_below t e
    go false true true e f g h k = absurd (false≢true (sym k))
    go false true false e f g h k = le-leb _ _ (ltb-false _ _ g)
    go false false large e f g h k = absurd (false≢true h)

indices_good : (ts : List (List ℕ)) → list_all is_index_text ts ≡ true → list_any is_too_large ts ≡ false → list_all is_index (map index_of ts) ≡ true
indices_good [] h k = refl
indices_good (t ∷ ts) h k =
    let parts = and_parts (is_index_text t) (list_all is_index_text ts) h in
    let small : is_too_large t ≡ false = grind arith in
    let others : list_any is_too_large ts ≡ false = grind arith in
    and_from _ _ (index_good t parts.0 small) (indices_good ts parts.1 others)

path_good : (ts : List (List ℕ)) → GoodPiece (pointed_of ts)
path_good ts = go (is_path ts) (list_any is_too_large ts) refl refl
  where
    go : (path large : Bool) → is_path ts ≡ path → list_any is_too_large ts ≡ large
        → GoodPiece (cond (not path) (Err BadToken) (cond large (Err NumberTooLarge) (Ok (Path (map index_of ts)))))
    go false large e f = tt
    go true true e f = tt
    go true false e f =
        let parts = and_parts (between 2 8 (length ts)) (list_all is_index_text ts) e in
        and_from _ _ (rw length-map parts.0) (indices_good ts parts.1 f)

pub piece_good : (t : List ℕ) → GoodPiece (piece_of t)
unfolding piece_of
piece_good t = chosen (list_any (λ b. b == 46) t) (pointed_of (slice_split (λ b. b == 46) t)) (plain_of t) (path_good (slice_split (λ b. b == 46) t)) (plain_good t)

pieces_good : (ts : List (List ℕ)) → GoodPieces (pieces_of ts)
pieces_good [] = refl
pieces_good (t ∷ ts) = go (piece_of t) (pieces_of ts) (piece_good t) (pieces_good ts)
  where
    go : (p : Result Piece TextCause) (ps : Result (List Piece) TextCause) → GoodPiece p → GoodPieces ps → GoodPieces (piece_onto p ps)
    go (Err cause) ps h k = tt
    go (Ok p) (Err cause) h k = tt
    go (Ok p) (Ok ps) h k = and_from _ _ h k

line_good : (line : List ℕ) → GoodPieces (text_line line)
line_good line = go (list_any is_no_text line) (ltb 1000 (length line)) (pieces_good (tokens line))
  where
    go : (bad long : Bool) → GoodPieces (pieces_of (tokens line)) → GoodPieces (cond bad (Err NotAscii) (cond long (Err LongLine) (pieces_of (tokens line))))
    go true long h = tt
    go false true h = tt
    go false false h = h

-- the pieces of a line of a text are spelled by some text
pub line_spelled : (line : List ℕ) (ps : List Piece) → text_line line ≡ Ok ps → list_all is_piece ps ≡ true
line_spelled line ps h = go (text_line line) (line_good line) h
  where
    go : (r : Result (List Piece) TextCause) → GoodPieces r → r ≡ Ok ps → list_all is_piece ps ≡ true
    go (Ok qs) h e = rw (let same : ps ≡ qs = cc in same) h
    go (Err cause) h e = cc

lines_good : (n : ℕ) (ls : List (List ℕ)) → GoodLines (text_lines n ls)
lines_good n [] = refl
lines_good n (l ∷ ls) = go (text_line l) (text_lines (n + 1) ls) (line_good l) (lines_good (n + 1) ls)
  where
    go : (ps : Result (List Piece) TextCause) (r : Result Lines (ℕ × TextCause)) → GoodPieces ps → GoodLines r → GoodLines (line_onto n ps r)
    go (Err cause) r h k = tt
    go (Ok ps) (Err refused) h k = tt
    go (Ok []) (Ok ls) h k = k
    go (Ok (p ∷ ps)) (Ok ls) h k = and_from _ _ h k

-- the pieces of all lines of a text are spelled by some text
pub text_good : (bytes : List ℕ) (ls : Lines) → text bytes ≡ Ok ls → list_all is_good ls ≡ true
text_good bytes ls h = go (text bytes) (lines_good 1 (lines_of bytes)) h
  where
    go : (r : Result Lines (ℕ × TextCause)) → GoodLines r → r ≡ Ok ls → list_all is_good ls ≡ true
    go (Ok ks) h e = rw (let same : ls ≡ ks = cc in same) h
    go (Err refused) h e = cc
