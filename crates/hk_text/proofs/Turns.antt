-- One turn of a loop that cuts a text at each byte that passes a test.
use Rattle.std.proofs.Common.{◌≡◌, ℕ, suc, zero, ◌+◌, ◌-◌, ◌<◌, ◌≤◌, Bool, true, false, cond, eqb, leb, ltb, List, [], ◌∷◌, ◌++◌, length, refl, sym, ap, ◌∙◌, arith, not, map, take}
use Rattle.std.proofs.Common.{drop, Ok, Err, Result, ⊎_elim}
use Rattle.std.specs.List.{slice_range, slice_split, onto_first, position_or_len, filter}
use Rattle.std.proofs.lemmas.Bool.{ltb-false, le-leb, lt-ltb, eqb-true, cases_lt}
use Rattle.std.proofs.lemmas.Bool.Decides.{nat_tests}
use Rattle.std.proofs.lemmas.List.{drop_all, take_all, drop-take, map-append, length-take, length-drop, drop-drop, take-take}
use Rattle.std.proofs.lemmas.List.Sums.{prefix_len-le-length}
use mathlib.Core.List.{append_assoc}
use Rattle.hk_format.specs.declared.causes.TextCause.{TextCause}
use Rattle.hk_format.specs.Pieces as piece
use Rattle.hk_format.specs.Pieces.{piece_of}
use Rattle.hk_format.specs.Texts.{Lines, is_blank, is_none, pieces_of, piece_onto, lines_of, without_last_empty, text_lines, text_line, line_onto}
use Rattle.hk_text.specs.declared.pieces.Piece.{Piece}
use Rattle.hk_text.specs.declared.pieces.PieceKind.{PieceKind}
use Rattle.hk_text.specs.Views.{kind_piece, seen, texts_of, line_seen}
use Rattle.hk_format.specs.Outcomes.{Fails, error_on}
use Rattle.hk_format.specs.declared.errors.ReadError.TheVariants.{Refused}
use Rattle.hk_text.specs.declared.text.TextLine.{TextLine}
use Rattle.hk_format.specs.declared.errors.LineError.{LineError}
use Rattle.hk_format.specs.declared.errors.LineError.TheVariants as line_error

-- pieces that were read, before those that the rest gives
abbrev pub after_front : List piece.Piece → Result (List piece.Piece) TextCause → Result (List piece.Piece) TextCause
after_front front (Ok more) = Ok (front ++ more)
after_front front (Err cause) = Err cause

pub front_none : (r : Result (List piece.Piece) TextCause) → after_front [] r ≡ r
front_none (Ok more) = refl
front_none (Err cause) = refl

-- lines that were read, before those that the rest gives
abbrev pub after_lines : Lines → Result Lines (ℕ × TextCause) → Result Lines (ℕ × TextCause)
after_lines front (Ok more) = Ok (front ++ more)
after_lines front (Err refused) = Err refused

-- a list is cut at the first item that passes, and then what stands behind it is cut
pub cut_turn : {X : Type 0} (p : X → Bool) (xs : List X)
    → slice_split p xs ≡ take (position_or_len p xs) xs ∷ cond (ltb (position_or_len p xs) (length xs)) (slice_split p (drop (position_or_len p xs + 1) xs)) []
cut_turn p [] = refl
cut_turn p (x ∷ xs) = go (p x) (cut_turn p xs)
  where
    pos : ℕ
    pos = position_or_len p xs

    go : (b : Bool) → slice_split p xs ≡ take (position_or_len p xs) xs ∷ cond (ltb (position_or_len p xs) (length xs)) (slice_split p (drop (position_or_len p xs + 1) xs)) []
        → cond b ([] ∷ slice_split p xs) (onto_first x (slice_split p xs)) ≡ take (cond (not b) (1 + position_or_len p xs) 0) (x ∷ xs) ∷ cond
        (ltb (cond (not b) (1 + position_or_len p xs) 0) (length (x ∷ xs))) (slice_split p (drop (cond (not b) (1 + position_or_len p xs) 0 + 1) (x ∷ xs))) []
    go true e = let some : ltb 0 (length (x ∷ xs)) ≡ true = lt-ltb _ _ (omega arith) in rw some
    go false e =
        let one : 1 + position_or_len p xs ≡ suc (position_or_len p xs) = omega arith in
        let two : suc (position_or_len p xs) + 1 ≡ suc (position_or_len p xs + 1) = omega arith in
        let three : ltb (suc (position_or_len p xs)) (length (x ∷ xs)) ≡ ltb (position_or_len p xs) (length xs) = grind (arith, nat_tests) in
        ap (onto_first x) e ∙ rw (one, three, two)

-- a text as a part, if it is something
abbrev pub kept : List ℕ → List (List ℕ)
kept t = cond (not (is_none t)) (t ∷ []) []

pub texts_turn : (xs : List ℕ) → texts_of xs ≡ kept (take (position_or_len is_blank xs) xs) ++ texts_of (drop (position_or_len is_blank xs + 1) xs)
texts_turn xs =
    ap (filter (λ t. not (is_none t))) (cut_turn is_blank xs) ∙ go (not (is_none (take (position_or_len is_blank xs) xs))) (ltb (position_or_len is_blank xs) (length xs)) refl
  where
    go : (some more : Bool) → ltb (position_or_len is_blank xs) (length xs) ≡ more
        → cond some (take (position_or_len is_blank xs) xs ∷ filter (λ t. not (is_none t)) (cond more (slice_split is_blank (drop (position_or_len is_blank xs + 1) xs)) []))
        (filter (λ t. not (is_none t)) (cond more (slice_split is_blank (drop (position_or_len is_blank xs + 1) xs)) []))
        ≡ cond some (take (position_or_len is_blank xs) xs ∷ []) [] ++ texts_of (drop (position_or_len is_blank xs + 1) xs)
    go true true e = refl
    go false true e = refl
    go true false e = let low = ltb-false _ _ e in rw (drop_all (position_or_len is_blank xs + 1) xs (omega arith))
    go false false e = let low = ltb-false _ _ e in rw (drop_all (position_or_len is_blank xs + 1) xs (omega arith))

pub range_on : (source : List ℕ) (at end k : ℕ) → slice_range source (at + k) end ≡ drop k (slice_range source at end)
range_on source at end k = ⊎_elim inside past (cases_lt end (at + k))
  where
    inside : end < at + k → slice_range source (at + k) end ≡ drop k (slice_range source at end)
    inside h =
        let none : end - (at + k) ≡ 0 = omega arith in
        let few = length-take (end - at) (drop at source) in
        rw (none, drop_all k (slice_range source at end) (omega arith))

    past : at + k ≤ end → slice_range source (at + k) end ≡ drop k (slice_range source at end)
    past h =
        let e : end - at ≡ k + (end - (at + k)) = omega arith in
        rw (e, drop-take, drop-drop)

pub token_seen : (source : List ℕ) (at end len : ℕ) (kind : PieceKind) → end ≤ length source → at + len ≤ end
    → seen source (record { start = at; end = at + len; kind = kind }) ≡ kind_piece kind (take len (slice_range source at end))
token_seen source at end len kind inside h =
    let a : leb at (at + len) ≡ true = le-leb _ _ (omega arith) in
    let b : leb (at + len) (length source) ≡ true = le-leb _ _ (omega arith) in
    let c : at + len - at ≡ len = omega arith in
    let d : take len (slice_range source at end) ≡ take len (drop at source) = take-take len (end - at) (drop at source) (omega arith) in
    rw (a, b, c, d)

-- a turn without a piece
pub turn_none : (source : List ℕ) (at end len : ℕ) (front : List piece.Piece) (all : Result (List piece.Piece) TextCause)
    → len ≡ position_or_len is_blank (slice_range source at end) → len ≡ 0 → after_front front (pieces_of (texts_of (slice_range source at end))) ≡ all
    → after_front front (pieces_of (texts_of (slice_range source (at + (len + 1)) end))) ≡ all
turn_none source at end len front all place none h =
    let turn : texts_of (slice_range source at end) ≡ texts_of (drop (len + 1) (slice_range source at end)) = texts_turn (slice_range source at end) ∙ rw (← place, none) in
    rw (range_on source at end (len + 1), ← turn) h

some_taken : (n : ℕ) (xs : List ℕ) → 0 < n → n ≤ length xs → is_none (take n xs) ≡ false
some_taken zero xs h k = absurd (omega arith)
some_taken (suc n) [] h k = absurd (omega arith)
some_taken (suc n) (x ∷ xs) h k = refl

turn_texts : (source : List ℕ) (at end len : ℕ) → len ≡ position_or_len is_blank (slice_range source at end) → 0 < len → len ≤ length (slice_range source at end)
    → texts_of (slice_range source at end) ≡ take len (slice_range source at end) ∷ texts_of (slice_range source (at + (len + 1)) end)
turn_texts source at end len place some few =
    let token = some_taken len (slice_range source at end) some few in
    texts_turn (slice_range source at end) ∙ rw (← place, token, range_on source at end (len + 1))

push_front : (front : List piece.Piece) (p : piece.Piece) (r : Result (List piece.Piece) TextCause) → after_front (front ++ p ∷ []) r ≡ after_front front (piece_onto (Ok p) r)
push_front front p (Ok xs) = ap Ok (append_assoc front (p ∷ []) xs)
push_front front p (Err c) = refl

-- a turn with a piece
pub turn_some : (source : List ℕ) (at end len : ℕ) (front : List piece.Piece) (p : piece.Piece) (all : Result (List piece.Piece) TextCause)
    → len ≡ position_or_len is_blank (slice_range source at end) → 0 < len → len ≤ length (slice_range source at end) → piece_of (take len (slice_range source at end)) ≡ Ok p
    → after_front front (pieces_of (texts_of (slice_range source at end))) ≡ all
    → after_front (front ++ p ∷ []) (pieces_of (texts_of (slice_range source (at + (len + 1)) end))) ≡ all
turn_some source at end len front p all place some few read h =
    let turn = turn_texts source at end len place some few in
    push_front front p (pieces_of (texts_of (slice_range source (at + (len + 1)) end))) ∙ (rw (turn, read) at h)

-- a turn whose piece is refused
pub turn_refused : (source : List ℕ) (at end len : ℕ) (front : List piece.Piece) (cause : TextCause) (all : Result (List piece.Piece) TextCause)
    → len ≡ position_or_len is_blank (slice_range source at end) → 0 < len → len ≤ length (slice_range source at end) → piece_of (take len (slice_range source at end)) ≡ Err cause
    → after_front front (pieces_of (texts_of (slice_range source at end))) ≡ all → all ≡ Err cause
turn_refused source at end len front cause all place some few read h =
    let turn = turn_texts source at end len place some few in
    sym (rw (turn, read) at h)

pub turn_pushed : (source : List ℕ) (at end len : ℕ) (pieces : List Piece) (kind : PieceKind) (all : Result (List piece.Piece) TextCause) → at ≤ end → end ≤ length source
    → len ≡ position_or_len is_blank (slice_range source at end) → 0 < len → len ≤ length (slice_range source at end)
    → piece_of (take len (slice_range source at end)) ≡ Ok (kind_piece kind (take len (slice_range source at end)))
    → after_front (map (seen source) pieces) (pieces_of (texts_of (slice_range source at end))) ≡ all
    → after_front (map (seen source) (pieces ++ record { start = at; end = at + len; kind = kind } ∷ [])) (pieces_of (texts_of (slice_range source (at + (len + 1)) end))) ≡ all
turn_pushed source at end len pieces kind all order inside place some few read h =
    let size = length-take (end - at) (drop at source) in
    let here = token_seen source at end len kind inside (omega arith) in
    rw (map-append, here) (turn_some source at end len (map (seen source) pieces) (kind_piece kind (take len (slice_range source at end))) all place some few read h)

-- lines

pub lines_turn : (bs : List ℕ) → 0 < length bs → lines_of bs ≡ take (position_or_len (λ b. eqb b 10) bs) bs ∷ lines_of (drop (position_or_len (λ b. eqb b 10) bs + 1) bs)
lines_turn [] h = absurd (omega arith)
lines_turn (b ∷ bs) h =
    ap without_last_empty (cut_turn (λ c. eqb c 10) (b ∷ bs))
    ∙ go (ltb (position_or_len (λ c. eqb c 10) (b ∷ bs)) (length (b ∷ bs))) refl (slice_split (λ c. eqb c 10) (drop (position_or_len (λ c. eqb c 10) (b ∷ bs) + 1) (b ∷ bs))) refl
  where
    go : (more : Bool) → ltb (position_or_len (λ c. eqb c 10) (b ∷ bs)) (length (b ∷ bs)) ≡ more → (rest : List (List ℕ))
        → slice_split (λ c. eqb c 10) (drop (position_or_len (λ c. eqb c 10) (b ∷ bs) + 1) (b ∷ bs)) ≡ rest
        → without_last_empty (take (position_or_len (λ c. eqb c 10) (b ∷ bs)) (b ∷ bs) ∷ cond more rest [])
        ≡ take (position_or_len (λ c. eqb c 10) (b ∷ bs)) (b ∷ bs) ∷ without_last_empty rest
    go true e [] k = absurd (let turn = cut_turn (λ c. eqb c 10) (drop (position_or_len (λ c. eqb c 10) (b ∷ bs) + 1) (b ∷ bs)) in cc)
    go true e (r ∷ rs) k = refl
    go false e rest k =
        let low = ltb-false _ _ e in
        let high = prefix_len-le-length (λ x. not (eqb x 10)) (b ∷ bs) in
        let past = drop_all (position_or_len (λ c. eqb c 10) (b ∷ bs) + 1) (b ∷ bs) (omega arith) in
        let none : rest ≡ [] ∷ [] = sym k ∙ ap (slice_split (λ c. eqb c 10)) past in
        let some = some_taken (position_or_len (λ c. eqb c 10) (b ∷ bs)) (b ∷ bs) (omega arith) (omega arith) in
        rw (none, some)

-- what stands on a line, before what stands behind
read_onto : (front : Lines) (n : ℕ) (ps : List piece.Piece) (r : Result Lines (ℕ × TextCause))
    → after_lines front (line_onto n (Ok ps) r) ≡ after_lines (cond (is_none ps) front (front ++ (n, ps) ∷ [])) r
read_onto front n [] (Ok ls) = refl
read_onto front n [] (Err e) = refl
read_onto front n (p ∷ ps) (Ok ls) = ap Ok (sym (append_assoc front ((n, p ∷ ps) ∷ []) ls))
read_onto front n (p ∷ ps) (Err e) = refl

pub line_turn : (source : List ℕ) (start n len : ℕ) (front : Lines) (all : Result Lines (ℕ × TextCause)) → start < length source
    → len ≡ position_or_len (λ b. eqb b 10) (slice_range source start (length source)) → after_lines front (text_lines n (lines_of (drop start source))) ≡ all
    → after_lines front (line_onto n (text_line (slice_range source start (start + len))) (text_lines (n + 1) (lines_of (drop (start + (len + 1)) source)))) ≡ all
line_turn source start n len front all inside place h =
    let size = length-drop start source in
    let turn = lines_turn (drop start source) (omega arith) in
    let first : start + len - start ≡ len = omega arith in
    let whole : slice_range source start (length source) ≡ drop start source = take_all (length source - start) (drop start source) (omega arith) in
    let here : len ≡ position_or_len (λ b. eqb b 10) (drop start source) = rw whole at place in
    rw (first, ← drop-drop (len + 1) start source) (rw (turn, ← here) at h)

no_front : (r : Result Lines (ℕ × TextCause)) → after_lines [] r ≡ r
no_front (Ok ls) = refl
no_front (Err e) = refl

-- the next line, before what stands behind
line_ahead : (source : List ℕ) (start n len : ℕ) → start < length source → len ≡ position_or_len (λ b. eqb b 10) (slice_range source start (length source))
    → text_lines n (lines_of (drop start source))
    ≡ line_onto n (text_line (slice_range source start (start + len))) (text_lines (n + 1) (lines_of (drop (start + (len + 1)) source)))
line_ahead source start n len inside place = sym (no_front _) ∙ sym (line_turn source start n len [] _ inside place refl) ∙ no_front _

pub ahead_read : (source : List ℕ) (start n len : ℕ) (ps : List piece.Piece) → start < length source
    → len ≡ position_or_len (λ b. eqb b 10) (slice_range source start (length source)) → text_line (slice_range source start (start + len)) ≡ Ok ps
    → text_lines n (lines_of (drop start source)) ≡ line_onto n (Ok ps) (text_lines (n + 1) (lines_of (drop (start + (len + 1)) source)))
ahead_read source start n len ps inside place read =
    line_ahead source start n len inside place
    ∙ ap (λ (r : Result (List piece.Piece) TextCause). line_onto n r (text_lines (n + 1) (lines_of (drop (start + (len + 1)) source)))) read

pub ahead_refused : (source : List ℕ) (start n len : ℕ) (cause : TextCause) → start < length source
    → len ≡ position_or_len (λ b. eqb b 10) (slice_range source start (length source)) → text_line (slice_range source start (start + len)) ≡ Err cause
    → text_lines n (lines_of (drop start source)) ≡ Err (n, cause)
ahead_refused source start n len cause inside place read =
    line_ahead source start n len inside place
    ∙ ap (λ (r : Result (List piece.Piece) TextCause). line_onto n r (text_lines (n + 1) (lines_of (drop (start + (len + 1)) source)))) read

pub line_read : (source : List ℕ) (start n len : ℕ) (front : Lines) (ps : List piece.Piece) (all : Result Lines (ℕ × TextCause)) → start < length source
    → len ≡ position_or_len (λ b. eqb b 10) (slice_range source start (length source)) → text_line (slice_range source start (start + len)) ≡ Ok ps
    → after_lines front (text_lines n (lines_of (drop start source))) ≡ all
    → after_lines (cond (is_none ps) front (front ++ (n, ps) ∷ [])) (text_lines (n + 1) (lines_of (drop (start + (len + 1)) source))) ≡ all
line_read source start n len front ps all inside place read h = sym (read_onto front n ps _) ∙ (rw read at (line_turn source start n len front all inside place h))

pub line_refused : (source : List ℕ) (start n len : ℕ) (front : Lines) (cause : TextCause) (all : Result Lines (ℕ × TextCause)) → start < length source
    → len ≡ position_or_len (λ b. eqb b 10) (slice_range source start (length source)) → text_line (slice_range source start (start + len)) ≡ Err cause
    → after_lines front (text_lines n (lines_of (drop start source))) ≡ all → all ≡ Err (n, cause)
line_refused source start n len front cause all inside place read h = sym (rw read at (line_turn source start n len front all inside place h))

-- the answer of a line that fails
pub line_fails : (n : ℕ) (e : (LineError TextCause)) (whole : Result Lines (ℕ × TextCause)) (read : Result (List piece.Piece) TextCause) → Fails e read
    → ((cause : TextCause) → read ≡ Err cause → whole ≡ Err (n, cause)) → (line : ℕ) (cause : TextCause) → error_on n e ≡ Refused line cause → whole ≡ Err (line, cause)
line_fails n (line_error.Bad bad) whole read h all line cause e = cc (all bad h)
line_fails n line_error.NoMemory whole read h all line cause e = cc

pub line_pushed : (source : List ℕ) (start n len : ℕ) (lines : List TextLine) (pieces : List Piece) (all : Result Lines (ℕ × TextCause)) → start < length source
    → len ≡ position_or_len (λ b. eqb b 10) (slice_range source start (length source)) → text_line (slice_range source start (start + len)) ≡ Ok (map (seen source) pieces)
    → eqb (length pieces) 0 ≡ false → after_lines (map (line_seen source) lines) (text_lines n (lines_of (drop start source))) ≡ all
    → after_lines (map (line_seen source) (lines ++ record { number = n; pieces = pieces } ∷ [])) (text_lines (n + 1) (lines_of (drop (start + (len + 1)) source))) ≡ all
line_pushed source start n len lines [] all inside place read some h = absurd (let e : true ≡ false = some in cc)
line_pushed source start n len lines (p ∷ ps) all inside place read some h =
    rw map-append (line_read source start n len (map (line_seen source) lines) (map (seen source) (p ∷ ps)) all inside place read h)

pub line_skipped : (source : List ℕ) (start n len : ℕ) (lines : List TextLine) (pieces : List Piece) (all : Result Lines (ℕ × TextCause)) → start < length source
    → len ≡ position_or_len (λ b. eqb b 10) (slice_range source start (length source)) → text_line (slice_range source start (start + len)) ≡ Ok (map (seen source) pieces)
    → eqb (length pieces) 0 ≡ true → after_lines (map (line_seen source) lines) (text_lines n (lines_of (drop start source))) ≡ all
    → after_lines (map (line_seen source) lines) (text_lines (n + 1) (lines_of (drop (start + (len + 1)) source))) ≡ all
line_skipped source start n len lines [] all inside place read none h = line_read source start n len (map (line_seen source) lines) [] all inside place read h
line_skipped source start n len lines (p ∷ ps) all inside place read none h = absurd (let e = eqb-true (length (p ∷ ps)) 0 none in omega arith)

-- a line was read, and the others are left
pub line_count : (source : List ℕ) (start n len total : ℕ) → start < length source → len ≡ position_or_len (λ b. eqb b 10) (slice_range source start (length source))
    → n + length (lines_of (drop start source)) ≡ total → n + 1 + length (lines_of (drop (start + (len + 1)) source)) ≡ total
line_count source start n len total inside place h =
    let size = length-drop start source in
    let turn = lines_turn (drop start source) (omega arith) in
    let whole : slice_range source start (length source) ≡ drop start source = take_all (length source - start) (drop start source) (omega arith) in
    let here : len ≡ position_or_len (λ b. eqb b 10) (drop start source) = rw whole at place in
    rw (← drop-drop (len + 1) start source) (omega (arith, ap length (rw (← here) at turn)))
