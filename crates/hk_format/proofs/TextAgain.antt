-- Lines that are spelled are read again.
use Rattle.std.proofs.Common.{◌≡◌, ℕ, ◌+◌, Bool, true, false, eqb, leb, ltb, List, [], ◌∷◌, ◌++◌, length, refl, ap, ◌∙◌, arith, ◌&&◌, ◌||◌, not, map, Ok}
use Rattle.std.specs.List.{list_all, list_any, slice_split, join_with_byte, before_first, enumerate_from}
use Rattle.std.specs.Fmt.{decimal}
use Rattle.std.proofs.lemmas.Bool.{and_parts, and_from, false≢true, leb-true, le-ltb}
use Rattle.std.proofs.lemmas.Bool.Decides.{nat_tests}
use mathlib.Core.List.{append_assoc}
use Rattle.hk_model.specs.declared.instructions.Index.{Index}
use Rattle.hk_model.specs.declared.instructions.Index.TheVariants.{Fixed, ByReg}
use Rattle.hk_model.specs.Labels.{between, is_digit, is_lower, is_word_byte}
use Rattle.hk_format.specs.Pieces.{Piece, Word, Upper, Dash, Number, Path, is_number, spell, spell_index, is_piece, is_index}
use Rattle.hk_format.specs.Texts.{is_none, is_blank, is_no_text, pieces_of, text_line, text_lines, text, without_last_empty, spell_line, spell_lines, is_line}
use Rattle.hk_format.proofs.Cutting.{all_weaker, none_of, split_at, split_joined, all_joined, before_none, filter_all}
use Rattle.hk_format.proofs.PieceAgain.{piece_again, digits_number, is_name_byte, names_bytes}

-- a byte of a piece
abbrev pub is_plain : ℕ → Bool
is_plain b = between 33 126 b && not (eqb b 35)

abbrev pub is_solid : List ℕ → Bool
is_solid t = not (is_none t) && list_all is_plain t

pub digits_solid : (t : List ℕ) → is_number t ≡ true → is_solid t ≡ true
digits_solid [] h = absurd (false≢true h)
digits_solid (d ∷ ds) h = all_weaker is_digit is_plain (λ b k. grind (arith, nat_tests)) (d ∷ ds) (and_parts (is_digit d) (list_all is_digit (d ∷ ds)) h).1

index_solid : (step : Index) → is_index step ≡ true → is_solid (spell_index step) ≡ true
index_solid (Fixed n) h = digits_solid (decimal n) (digits_number n (let le = leb-true n 0xffffffff h in omega arith))
index_solid (ByReg r) h = grind (arith, nat_tests)

steps_plain : (steps : List Index) → list_all is_index steps ≡ true → list_all (list_all is_plain) (map spell_index steps) ≡ true
steps_plain [] h = refl
steps_plain (step ∷ steps) h =
    let parts = and_parts (is_index step) (list_all is_index steps) h in
    and_from _ _ (and_parts (not (is_none (spell_index step))) (list_all is_plain (spell_index step)) (index_solid step parts.0)).1 (steps_plain steps parts.1)

pub piece_solid : (piece : Piece) → is_piece piece ≡ true → is_solid (spell piece) ≡ true
piece_solid (Word []) h = absurd (false≢true h)
piece_solid (Word (b ∷ bs)) h =
    let parts = and_parts (is_lower b && list_all is_word_byte (b ∷ bs)) (leb (length (b ∷ bs)) 32) h in
    all_weaker is_word_byte is_plain (λ c k. grind (arith, nat_tests)) (b ∷ bs) (and_parts (is_lower b) (list_all is_word_byte (b ∷ bs)) parts.0).1
piece_solid (Upper []) h = absurd (false≢true h)
piece_solid (Upper (b ∷ bs)) h = all_weaker is_name_byte is_plain (λ c k. grind (arith, nat_tests)) (b ∷ bs) (names_bytes true (b ∷ bs) h)
piece_solid Dash h = refl
piece_solid (Number n) h = digits_solid (decimal n) (digits_number n (let le = leb-true n 0xffffffff h in omega arith))
piece_solid (Path []) h = absurd (false≢true h)
piece_solid (Path (x ∷ [])) h = absurd (false≢true h)
piece_solid (Path (x ∷ y ∷ more)) h =
    let parts = and_parts (between 2 8 (length (x ∷ y ∷ more))) (list_all is_index (x ∷ y ∷ more)) h in
    let plain = all_joined is_plain 46 (map spell_index (x ∷ y ∷ more)) (steps_plain (x ∷ y ∷ more) parts.1) refl in
    and_from _ _ (first (spell_index x) (join_with_byte 46 (map spell_index (y ∷ more)))) plain
  where
    first : (xs ys : List ℕ) → not (is_none (xs ++ 46 ∷ ys)) ≡ true
    first [] ys = refl
    first (x ∷ xs) ys = refl

-- what is known of the texts of a line's pieces
record LineTexts (ps : List Piece) : Type 0 where
  cut : list_all (λ t. not (list_any is_blank t)) (map spell ps) ≡ true
  kept : list_all (λ t. not (is_none t)) (map spell ps) ≡ true
  plain : list_all (list_all is_plain) (map spell ps) ≡ true
  read : pieces_of (map spell ps) ≡ Ok ps

line_texts : (ps : List Piece) → list_all is_piece ps ≡ true → LineTexts ps
line_texts [] h = record { cut = refl; kept = refl; plain = refl; read = refl }
line_texts (p ∷ ps) h =
    let parts = and_parts (is_piece p) (list_all is_piece ps) h in
    let rest = line_texts ps parts.1 in
    let solid = and_parts (not (is_none (spell p))) (list_all is_plain (spell p)) (piece_solid p parts.0) in
    let blank : list_any is_blank (spell p) ≡ false = none_of is_plain is_blank (λ b t. grind (arith, nat_tests)) (spell p) solid.1 in
    record { cut = rw (blank, rest.cut); kept = rw (solid.0, rest.kept); plain = rw (solid.1, rest.plain); read = rw (piece_again p parts.0, rest.read) }

abbrev is_spelled : ℕ → Bool
is_spelled b = is_plain b || eqb b 32

line_bytes : (ps : List Piece) → list_all is_piece ps ≡ true → list_all is_spelled (spell_line ps) ≡ true
line_bytes ps h =
    all_joined is_spelled 32 (map spell ps) (all_weaker (list_all is_plain) (list_all is_spelled) (all_weaker is_plain is_spelled (λ b k. grind (arith, nat_tests))) (map spell ps)
    (line_texts ps h).plain) refl

line_again : (ps : List Piece) → is_line ps ≡ true → text_line (spell_line ps) ≡ Ok ps
line_again [] h = absurd (false≢true h)
line_again (p ∷ ps) h =
    let parts = and_parts (list_all is_piece (p ∷ ps)) (leb (length (spell_line (p ∷ ps))) 1000) h in
    let texts = line_texts (p ∷ ps) parts.0 in
    let bytes = line_bytes (p ∷ ps) parts.0 in
    let ascii : list_any is_no_text (spell_line (p ∷ ps)) ≡ false = none_of is_spelled is_no_text (λ b t. grind (arith, nat_tests)) (spell_line (p ∷ ps)) bytes in
    let short : ltb 1000 (length (spell_line (p ∷ ps))) ≡ false = le-ltb _ _ (leb-true _ _ parts.1) in
    let comment : before_first (λ b. eqb b 35) (spell_line (p ∷ ps)) ≡ spell_line (p ∷ ps) =
    before_none (λ b. eqb b 35) (spell_line (p ∷ ps)) (none_of is_spelled (λ b. eqb b 35) (λ b t. grind (arith, nat_tests)) (spell_line (p ∷ ps)) bytes) in
    let cut = split_joined is_blank 32 (spell p) (map spell ps) texts.cut refl in
    let kept = filter_all (λ t. not (is_none t)) (map spell (p ∷ ps)) texts.kept in
    rw (ascii, short, comment, cut, kept) texts.read

lines_again : (ls : List (List Piece)) → list_all is_line ls ≡ true → slice_split (λ b. eqb b 10) (spell_lines ls) ≡ map spell_line ls ++ [] ∷ []
lines_again [] h = refl
lines_again (l ∷ ls) h =
    let parts = and_parts (is_line l) (list_all is_line ls) h in
    let pieces : list_all is_piece l ≡ true = grind arith in
    let feed : list_any (λ b. eqb b 10) (spell_line l) ≡ false = none_of is_spelled (λ b. eqb b 10) (λ b t. grind (arith, nat_tests)) (spell_line l) (line_bytes l pieces) in
    ap (slice_split (λ b. eqb b 10)) (append_assoc (spell_line l) (10 ∷ []) (spell_lines ls))
    ∙ split_at (λ b. eqb b 10) (spell_line l) 10 (spell_lines ls) feed refl
    ∙ ap (λ t. spell_line l ∷ t) (lines_again ls parts.1)

no_last : (ts : List (List ℕ)) → without_last_empty (ts ++ [] ∷ []) ≡ ts
no_last [] = refl
no_last (x ∷ []) = refl
no_last (x ∷ y ∷ more) = ap (λ t. x ∷ t) (no_last (y ∷ more))

numbered_again : (n : ℕ) (ls : List (List Piece)) → list_all is_line ls ≡ true → text_lines n (map spell_line ls) ≡ Ok (enumerate_from n ls)
numbered_again n [] h = refl
numbered_again n ([] ∷ ls) h = absurd (false≢true h)
numbered_again n ((p ∷ ps) ∷ ls) h =
    let parts = and_parts (is_line (p ∷ ps)) (list_all is_line ls) h in
    rw (line_again (p ∷ ps) parts.0, numbered_again (n + 1) ls parts.1)

-- the lines that bytes spell are read again, with their numbers
pub text_again : (ls : List (List Piece)) → list_all is_line ls ≡ true → text (spell_lines ls) ≡ Ok (enumerate_from 1 ls)
text_again ls h = rw (lines_again ls h, no_last (map spell_line ls)) (numbered_again 1 ls h)
