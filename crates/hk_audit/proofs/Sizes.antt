-- How many bytes pieces have.
use Rattle.std.proofs.Common.{◌≡◌, ℕ, ◌+◌, ◌*◌, ◌<◌, ◌≤◌, ◌^◌, ◌==◌, ◌&&◌, Bool, true, false, cond, leb, List, [], ◌∷◌, ◌++◌, length, map, refl, arith, Some}
use Rattle.std.specs.Prelude.{codes, IsTrue, option_map}
use Rattle.std.specs.Option.{unwrap_or}
use Rattle.std.specs.Fmt.{decimal}
use Rattle.std.specs.List.{list_all, find, AllByRecursion, filter, join_with_byte}
use Rattle.std.proofs.lemmas.Fmt.{length-decimal-le}
use Rattle.std.proofs.lemmas.Bool.{and_parts, leb-true}
use Rattle.std.proofs.lemmas.List.{length-append}
use Rattle.hk_rights.specs.Rights.{Row, has, all_rights, right_numbers, right_table, name_of}
use Rattle.hk_model.specs.declared.instructions.Index.{Index}
use Rattle.hk_model.specs.declared.instructions.Index.TheVariants.{Fixed, ByReg}
use Rattle.hk_model.specs.declared.instructions.Operand.{Operand}
use Rattle.hk_model.specs.declared.instructions.Operand.TheVariants as operand
use Rattle.hk_model.specs.Labels.{is_word, is_word_byte, is_lower, first, same_text}
use Rattle.hk_model.specs.WorldValue.{IsIndex, IsOperand}
use Rattle.hk_format.specs.Pieces.{Piece, Word, Upper, Dash, spell, spell_index}
use Rattle.hk_format.specs.RightsTexts.{rights_text}
use Rattle.hk_format.specs.Texts.{spell_line, ended_line}
use Rattle.hk_format.specs.Operands.{operand_piece, steps_piece, type_piece, rights_set_piece}

-- the bytes of texts, each with one byte behind it
abbrev pub texts_size : List (List ℕ) → ℕ
texts_size [] = 0
texts_size (t ∷ ts) = length t + 1 + texts_size ts

-- the same of the texts of pieces
abbrev pub pieces_size : List Piece → ℕ
pieces_size ps = texts_size (map spell ps)

pub texts_append : (xs ys : List (List ℕ)) → texts_size (xs ++ ys) ≡ texts_size xs + texts_size ys
texts_append [] ys = omega arith
texts_append (x ∷ xs) ys = omega (arith, texts_append xs ys)

pub joined_size : (c : ℕ) (ts : List (List ℕ)) → length (join_with_byte c ts) ≤ texts_size ts
joined_size c [] = omega arith
joined_size c (t ∷ []) = omega arith
joined_size c (t ∷ u ∷ more) = omega (arith, joined_size c (u ∷ more), length-append t (c ∷ join_with_byte c (u ∷ more)))

-- a line of pieces, with its line feed
pub line_size : (ps : List Piece) → length (ended_line (spell_line ps)) ≤ pieces_size ps + 1
line_size ps = omega (arith, joined_size 32 (map spell ps), length-append (spell_line ps) (10 ∷ []))

-- words and numbers

pub word_size : (t : List ℕ) → IsTrue (is_word t) → length t ≤ 32
word_size t h = leb-true (length t) 32 (and_parts (is_lower (first t) && list_all is_word_byte t) (leb (length t) 32) h).1

pub number_size : (n : ℕ) → n < 2 ^ 32 → length (decimal n) ≤ 10
number_size n h = length-decimal-le 10 n (omega arith) (omega arith) (omega arith)

pub small_size : (n : ℕ) → n < 1000 → length (decimal n) ≤ 3
small_size n h = length-decimal-le 3 n (omega arith) (omega arith) (omega arith)

pub operand_size : (o : Operand) → IsOperand o → length (spell (operand_piece o)) ≤ 10
operand_size (operand.Number n) h = number_size n h
operand_size (operand.Reg r) h = omega arith

-- paths

index_size : (x : Index) → IsIndex x → length (spell_index x) ≤ 5
index_size (Fixed n) h = length-decimal-le 5 n (omega arith) (omega arith) (omega arith)
index_size (ByReg r) h = omega arith

indices_size : (xs : List Index) → AllByRecursion IsIndex xs → texts_size (map spell_index xs) ≤ 6 * length xs
indices_size [] h = omega arith
indices_size (x ∷ xs) h = omega (arith, index_size x h.0, indices_size xs h.1)

pub steps_size : (xs : List Index) → length xs ≤ 8 → AllByRecursion IsIndex xs → length (spell (steps_piece xs)) ≤ 48
steps_size [] few h = omega arith
steps_size (Fixed n ∷ []) few h = omega (arith, index_size (Fixed n) h.0)
steps_size (ByReg r ∷ []) few h = omega arith
steps_size (x ∷ y ∷ more) few h = omega (arith, joined_size 46 (map spell_index (x ∷ y ∷ more)), indices_size (x ∷ y ∷ more) h)

-- types and rights

pub type_size : (t : List ℕ) → length (spell (type_piece t)) ≡ length t
type_size t = go (is_word t)
  where
    go : (b : Bool) → length (spell (cond b (Word t) (Upper t))) ≡ length t
    go true = refl
    go false = refl

-- the bytes of the names of rights, each with one byte behind it
names_size : List ℕ → ℕ
names_size ns = texts_size (map name_of ns)

all_names : names_size right_numbers ≡ 94
unfolding names_size right_numbers right_table name_of
all_names = refl

fewer_names : (test : ℕ → Bool) (ns : List ℕ) → names_size (filter test ns) ≤ names_size ns
unfolding names_size
fewer_names test [] = omega arith
fewer_names test (n ∷ ns) = go (test n) (fewer_names test ns)
  where
    go : (b : Bool) → names_size (filter test ns) ≤ names_size ns → names_size (cond b (n ∷ filter test ns) (filter test ns)) ≤ names_size (n ∷ ns)
    go true rest = omega arith
    go false rest = omega arith

rights_text_size : (r : ℕ) → length (rights_text r) ≤ 94
unfolding rights_text names_size
rights_text_size r = go (r == 0) (r == all_rights)
  where
    go : (a b : Bool) → length (cond a (codes "-") (cond b (codes "ALL") (join_with_byte 43 (map name_of (filter (has r) right_numbers))))) ≤ 94
    go true b = omega arith
    go false true = omega arith
    go false false = omega (arith, joined_size 43 (map name_of (filter (has r) right_numbers)), fewer_names (has r) right_numbers, all_names)

pub rights_size : (r : ℕ) → length (spell (rights_set_piece r)) ≤ 94
rights_size r = go (same_text (rights_text r) (codes "-")) (rights_text_size r)
  where
    go : (b : Bool) → length (rights_text r) ≤ 94 → length (spell (cond b Dash (Upper (rights_text r)))) ≤ 94
    go true h = omega arith
    go false h = h

-- the name of a right

table_short : AllByRecursion (λ (row : Row). leb (length row.0) 7 ≡ true) right_table
unfolding right_table
table_short = (refl, (refl, (refl, (refl, (refl, (refl, (refl, (refl, (refl, (refl, (refl, (refl, (refl, (refl, (refl, (refl, (refl, (refl, (refl, tt)))))))))))))))))))

found_size : (rows : List Row) → AllByRecursion (λ (row : Row). leb (length row.0) 7 ≡ true) rows → (n : ℕ)
    → length (unwrap_or (option_map (λ (row : Row). row.0) (find (λ (row : Row). row.1 == n) rows)) []) ≤ 7
found_size [] h n = omega arith
found_size (r ∷ rows) h n = go (r.1 == n) (found_size rows h.1 n)
  where
    go : (b : Bool) → length (unwrap_or (option_map (λ (row : Row). row.0) (find (λ (row : Row). row.1 == n) rows)) []) ≤ 7
        → length (unwrap_or (option_map (λ (row : Row). row.0) (cond b (Some r) (find (λ (row : Row). row.1 == n) rows))) []) ≤ 7
    go true k = leb-true (length r.0) 7 h.0
    go false k = k

pub right_size : (n : ℕ) → length (name_of n) ≤ 7
unfolding name_of
right_size n = found_size right_table table_short n
