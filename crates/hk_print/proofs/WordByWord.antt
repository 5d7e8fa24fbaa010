-- The words of an object, written one by one.
use Rattle.std.proofs.Common.{◌≡◌, ℕ, ◌+◌, ◌<◌, ◌≤◌, Bool, true, false, cond, List, [], ◌∷◌, ◌++◌, length, drop, map, refl, sym, ap, ◌∙◌, leb, arith}
use Rattle.std.specs.Prelude.{codes}
use Rattle.std.specs.List.{join_with_byte, flat_map, onto_first}
use Rattle.std.specs.Fmt.{decimal}
use Rattle.std.proofs.lemmas.Bool.{le-leb}
use Rattle.std.proofs.lemmas.Bool.Decides.{nat_tests}
use mathlib.Core.List.{append_assoc, append-nil}
use Rattle.hk_format.specs.declared.syntax.Body.TheVariants.{WordsAre}
use Rattle.hk_format.specs.Pieces.{Number, spell}
use Rattle.hk_format.specs.Canonical.{number_bytes, words_from, word_parts, part}
use Rattle.hk_print.specs.ItemTexts.{parts_text}
use Rattle.hk_print.specs.WordLines.{numbers_text, words_line, begun_lines}

numbers_spelled : (front : List ℕ) (words : List ℕ) → join_with_byte 32 (front ∷ map spell (map Number words)) ≡ front ++ numbers_text words
numbers_spelled front [] = sym (append-nil front)
numbers_spelled front (n ∷ ns) = ap (λ (t : List ℕ). front ++ 32 ∷ t) (numbers_spelled (decimal n) ns)

lines_text : (lines : List (List ℕ)) → parts_text (map (λ line. part (WordsAre line)) lines) ≡ flat_map words_line lines
lines_text [] = refl
lines_text (l ∷ ls) = rw (numbers_spelled (codes "words") l, lines_text ls)

onto_some : (w : ℕ) (lines : List (List ℕ)) → onto_first w lines ≡ [] → ⊥
onto_some w [] e = absurd (cc)
onto_some w (l ∷ ls) e = absurd (cc)

from_some : (used : ℕ) (words : List ℕ) → words_from used words ≡ [] → ⊥
from_some used [] e = absurd (cc)
from_some used (w ∷ ws) e = go (leb (used + number_bytes w) 1000) e
  where
    go : (b : Bool) → cond b (onto_first w (words_from (used + number_bytes w) ws)) ([] ∷ onto_first w (words_from (5 + number_bytes w) ws)) ≡ [] → ⊥
    go true e = onto_some w _ e
    go false e = absurd (cc)

put_first : (w : ℕ) (lines : List (List ℕ)) → (lines ≡ [] → ⊥) → begun_lines (onto_first w lines) ≡ (32 ∷ decimal w) ++ begun_lines lines
put_first w [] some = absurd (some refl)
put_first w (l ∷ ls) some = append_assoc (32 ∷ decimal w) (numbers_text l) (10 ∷ flat_map words_line ls)

line_begun : (lines : List (List ℕ)) → (lines ≡ [] → ⊥) → flat_map words_line lines ≡ codes "words" ++ begun_lines lines
line_begun [] some = absurd (some refl)
line_begun (l ∷ ls) some =
    append_assoc (codes "words" ++ numbers_text l) (10 ∷ []) (flat_map words_line ls) ∙ append_assoc (codes "words") (numbers_text l) (10 ∷ flat_map words_line ls)

-- all words stand behind the first `words`
pub words_begun : (w : ℕ) (ws : List ℕ) → parts_text (word_parts (w ∷ ws)) ≡ codes "words" ++ begun_lines (words_from 5 (w ∷ ws))
words_begun w ws = lines_text (words_from 5 (w ∷ ws)) ∙ line_begun (words_from 5 (w ∷ ws)) (from_some 5 (w ∷ ws))

-- a word that fits stands on its line
pub word_fits : (used w : ℕ) (ws : List ℕ) → used + number_bytes w ≤ 1000
    → begun_lines (words_from used (w ∷ ws)) ≡ (32 ∷ decimal w) ++ begun_lines (words_from (used + number_bytes w) ws)
word_fits used w ws fits = rw (le-leb (used + number_bytes w) 1000 fits) (put_first w (words_from (used + number_bytes w) ws) (from_some (used + number_bytes w) ws))

-- and one that does not fit begins the next line
pub word_breaks : (used w : ℕ) (ws : List ℕ) → 1000 < used + number_bytes w
    → begun_lines (words_from used (w ∷ ws)) ≡ (10 ∷ codes "words") ++ ((32 ∷ decimal w) ++ begun_lines (words_from (5 + number_bytes w) ws))
word_breaks used w ws over =
    let no : leb (used + number_bytes w) 1000 ≡ false = grind (arith, nat_tests) in
    let rest = words_from (5 + number_bytes w) ws in
    rw no (ap (λ (t : List ℕ). 10 ∷ t) (line_begun (onto_first w rest) (onto_some w rest) ∙ ap (λ (t : List ℕ). codes "words" ++ t)
    (put_first w rest (from_some (5 + number_bytes w) ws))))

-- a word is written on its line
pub word_written : (used w len : ℕ) (old number new rest : List ℕ) → used + len ≤ 1000 → number ≡ 32 ∷ decimal w → len ≡ length number → new ≡ old ++ number
    → new ++ begun_lines (words_from (used + len) rest) ≡ old ++ begun_lines (words_from used (w ∷ rest))
word_written used w len old number new rest fits e l n =
    let same : len ≡ number_bytes w = l ∙ ap length e ∙ omega arith in
    rw (n, e, same) (append_assoc old (32 ∷ decimal w) (begun_lines (words_from (used + number_bytes w) rest))
    ∙ ap (λ (t : List ℕ). old ++ t) (sym (word_fits used w rest (omega arith))))

-- or on the next
pub word_moved : (used w len : ℕ) (old number broken new rest : List ℕ) → 1000 < used + len → number ≡ 32 ∷ decimal w → len ≡ length number → broken ≡ old ++ (10 ∷ codes "words")
    → new ≡ broken ++ number → new ++ begun_lines (words_from (5 + len) rest) ≡ old ++ begun_lines (words_from used (w ∷ rest))
word_moved used w len old number broken new rest over e l b n =
    let same : len ≡ number_bytes w = l ∙ ap length e ∙ omega arith in
    rw (n, b, e, same) (append_assoc (old ++ (10 ∷ codes "words")) (32 ∷ decimal w) (begun_lines (words_from (5 + number_bytes w) rest))
    ∙ append_assoc old (10 ∷ codes "words") ((32 ∷ decimal w) ++ begun_lines (words_from (5 + number_bytes w) rest))
    ∙ ap (λ (t : List ℕ). old ++ t) (sym (word_breaks used w rest (omega arith))))

drop_all : (words : List ℕ) → drop (length words) words ≡ []
drop_all [] = refl
drop_all (w ∷ ws) = drop_all ws

-- all words are written
pub words_over : (words : List ℕ) (i used : ℕ) (old pushed out new : List ℕ) → (words ≡ [] → ⊥) → i ≡ length words → pushed ≡ old ++ codes "words"
    → out ++ begun_lines (words_from used (drop i words)) ≡ pushed ++ begun_lines (words_from 5 words) → new ≡ out ++ 10 ∷ [] → new ≡ old ++ parts_text (word_parts words)
words_over [] i used old pushed out new some e p before n = absurd (some refl)
words_over (w ∷ ws) i used old pushed out new some e p before n =
    let last : drop i (w ∷ ws) ≡ [] = rw e (drop_all (w ∷ ws)) in
    let done : out ++ 10 ∷ [] ≡ pushed ++ begun_lines (words_from 5 (w ∷ ws)) = rw last at before in
    n ∙ done ∙ (rw p (append_assoc old (codes "words") (begun_lines (words_from 5 (w ∷ ws))))) ∙ ap (λ (t : List ℕ). old ++ t) (sym (words_begun w ws))
