-- How far a script was read, line by line.
use Rattle.std.proofs.Common.{◌≡◌, ℕ, ◌+◌, ◌<◌, true, false, List, [], ◌∷◌, length, map, drop, get_or, refl, sym, ap, ◌∙◌, Result, Ok, Err, Option, Some, None, eqb, ◌≤◌, arith}
use Rattle.std.specs.Prelude.{OnOk, IsNone}
use Rattle.std.proofs.lemmas.List.{at_drop_more, drop_all}
use Rattle.std.specs.List.{list_all}
use Rattle.std.proofs.lemmas.Bool.{and_parts, eqb-true}
use Rattle.hk_format.specs.declared.causes.ParseCause.{ParseCause}
use Rattle.hk_format.specs.declared.causes.TextCause.{TextCause}
use Rattle.hk_format.specs.declared.errors.LineError.{LineError}
use Rattle.hk_format.specs.declared.errors.LineError.TheVariants as line_error
use Rattle.hk_format.specs.declared.syntax.Item.{Item}
use Rattle.hk_format.specs.Outcomes.{Becomes}
use Rattle.hk_format.specs.Pieces as piece
use Rattle.hk_format.specs.Pieces.{is_piece}
use Rattle.hk_format.specs.Texts.{Lines, text, line_onto}
use Rattle.hk_format.specs.Grammar.{Read, Refused, after_line, go_on, header, after_header, items_from, script, between_items, nothing_seen}
use Rattle.hk_format.specs.Syntax.{IsSyntax}
use Rattle.hk_text.specs.declared.text.TextLine.{TextLine}
use Rattle.hk_text.specs.Views.{seen, line_seen}
use Rattle.hk_text.proofs.PiecesGood.{is_good}
use Rattle.hk_script.specs.declared.progress.Refusal.{Refusal}
use Rattle.hk_script.specs.Progresses.{lines_behind, unless_refused, checked, source_items}
use Rattle.hk_script.proofs.SyntaxGood.{script_good}

-- before the first line
pub at_start : (r : Read) (ls : Lines) → r ≡ between_items [] nothing_seen → lines_behind false r ls ≡ script ls
at_start r [] h = refl
at_start r (l ∷ ls) h = ap (λ (x : Read). after_header l.0 (header l.1) (items_from ls x)) h

-- a line behind the header was read, and the others follow
pub line_ok : (result : Result (Unit {0}) (LineError ParseCause)) (refused : Option Refusal) (old new : Read) (n : ℕ) (ps : List piece.Piece) → Becomes result new (after_line old n ps)
    → OnOk result ((ls : Lines) → unless_refused refused (lines_behind true new ls) ≡ unless_refused refused (lines_behind true old ((n, ps) ∷ ls)))
line_ok (Ok x) refused old new n ps h = λ ls. sym (ap (λ (o : Result Read ParseCause). unless_refused refused (go_on n o (λ next. items_from ls next))) h)
line_ok (Err e) refused old new n ps h = tt

-- such a line was refused
pub line_bad : (result : Result (Unit {0}) (LineError ParseCause)) (refused : Option Refusal) (old new : Read) (n : ℕ) (ps : List piece.Piece) (cause : ParseCause) (ls : Lines)
    → IsNone refused → Becomes result new (after_line old n ps) → result ≡ Err (line_error.Bad cause)
    → unless_refused refused (lines_behind true old ((n, ps) ∷ ls)) ≡ Err (n, cause)
line_bad (Ok x) refused old new n ps cause ls none h e = cc
line_bad (Err (line_error.Bad bad)) None old new n ps cause ls none h e =
    let same : bad ≡ cause = cc in ap (λ (o : Result Read ParseCause). go_on n o (λ next. items_from ls next)) h ∙ ap (λ (c : ParseCause). Err (n, c)) same
line_bad (Err (line_error.Bad bad)) (Some refusal) old new n ps cause ls none h e = absurd (let no : true ≡ false = none in cc)
line_bad (Err line_error.NoMemory) refused old new n ps cause ls none h e = cc

-- the pieces of the next line, and of those behind it, are spelled by some text
pub next_good : (source : List ℕ) (lines : List TextLine) (i : ℕ) (line : TextLine) → i < length lines → line ≡ get_or lines i line
    → list_all is_good (map (line_seen source) (drop i lines)) ≡ true
    → (list_all is_piece (map (seen source) line.pieces) ≡ true) × (list_all is_good (map (line_seen source) (drop (i + 1) lines)) ≡ true)
next_good source lines i line more e good =
    let rest = map (line_seen source) (drop (i + 1) lines) in
    let all : list_all is_good (line_seen source line ∷ rest) ≡ true = ap (λ (l : TextLine). list_all is_good (line_seen source l ∷ rest)) e
    ∙ sym (at_drop_more (λ ls. list_all is_good (map (line_seen source) ls)) lines i line more) ∙ good in
    and_parts (is_good (line_seen source line)) (list_all is_good rest) all

-- the next line was read, and the others follow
pub next_turn : (source : List ℕ) (lines : List TextLine) (i : ℕ) (line : TextLine) (old new : Lines → Result (List Item) Refused) (whole : Result (List Item) Refused)
    → i < length lines → line ≡ get_or lines i line → old (map (line_seen source) (drop i lines)) ≡ whole
    → ((ls : Lines) → new ls ≡ old ((line.number, map (seen source) line.pieces) ∷ ls)) → new (map (line_seen source) (drop (i + 1) lines)) ≡ whole
next_turn source lines i line old new whole more e k after =
    let rest = map (line_seen source) (drop (i + 1) lines) in
    after rest ∙ ap (λ (l : TextLine). old (line_seen source l ∷ rest)) e ∙ sym (at_drop_more (λ ls. old (map (line_seen source) ls)) lines i line more) ∙ k

-- all lines were read, and what they gave is a syntax
pub parsed_good : (source : List ℕ) (lines : List TextLine) (i : ℕ) (left : Lines → Result (List Item) Refused) (items : List Item) → text source ≡ Ok (map (line_seen source) lines)
    → left (map (line_seen source) (drop i lines)) ≡ script (map (line_seen source) lines) → length lines ≤ i → left [] ≡ Ok items → IsSyntax items
parsed_good source lines i left items h k past last =
    let whole : left [] ≡ script (map (line_seen source) lines) = rw (drop_all i lines past) at k in
    script_good source (map (line_seen source) lines) items h (sym whole ∙ last)

-- a line without pieces
pub skipped : (n : ℕ) (ps : List piece.Piece) (ahead : Result Lines (ℕ × TextCause)) (parse : Lines → Result (List Item) Refused) → eqb (length ps) 0 ≡ true
    → checked (line_onto n (Ok ps) ahead) parse ≡ checked ahead parse
skipped n [] (Ok ls) parse h = refl
skipped n [] (Err refused) parse h = refl
skipped n (p ∷ ps) ahead parse h = absurd (let none = eqb-true (length (p ∷ ps)) 0 h in omega arith)

-- a line with pieces was read
pub taken : (n : ℕ) (ps : List piece.Piece) (ahead : Result Lines (ℕ × TextCause)) (old new : Lines → Result (List Item) Refused) → eqb (length ps) 0 ≡ false
    → ((ls : Lines) → new ls ≡ old ((n, ps) ∷ ls)) → checked (line_onto n (Ok ps) ahead) old ≡ checked ahead new
taken n [] ahead old new h k = absurd (let no : true ≡ false = h in cc)
taken n (p ∷ ps) (Ok ls) old new h k = ap (λ (o : Result (List Item) Refused). checked (Ok []) (λ _. o)) (sym (k ls))
taken n (p ∷ ps) (Err refused) old new h k = refl

-- the items of a source are a syntax
pub source_good : (source : List ℕ) (items : List Item) → source_items source ≡ Ok items → IsSyntax items
source_good source items h = go (text source) refl h
  where
    parse_of : (ls : Lines) (parsed : Result (List Item) Refused) → text source ≡ Ok ls → script ls ≡ parsed → checked (Ok ls) (λ _. parsed) ≡ Ok items → IsSyntax items
    parse_of ls (Ok others) a b e = script_good source ls items a (b ∙ (let same : others ≡ items = cc in ap Ok same))
    parse_of ls (Err refused) a b e = cc

    go : (lines : Result Lines (ℕ × TextCause)) → text source ≡ lines → checked lines script ≡ Ok items → IsSyntax items
    go (Ok ls) a e = parse_of ls (script ls) a refl e
    go (Err refused) a e = cc

-- all lines of a source were read, and what they gave is a syntax
pub read_good : (source : List ℕ) (old new : Lines → Result (List Item) Refused) (items : List Item) → ((ls : Lines) → old ls ≡ script ls)
    → checked (text source) old ≡ checked (Ok []) new → new [] ≡ Ok items → IsSyntax items
read_good source old new items same h last = source_good source items (sym (go (text source)) ∙ h ∙ ap (λ (o : Result (List Item) Refused). checked (Ok []) (λ _. o)) last)
  where
    go : (lines : Result Lines (ℕ × TextCause)) → checked lines old ≡ checked lines script
    go (Ok ls) = ap (λ (o : Result (List Item) Refused). checked (Ok []) (λ _. o)) (same ls)
    go (Err refused) = refl
