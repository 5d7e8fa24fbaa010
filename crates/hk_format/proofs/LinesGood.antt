-- The lines of the items of a world are lines of some script: their pieces are spelled by texts, and they are short.
use Rattle.std.proofs.Common.{◌≡◌, ℕ, ◌+◌, ◌*◌, ◌<◌, ◌≤◌, ◌^◌, ◌==◌, ◌&&◌, ◌||◌, Bool, true, false, cond, leb, List, [], ◌∷◌, ◌++◌, length, map, refl, ◌∙◌, arith, Option, Some}
use Rattle.std.proofs.Common.{None}
use Rattle.std.specs.Prelude.{codes, IsTrue}
use Rattle.std.specs.List.{list_all, list_any, AllByRecursion, filter, join_with_byte, onto_first, flat_map}
use Rattle.std.specs.Fmt.{digits}
use Rattle.std.proofs.lemmas.Fmt.{length-decimal-le}
use Rattle.std.proofs.lemmas.Bool.{and_parts, and_from, le-leb, lt-ltb, leb-true}
use Rattle.std.proofs.lemmas.Bool.Decides.{nat_tests}
use Rattle.std.proofs.lemmas.List.{length-append, length-map, map-append}
use Rattle.std.proofs.lemmas.List.Folds.{list_all-append}
use Rattle.std.proofs.lemmas.Grind.{flat_map-append}
use Rattle.hk_rights.specs.Rights.{has, all_rights, right_numbers, right_table, name_of, IsRightsWord}
use Rattle.hk_model.specs.declared.names.Name.{Name}
use Rattle.hk_model.specs.declared.names.Slot.{Slot}
use Rattle.hk_model.specs.declared.entries.Entry.{Entry}
use Rattle.hk_model.specs.declared.entries.Entry.TheVariants.{Empty, Held, Form}
use Rattle.hk_model.specs.declared.entries.Making.TheVariants as making
use Rattle.hk_model.specs.declared.entries.Param.{Param}
use Rattle.hk_model.specs.declared.entries.Template.TheVariants as template
use Rattle.hk_model.specs.declared.instructions.Instr.{Instr}
use Rattle.hk_model.specs.declared.instructions.Instr.TheVariants as instr
use Rattle.hk_model.specs.declared.instructions.Operand.{Operand}
use Rattle.hk_model.specs.declared.instructions.Operand.TheVariants as operand
use Rattle.hk_model.specs.declared.instructions.Route.{Route}
use Rattle.hk_format.specs.declared.syntax.Verb.{Verb}
use Rattle.hk_format.specs.declared.syntax.Verb.TheVariants as verb
use Rattle.hk_format.specs.declared.syntax.Head.{Head}
use Rattle.hk_format.specs.declared.syntax.Head.TheVariants.{LimitIs, TypeIs, ObjectIs, SemaphoreIs, ProcedureIs, CodeIs, ProcessIs}
use Rattle.hk_format.specs.declared.syntax.Body.TheVariants.{WordsAre, LabelIs, StepIs}
use Rattle.hk_format.specs.declared.syntax.Part.{Part}
use Rattle.hk_format.specs.declared.syntax.Item.{Item}
use Rattle.hk_model.specs.declared.world.Kind.{Kind}
use Rattle.hk_model.specs.declared.world.Kind.TheVariants as kind
use Rattle.hk_model.specs.declared.world.Born.{Born}
use Rattle.hk_model.specs.declared.world.Code.{Code}
use Rattle.hk_model.specs.declared.world.Task.{Task}
use Rattle.hk_model.specs.declared.instructions.Index.{Index}
use Rattle.hk_model.specs.declared.instructions.Index.TheVariants.{Fixed, ByReg}
use Rattle.hk_model.specs.Labels.{is_word, is_word_byte, is_lower, is_name, first, same_text}
use Rattle.hk_format.specs.Pieces.{Piece, Word, Upper, Dash, Number, spell, spell_index, is_piece, is_index, is_upper, register_text}
use Rattle.hk_format.specs.Texts.{spell_line, is_line}
use Rattle.hk_model.specs.WorldValue.{WorldValue, IsWorld, IsObject, IsTypeOrAny, IsEntry, IsParam, IsKind, IsCode, IsTask, IsInstr, IsIndex, IsRoute, IsOperand, IsSlot, IsReg}
use Rattle.hk_model.specs.WorldValue.{BeginsAtSlot, IsWord32}
use Rattle.hk_format.specs.RightsTexts.{rights_text}
use Rattle.hk_format.specs.Verbs.{verb_word, verb_piece}
use Rattle.hk_format.specs.Operands.{register_piece, slot_piece, operand_piece, steps_piece, route_piece, type_piece, rights_piece, argument_pieces}
use Rattle.hk_format.specs.Spelling.{written_pieces, body_pieces, head_pieces, has_parts, end_line, item_lines, script_lines}
use Rattle.hk_format.specs.Names.{spoken, object_text, code_text}
use Rattle.hk_format.specs.Canonical.{kind_text, part, item, entry_body, entry_parts, param_parts, number_bytes, words_from, word_parts, label_text, written_of, jumps_to}
use Rattle.hk_format.specs.Canonical.{code_parts, object_item, kind_item, code_item, task_item, limit_items, syntax_of}
use Rattle.hk_format.specs.Syntax.{IsTypeText}
use Rattle.hk_format.proofs.NamesAgain.{type_object}
use Rattle.hk_format.proofs.LoadAgain.{plain_general}
use Rattle.hk_format.proofs.ItemsGood.{rights_good, name_word, label_word, code_good, object_good, all_at, all_front, all_back}

-- the bytes of pieces, each with a byte before it
pub line_size : List Piece → ℕ
line_size [] = 0
line_size (p ∷ ps) = length (spell p) + 1 + line_size ps

spelled_size : (p : Piece) (ps : List Piece) → length (spell_line (p ∷ ps)) + 1 ≡ line_size (p ∷ ps)
unfolding line_size
spelled_size p [] = omega arith
spelled_size p (q ∷ qs) =
    let size = length-append (spell p) (32 ∷ spell_line (q ∷ qs)) in
    let rest = spelled_size q qs in
    omega arith

-- a line of pieces that are spelled by texts, and of so few bytes
line_good : (p : Piece) (ps : List Piece) → list_all is_piece (p ∷ ps) ≡ true → line_size (p ∷ ps) ≤ 1001 → is_line (p ∷ ps) ≡ true
line_good p ps pieces few =
    let size = spelled_size p ps in
    let short : leb (length (spell_line (p ∷ ps))) 1000 ≡ true = le-leb _ _ (omega arith) in
    rw (pieces, short)

-- a piece that some text of at most so many bytes spells
record IsWithin (p : Piece) (most : ℕ) : Type 0 where
  piece : is_piece p ≡ true
  short : length (spell p) ≤ most

IsShort : Piece → Type 0
IsShort p = IsWithin p 160

short_pieces : (ps : List Piece) → AllByRecursion IsShort ps → (list_all is_piece ps ≡ true) × (line_size ps ≤ 161 * length ps)
unfolding IsShort line_size
short_pieces [] h = (refl, omega arith)
short_pieces (p ∷ ps) h =
    let rest = short_pieces ps h.1 in
    let here = h.0.short in
    let bytes = rest.1 in
    (and_from _ _ h.0.piece rest.0, omega arith)

-- all these pieces are short
record AreShort (ps : List Piece) : Type 0 where
  all : AllByRecursion IsShort ps

none_short : AreShort []
none_short = record { all = tt }

and_short : {p : Piece} {ps : List Piece} → IsShort p → AreShort ps → AreShort (p ∷ ps)
and_short here rest = record { all = (here, rest.all) }

-- a line of at most six such pieces
few_good : {p : Piece} {ps : List Piece} → AreShort (p ∷ ps) → length (p ∷ ps) ≤ 6 → is_line (p ∷ ps) ≡ true
few_good {p} {ps} h few = let all = short_pieces (p ∷ ps) h.all in let bytes = all.1 in line_good p ps all.0 (omega arith)

wider : {p : Piece} {n : ℕ} → IsWithin p n → n ≤ 160 → IsShort p
unfolding IsShort
wider f most = record { piece = f.piece; short = let s = f.short in omega arith }

-- pieces of a world

word_short : (t : List ℕ) → IsTrue (is_word t) → IsShort (Word t)
unfolding IsShort
word_short t h = record { piece = h; short = let few = leb-true (length t) 32 (and_parts (is_lower (first t) && list_all is_word_byte t) (leb (length t) 32) h).1 in omega arith }

number_fits : (n : ℕ) → n < 2 ^ 32 → IsWithin (Number n) 10
number_fits n h = record { piece = le-leb n 4294967295 (omega arith); short = length-decimal-le 10 n (omega arith) (omega arith) (omega arith) }

number_short : (n : ℕ) → n < 2 ^ 32 → IsShort (Number n)
number_short n h = wider (number_fits n h) (omega arith)

slot_short : (s : Slot) → IsSlot s → IsShort (slot_piece s)
slot_short s h = number_short s.0 (omega arith)

register_word : (r : ℕ) → r < 8 → is_word (register_text r) ≡ true
register_word r h = grind (arith, nat_tests)

register_short : (r : ℕ) → IsReg r → IsShort (register_piece r)
register_short r h = word_short (register_text r) (register_word r h)

operand_short : (o : Operand) → IsOperand o → IsShort (operand_piece o)
operand_short (operand.Number n) h = number_short n h
operand_short (operand.Reg r) h = register_short r h

index_size : (x : Index) → IsIndex x → length (spell_index x) ≤ 10
index_size (Fixed n) h = length-decimal-le 10 n (omega arith) (omega arith) (omega arith)
index_size (ByReg r) h = omega arith

index_piece : (x : Index) → IsIndex x → is_index x ≡ true
index_piece (Fixed n) h = le-leb n 4294967295 (omega arith)
index_piece (ByReg r) h = lt-ltb r 8 h

indices_size : (x : Index) (xs : List Index) → AllByRecursion IsIndex (x ∷ xs) → length (join_with_byte 46 (map spell_index (x ∷ xs))) ≤ 11 * length (x ∷ xs)
indices_size x [] h = let one = index_size x h.0 in omega arith
indices_size x (y ∷ more) h =
    let one = index_size x h.0 in
    let rest = indices_size y more h.1 in
    let size = length-append (spell_index x) (46 ∷ join_with_byte 46 (map spell_index (y ∷ more))) in
    omega arith

indices_piece : (xs : List Index) → AllByRecursion IsIndex xs → list_all is_index xs ≡ true
indices_piece [] h = refl
indices_piece (x ∷ xs) h = and_from _ _ (index_piece x h.0) (indices_piece xs h.1)

steps_fit : (steps : List Index) → BeginsAtSlot steps → length steps ≤ 8 → AllByRecursion IsIndex steps → IsShort (steps_piece steps)
unfolding IsShort
steps_fit [] begins few all = absurd begins
steps_fit (Fixed n ∷ []) begins few all = number_short n (omega arith)
steps_fit (ByReg r ∷ []) begins few all = register_short r all.0
steps_fit (x ∷ y ∷ more) begins few all =
    let size = indices_size x (y ∷ more) all in
    record { piece = rw (le-leb 2 (length (x ∷ y ∷ more)) (omega arith), le-leb (length (x ∷ y ∷ more)) 8 few) (indices_piece (x ∷ y ∷ more) all); short = omega arith }

route_short : (r : Route) → IsRoute r → IsShort (route_piece r)
route_short r h = steps_fit r.at h.0 h.1 h.2

-- texts of types, rights and labels

type_text_short : (t : List ℕ) → IsTypeText t → length t ≤ 32 → IsShort (type_piece t)
unfolding IsShort
type_text_short t h few = go (is_word t) refl h
  where
    go : (b : Bool) → is_word t ≡ b → IsTrue (b || is_upper t) → IsWithin (cond b (Word t) (Upper t)) 160
    go true e k = record { piece = e; short = omega arith }
    go false e k = record { piece = k; short = omega arith }

names_short : AllByRecursion (λ n. leb (length (name_of n)) 7 ≡ true) right_numbers
unfolding right_numbers right_table name_of
names_short = (refl, (refl, (refl, (refl, (refl, (refl, (refl, (refl, (refl, (refl, (refl, (refl, (refl, (refl, (refl, (refl, (refl, (refl, (refl, tt)))))))))))))))))))

nineteen : length right_numbers ≡ 19
unfolding right_numbers right_table
nineteen = refl

kept_size : (test : ℕ → Bool) (ns : List ℕ) → AllByRecursion (λ n. leb (length (name_of n)) 7 ≡ true) ns → length (join_with_byte 43 (map name_of (filter test ns))) ≤ 8 * length ns
kept_size test ns h = go (filter test ns) (kept ns h) (fewer ns)
  where
    kept : (ms : List ℕ) → AllByRecursion (λ n. leb (length (name_of n)) 7 ≡ true) ms → AllByRecursion (λ n. leb (length (name_of n)) 7 ≡ true) (filter test ms)
    kept [] k = tt
    kept (m ∷ ms) k = pick (test m) (kept ms k.1)
      where
        pick : (b : Bool) → AllByRecursion (λ n. leb (length (name_of n)) 7 ≡ true) (filter test ms)
            → AllByRecursion (λ n. leb (length (name_of n)) 7 ≡ true) (cond b (m ∷ filter test ms) (filter test ms))
        pick true rest = (k.0, rest)
        pick false rest = rest

    fewer : (ms : List ℕ) → length (filter test ms) ≤ length ms
    fewer [] = omega arith
    fewer (m ∷ ms) = pick (test m) (fewer ms)
      where
        pick : (b : Bool) → length (filter test ms) ≤ length ms → length (cond b (m ∷ filter test ms) (filter test ms)) ≤ length (m ∷ ms)
        pick true rest = omega arith
        pick false rest = omega arith

    sized : (m : ℕ) (ms : List ℕ) → AllByRecursion (λ n. leb (length (name_of n)) 7 ≡ true) (m ∷ ms) → length (join_with_byte 43 (map name_of (m ∷ ms))) + 1 ≤ 8 * length (m ∷ ms)
    sized m [] k = let one = leb-true (length (name_of m)) 7 k.0 in omega arith
    sized m (n ∷ more) k =
        let one = leb-true (length (name_of m)) 7 k.0 in
        let rest = sized n more k.1 in
        let size = length-append (name_of m) (43 ∷ join_with_byte 43 (map name_of (n ∷ more))) in
        omega arith

    go : (ms : List ℕ) → AllByRecursion (λ n. leb (length (name_of n)) 7 ≡ true) ms → length ms ≤ length ns → length (join_with_byte 43 (map name_of ms)) ≤ 8 * length ns
    go [] k few = omega arith
    go (m ∷ ms) k few = let size = sized m ms k in omega arith

rights_size : (r : ℕ) → length (rights_text r) ≤ 152
unfolding rights_text
rights_size r = go (r == 0) (r == all_rights)
  where
    go : (a b : Bool) → length (cond a (codes "-") (cond b (codes "ALL") (join_with_byte 43 (map name_of (filter (has r) right_numbers))))) ≤ 152
    go true b = omega arith
    go false true = omega arith
    go false false = let size = kept_size (has r) right_numbers names_short in let all = nineteen in omega arith

rights_short : (r : ℕ) → IsRightsWord r → IsShort (rights_piece (rights_text r))
unfolding IsShort
rights_short r word = go (same_text (rights_text r) (codes "-")) (rights_good r word)
  where
    go : (b : Bool) → IsTrue (b || is_upper (rights_text r)) → IsWithin (cond b Dash (Upper (rights_text r))) 160
    go true k = record { piece = refl; short = omega arith }
    go false k = record { piece = k; short = let size = rights_size r in omega arith }

verb_word_good : (v : Verb) → is_word (verb_word v) ≡ true
verb_word_good verb.Hydra = refl
verb_word_good _ = refl

verb_short : (v : Verb) → IsShort (verb_piece v)
verb_short v = word_short (verb_word v) (verb_word_good v)

label_size : (w : WorldValue) → AllByRecursion (λ l. IsTrue (is_name l)) (map (λ (b : Born). b.label) w.objects) → (n : Name) → IsObject w n
    → length (object_text (spoken w) n) ≤ 32
label_size w named n there =
    let size : length (spoken w).objects ≡ 7 + length w.objects = rw length-map (omega arith) in
    all_at (λ l. length l ≤ 32) (spoken w).objects n.0 [] (
      omega arith,
      (
        omega arith,
        (
          omega arith,
          (omega arith, (omega arith, (omega arith, (omega arith, each (map (λ (b : Born). b.label) w.objects) named)))),
        ),
      ),
    ) (omega arith)
  where
    each : (ls : List (List ℕ)) → AllByRecursion (λ l. IsTrue (is_name l)) ls → AllByRecursion (λ l. length l ≤ 32) ls
    each [] h = tt
    each (l ∷ ls) h = (leb-true (length l) 32 (and_parts (is_lower (first l) && list_all is_word_byte l) (leb (length l) 32) (name_word l h.0)).1, each ls h.1)

object_short : (w : WorldValue) → IsWorld w → (n : Name) → IsObject w n → IsShort (type_piece (object_text (spoken w) n))
object_short w h n there =
    let own = map (λ (b : Born). b.label) w.objects in
    let rest = map (λ (c : Code). c.label) w.codes ++ map (λ (t : Task). t.label) w.tasks in
    type_text_short (object_text (spoken w) n) (object_good w h n there) (label_size w (all_front (λ l. IsTrue (is_name l)) own rest h.names) n there)

kind_short : (w : WorldValue) → IsWorld w → (of : Option Name) → IsTypeOrAny w of → IsShort (type_piece (kind_text (spoken w) of))
kind_short w h None k = word_short (codes "any") refl
kind_short w h (Some n) k = object_short w h n (type_object w n k)

code_short : (w : WorldValue) → IsWorld w → (n : ℕ) → n < length w.codes → IsShort (Word (code_text (spoken w) n))
code_short w h n there = word_short (code_text (spoken w) n) (code_good w h n there)

name_short : (t : List ℕ) → IsTrue (is_name t) → IsShort (Word t)
name_short t h = word_short t (name_word t h)

-- lines inside items

entry_line_good : (w : WorldValue) → IsWorld w → (e : Entry) → IsEntry w e → is_line (body_pieces (entry_body (spoken w) e)) ≡ true
entry_line_good w h Empty k = refl
entry_line_good w h (Held held) k =
    few_good (and_short (verb_short verb.Cap) (and_short (object_short w h held.name k.0) (and_short (rights_short held.rights k.1) none_short))) (omega arith)
entry_line_good w h (Form (template.Amplify of check give)) k =
    few_good (and_short (verb_short verb.Amplify) (and_short (kind_short w h of k.0) (and_short (rights_short check k.1) (and_short (rights_short give k.2) none_short))))
    (omega arith)
entry_line_good w h (Form (template.Create of give)) k =
    few_good (and_short (verb_short verb.Create) (and_short (object_short w h of (type_object w of k.0)) (and_short (rights_short give k.1) none_short))) (omega arith)

LinesAreGood : List Part → Type 0
LinesAreGood ps = list_all (λ (p : Part). is_line (body_pieces p.body)) ps ≡ true

entry_lines_good : (w : WorldValue) → IsWorld w → (es : List Entry) → AllByRecursion (IsEntry w) es → LinesAreGood (entry_parts (spoken w) es)
unfolding LinesAreGood
entry_lines_good w h [] k = refl
entry_lines_good w h (e ∷ es) k = and_from _ _ (entry_line_good w h e k.0) (entry_lines_good w h es k.1)

param_lines_good : (w : WorldValue) → IsWorld w → (ps : List Param) → AllByRecursion (IsParam w) ps → LinesAreGood (param_parts (spoken w) ps)
unfolding LinesAreGood
param_lines_good w h [] k = refl
param_lines_good w h (p ∷ ps) k =
    and_from _ _ (few_good (and_short (verb_short verb.Param) (and_short (kind_short w h p.of k.0.0)
    (and_short (rights_short p.check k.0.1) (and_short (rights_short p.give k.0.2) none_short)))) (omega arith)) (param_lines_good w h ps k.1)

-- the bytes of numbers, each with the space before it
numbers_size : List ℕ → ℕ
numbers_size [] = 0
numbers_size (n ∷ ns) = number_bytes n + numbers_size ns

numbers_good : (ns : List ℕ) → AllByRecursion IsWord32 ns → (list_all is_piece (map Number ns) ≡ true) × (line_size (map Number ns) ≡ numbers_size ns)
unfolding line_size numbers_size
numbers_good [] h = (refl, refl)
numbers_good (n ∷ ns) h = let rest = numbers_good ns h.1 in let bytes = rest.1 in (and_from _ _ (number_fits n h.0).piece rest.0, omega arith)

-- lines of words, on the first of which so many bytes stand already
LinesFit : ℕ → List (List ℕ) → Type 0
LinesFit used [] = ⊥
LinesFit used (l ∷ ls) = (used + numbers_size l ≤ 1000) × AllByRecursion IsWord32 l × AllByRecursion (λ m. (5 + numbers_size m ≤ 1000) × AllByRecursion IsWord32 m) ls

put_fits : (used w : ℕ) (ls : List (List ℕ)) → IsWord32 w → LinesFit (used + number_bytes w) ls → LinesFit used (onto_first w ls)
unfolding LinesFit numbers_size
put_fits used w [] k f = absurd f
put_fits used w (l ∷ ls) k f = (let few = f.0 in omega arith, (k, f.1), f.2)

begin_fits : (used : ℕ) (ls : List (List ℕ)) → used ≤ 1000 → LinesFit 5 ls → LinesFit used ([] ∷ ls)
unfolding LinesFit numbers_size
begin_fits used [] few f = absurd f
begin_fits used (l ∷ ls) few f = (omega arith, tt, ((f.0, f.1), f.2))

from_fits : (used : ℕ) (ws : List ℕ) → used ≤ 1000 → AllByRecursion IsWord32 ws → LinesFit used (words_from used ws)
unfolding LinesFit numbers_size
from_fits used [] few h = (omega arith, tt, tt)
from_fits used (w ∷ ws) few h = go (leb (used + number_bytes w) 1000) refl (λ u k. from_fits u ws k h.1)
  where
    go : (b : Bool) → leb (used + number_bytes w) 1000 ≡ b → ((u : ℕ) → u ≤ 1000 → LinesFit u (words_from u ws))
        → LinesFit used (cond b (onto_first w (words_from (used + number_bytes w) ws)) ([] ∷ onto_first w (words_from (5 + number_bytes w) ws)))
    go true e rest = put_fits used w (words_from (used + number_bytes w) ws) h.0 (rest (used + number_bytes w) (leb-true _ _ e))
    go false e rest =
        let small = length-decimal-le 10 w (omega arith) (omega arith) (omega arith) in
        begin_fits used (onto_first w (words_from (5 + number_bytes w) ws)) few (put_fits 5 w (words_from (5 + number_bytes w) ws) h.0 (rest (5 + number_bytes w) (omega arith)))

words_line_good : (ns : List ℕ) → 5 + numbers_size ns ≤ 1000 → AllByRecursion IsWord32 ns → is_line (body_pieces (WordsAre ns)) ≡ true
unfolding line_size
words_line_good ns few h = let all = numbers_good ns h in let bytes = all.1 in line_good (verb_piece verb.Words) (map Number ns) all.0 (omega arith)

word_lines_fit : (lines : List (List ℕ)) → AllByRecursion (λ m. (5 + numbers_size m ≤ 1000) × AllByRecursion IsWord32 m) lines
    → LinesAreGood (map (λ line. part (WordsAre line)) lines)
unfolding LinesAreGood
word_lines_fit [] f = refl
word_lines_fit (l ∷ ls) f = and_from _ _ (words_line_good l f.0.0 f.0.1) (word_lines_fit ls f.1)

words_good : (ws : List ℕ) → AllByRecursion IsWord32 ws → LinesAreGood (word_parts ws)
unfolding LinesFit LinesAreGood
words_good [] h = refl
words_good (w ∷ ws) h = go (words_from 5 (w ∷ ws)) (from_fits 5 (w ∷ ws) (omega arith) h)
  where
    go : (lines : List (List ℕ)) → LinesFit 5 lines → LinesAreGood (map (λ line. part (WordsAre line)) lines)
    go [] f = absurd f
    go (l ∷ ls) f = word_lines_fit (l ∷ ls) ((f.0, f.1), f.2)

-- instructions

slots_good : (ns : List ℕ) → AllByRecursion (λ slot. slot < 64) ns → (list_all is_piece (map Number ns) ≡ true) × (line_size (map Number ns) ≤ 11 * length ns)
unfolding line_size
slots_good [] h = (refl, omega arith)
slots_good (n ∷ ns) h =
    let rest = slots_good ns h.1 in
    let bytes = rest.1 in
    let here = number_fits n (let low = h.0 in omega arith) in
    let one = here.short in
    (and_from _ _ here.piece rest.0, omega arith)

slots_put : (ns : List ℕ) (m : ℕ) → AllByRecursion (λ slot. slot < 64) ns → m < 64 → AllByRecursion (λ slot. slot < 64) (ns ++ m ∷ [])
slots_put [] m h k = (k, tt)
slots_put (n ∷ ns) m h k = (h.0, slots_put ns m h.1 k)

call_good : (proc : Route) (args : List ℕ) (into : Slot) → IsRoute proc → length args ≤ 8 → AllByRecursion (λ slot. slot < 64) args → IsSlot into
    → is_line (verb_piece verb.Call ∷ route_piece proc ∷ argument_pieces args into) ≡ true
unfolding line_size IsShort
call_good proc args into h few all k =
    let slots = slots_good (args ++ into.0 ∷ []) (slots_put args into.0 all k) in
    let bytes = slots.1 in
    let count = length-append args (into.0 ∷ []) in
    let path = route_short proc h in
    let size = path.short in
    let joined : map Number (args ++ into.0 ∷ []) ≡ argument_pieces args into = map-append Number args (into.0 ∷ []) in
    let pieces : list_all is_piece (verb_piece verb.Call ∷ route_piece proc ∷ map Number (args ++ into.0 ∷ [])) ≡ true = and_from _ _ path.piece slots.0 in
    rw (← joined) (line_good (verb_piece verb.Call) (route_piece proc ∷ map Number (args ++ into.0 ∷ [])) pieces (omega arith))

instr_line_good : (len : ℕ) (i : Instr) → len ≤ 4096 → IsInstr len i → is_line (written_pieces (written_of i)) ≡ true
instr_line_good len (instr.Get of at reg) few h =
    few_good (and_short (verb_short verb.GetData) (and_short (route_short of h.0) (and_short (operand_short at h.1) (and_short (register_short reg h.2) none_short)))) (omega arith)
instr_line_good len (instr.Put of at word) few h =
    few_good (and_short (verb_short verb.PutData) (and_short (route_short of h.0) (and_short (operand_short at h.1) (and_short (operand_short word h.2) none_short)))) (omega arith)
instr_line_good len (instr.Add of word) few h =
    few_good (and_short (verb_short verb.AddData) (and_short (route_short of h.0) (and_short (operand_short word h.1) none_short))) (omega arith)
instr_line_good len (instr.Length of reg) few h =
    few_good (and_short (verb_short verb.Length) (and_short (route_short of h.0) (and_short (register_short reg h.1) none_short))) (omega arith)
instr_line_good len (instr.Load from into) few h =
    few_good (and_short (verb_short verb.Load) (and_short (route_short from h.0) (and_short (slot_short into h.1) none_short))) (omega arith)
instr_line_good len (instr.Store list at from) few h =
    few_good (and_short (verb_short verb.Store) (and_short (route_short list h.0) (and_short (operand_short at h.1) (and_short (slot_short from h.2) none_short)))) (omega arith)
instr_line_good len (instr.Append list from) few h =
    few_good (and_short (verb_short verb.Append) (and_short (route_short list h.0) (and_short (slot_short from h.1) none_short))) (omega arith)
instr_line_good len (instr.Erase list at) few h =
    few_good (and_short (verb_short verb.Erase) (and_short (route_short list h.0) (and_short (operand_short at h.1) none_short))) (omega arith)
instr_line_good len (instr.Drop slot) few h = few_good (and_short (verb_short verb.Drop) (and_short (slot_short slot h) none_short)) (omega arith)
instr_line_good len (instr.Restrict slot keep) few h =
    few_good (and_short (verb_short verb.Restrict) (and_short (slot_short slot h.0) (and_short (rights_short keep h.1) none_short))) (omega arith)
instr_line_good len (instr.Look of reg) few h =
    few_good (and_short (verb_short verb.Look) (and_short (route_short of h.0) (and_short (register_short reg h.1) none_short))) (omega arith)
instr_line_good len (instr.MakeTemplate of (making.Amplify check give) into) few h =
    few_good (and_short (verb_short verb.Template) (and_short (route_short of h.0) (and_short (verb_short verb.Amplify)
    (and_short (rights_short check (h.1).0) (and_short (rights_short give (h.1).1) (and_short (slot_short into h.2) none_short)))))) (omega arith)
instr_line_good len (instr.MakeTemplate of (making.Create give) into) few h =
    few_good (and_short (verb_short verb.Template) (and_short (route_short of h.0) (and_short (verb_short verb.Create)
    (and_short (rights_short give h.1) (and_short (slot_short into h.2) none_short))))) (omega arith)
instr_line_good len (instr.Create by into) few h =
    few_good (and_short (verb_short verb.Create) (and_short (route_short by h.0) (and_short (slot_short into h.1) none_short))) (omega arith)
instr_line_good len (instr.Merge with slot into) few h =
    few_good (and_short (verb_short verb.Merge) (and_short (route_short with h.0) (and_short (slot_short slot h.1) (and_short (slot_short into h.2) none_short)))) (omega arith)
instr_line_good len (instr.Copy of into) few h =
    few_good (and_short (verb_short verb.Copy) (and_short (route_short of h.0) (and_short (slot_short into h.1) none_short))) (omega arith)
instr_line_good len (instr.Enter proc args into) few h = call_good proc args into h.0 h.1.0 h.1.1 h.2
instr_line_good len (instr.Leave None) few h = refl
instr_line_good len (instr.Leave (Some s)) few h = few_good (and_short (verb_short verb.Return) (and_short (slot_short s h) none_short)) (omega arith)
instr_line_good len (instr.P of) few h = few_good (and_short (verb_short verb.P) (and_short (route_short of h) none_short)) (omega arith)
instr_line_good len (instr.V of) few h = few_good (and_short (verb_short verb.V) (and_short (route_short of h) none_short)) (omega arith)
instr_line_good len instr.Yield few h = refl
instr_line_good len (instr.SetReg reg to) few h =
    few_good (and_short (verb_short verb.Set) (and_short (register_short reg h.0) (and_short (operand_short to h.1) none_short))) (omega arith)
instr_line_good len (instr.AddReg reg by) few h =
    few_good (and_short (verb_short verb.Add) (and_short (register_short reg h.0) (and_short (operand_short by h.1) none_short))) (omega arith)
instr_line_good len (instr.Goto to) few h =
    few_good (and_short (verb_short verb.Goto) (and_short (word_short (label_text to) (label_word to (omega arith))) none_short)) (omega arith)
instr_line_good len (instr.IfEq left right to) few h =
    few_good (and_short (verb_short verb.IfEq) (and_short (operand_short left h.0) (and_short (operand_short right h.1)
    (and_short (word_short (label_text to) (label_word to (let k = h.2 in omega arith))) none_short)))) (omega arith)
instr_line_good len (instr.IfLess left right to) few h =
    few_good (and_short (verb_short verb.IfLess) (and_short (operand_short left h.0) (and_short (operand_short right h.1)
    (and_short (word_short (label_text to) (label_word to (let k = h.2 in omega arith))) none_short)))) (omega arith)
instr_line_good len (instr.IfDenied to) few h =
    few_good (and_short (verb_short verb.IfDenied) (and_short (word_short (label_text to) (label_word to (omega arith))) none_short)) (omega arith)

code_lines_good : (len : ℕ) (all is : List Instr) (n : ℕ) → len ≤ 4096 → n + length is ≤ 4096 → AllByRecursion (IsInstr len) is → LinesAreGood (code_parts all n is)
unfolding LinesAreGood
code_lines_good len all [] n most few h = go (list_any (jumps_to n) all)
  where
    go : (b : Bool) → LinesAreGood (cond b (part (LabelIs (label_text n)) ∷ []) [])
    go true = and_from _ _ (few_good (and_short (verb_short verb.Label) (and_short (word_short (label_text n) (label_word n (omega arith))) none_short)) (omega arith)) refl
    go false = refl
code_lines_good len all (i ∷ is) n most few h = go (list_any (jumps_to n) all) (code_lines_good len all is (n + 1) most (omega arith) h.1)
  where
    go : (b : Bool) → LinesAreGood (code_parts all (n + 1) is)
        → LinesAreGood (cond b (part (LabelIs (label_text n)) ∷ []) [] ++ part (StepIs (written_of i)) ∷ code_parts all (n + 1) is)
    go true rest =
        and_from _ _ (few_good (and_short (verb_short verb.Label) (and_short (word_short (label_text n) (label_word n (omega arith))) none_short)) (omega arith))
        (and_from _ _ (instr_line_good len i most h.0) rest)
    go false rest = and_from _ _ (instr_line_good len i most h.0) rest

-- items

all_append : (P : Part → Bool) (xs ys : List Part) → list_all P xs ≡ true → list_all P ys ≡ true → list_all P (xs ++ ys) ≡ true
all_append P xs ys a b = list_all-append P xs ys ∙ and_from _ _ a b

part_lines_good : (ps : List Part) → LinesAreGood ps → list_all is_line (map (λ (p : Part). body_pieces p.body) ps ++ end_line ∷ []) ≡ true
unfolding LinesAreGood
part_lines_good [] h = refl
part_lines_good (p ∷ ps) h =
    let parts = and_parts (is_line (body_pieces p.body)) (list_all (λ (q : Part). is_line (body_pieces q.body)) ps) h in and_from _ _ parts.0 (part_lines_good ps parts.1)

item_lines_good : (head : Head) (parts : List Part) → is_line (head_pieces head) ≡ true → LinesAreGood parts → list_all is_line (item_lines (item head parts)) ≡ true
item_lines_good head parts h k = go (has_parts head)
  where
    go : (b : Bool) → list_all is_line (head_pieces head ∷ cond b (map (λ (p : Part). body_pieces p.body) parts ++ end_line ∷ []) []) ≡ true
    go true = and_from _ _ h (part_lines_good parts k)
    go false = and_from _ _ h refl

object_lines_good : (w : WorldValue) → IsWorld w → (label : List ℕ) (k : Kind) → IsTrue (is_name label) → IsKind w k
    → list_all is_line (item_lines (kind_item (spoken w) label k)) ≡ true
unfolding LinesAreGood
object_lines_good w h label kind.TypeObject name k =
    item_lines_good (TypeIs label) [] (few_good (and_short (verb_short verb.Type) (and_short (name_short label name) none_short)) (omega arith)) refl
object_lines_good w h label (kind.Semaphore count) name k =
    item_lines_good (SemaphoreIs label count) [] (few_good (and_short (verb_short verb.Semaphore)
    (and_short (name_short label name) (and_short (number_short count (omega arith)) none_short))) (omega arith)) refl
object_lines_good w h label (kind.Plain of words entries) name k =
    item_lines_good (ObjectIs label (object_text (spoken w) of)) (word_parts words ++ entry_parts (spoken w) entries)
    (few_good (and_short (verb_short verb.Object) (and_short (name_short label name) (and_short
    (object_short w h of (type_object w of (plain_general w of entries k.0).0)) none_short))) (omega arith))
    (all_append (λ (p : Part). is_line (body_pieces p.body)) (word_parts words) (entry_parts (spoken w) entries) (words_good words k.2) (entry_lines_good w h entries k.4))
object_lines_good w h label (kind.Procedure code params entries) name k =
    item_lines_good (ProcedureIs label (code_text (spoken w) code)) (param_parts (spoken w) params ++ entry_parts (spoken w) entries)
    (few_good (and_short (verb_short verb.Procedure) (and_short (name_short label name) (and_short (code_short w h code k.0) none_short))) (omega arith))
    (all_append (λ (p : Part). is_line (body_pieces p.body)) (param_parts (spoken w) params) (entry_parts (spoken w) entries) (param_lines_good w h params k.2)
    (entry_lines_good w h entries k.4))

-- the lines of items, one item behind another
lines_both : (xs ys : List Item) → list_all is_line (flat_map item_lines xs) ≡ true → list_all is_line (flat_map item_lines ys) ≡ true
    → list_all is_line (flat_map item_lines (xs ++ ys)) ≡ true
lines_both xs ys a b = rw (flat_map-append item_lines xs ys) (list_all-append is_line (flat_map item_lines xs) (flat_map item_lines ys) ∙ and_from _ _ a b)

line_onto : (x : Item) (xs : List Item) → list_all is_line (item_lines x) ≡ true → list_all is_line (flat_map item_lines xs) ≡ true
    → list_all is_line (flat_map item_lines (x ∷ xs)) ≡ true
line_onto x xs a b = list_all-append is_line (item_lines x) (flat_map item_lines xs) ∙ and_from _ _ a b

objects_lines : (w : WorldValue) → IsWorld w → (os : List Born) → AllByRecursion (λ (o : Born). IsKind w o.kind) os
    → AllByRecursion (λ l. IsTrue (is_name l)) (map (λ (o : Born). o.label) os) → list_all is_line (flat_map item_lines (map (object_item (spoken w)) os)) ≡ true
objects_lines w h [] k named = refl
objects_lines w h (o ∷ os) k named =
    line_onto (object_item (spoken w) o) (map (object_item (spoken w)) os) (object_lines_good w h o.label o.kind named.0 k.0) (objects_lines w h os k.1 named.1)

codes_lines : (cs : List Code) → AllByRecursion IsCode cs → AllByRecursion (λ l. IsTrue (is_name l)) (map (λ (c : Code). c.label) cs)
    → list_all is_line (flat_map item_lines (map code_item cs)) ≡ true
codes_lines [] k named = refl
codes_lines (c ∷ cs) k named =
    line_onto (code_item c) (map code_item cs) (item_lines_good (CodeIs c.label) (code_parts c.steps 0 c.steps)
    (few_good (and_short (verb_short verb.Code) (and_short (name_short c.label named.0) none_short)) (omega arith))
    (code_lines_good (length c.steps) c.steps c.steps 0 k.0.0 (let few = k.0.0 in omega arith) k.0.1)) (codes_lines cs k.1 named.1)

tasks_lines : (w : WorldValue) → IsWorld w → (ts : List Task) → AllByRecursion (IsTask w) ts → AllByRecursion (λ l. IsTrue (is_name l)) (map (λ (t : Task). t.label) ts)
    → list_all is_line (flat_map item_lines (map (task_item (spoken w)) ts)) ≡ true
tasks_lines w h [] k named = refl
tasks_lines w h (t ∷ ts) k named =
    line_onto (task_item (spoken w) t) (map (task_item (spoken w)) ts) (item_lines_good (ProcessIs t.label (code_text (spoken w) t.code)) (entry_parts (spoken w) t.slots)
    (few_good (and_short (verb_short verb.Process) (and_short (name_short t.label named.0) (and_short (code_short w h t.code k.0.0) none_short))) (omega arith))
    (entry_lines_good w h t.slots k.0.2)) (tasks_lines w h ts k.1 named.1)

-- the lines of a world are those of some script
pub lines_good : (w : WorldValue) → IsWorld w → list_all is_line (script_lines (syntax_of w)) ≡ true
unfolding digits
lines_good w h =
    lines_both (limit_items w.limit) (map (object_item (spoken w)) w.objects ++ (map code_item w.codes ++ map (task_item (spoken w)) w.tasks)) (limits (w.limit == 10000))
    (lines_both (map (object_item (spoken w)) w.objects) (map code_item w.codes ++ map (task_item (spoken w)) w.tasks)
    (objects_lines w h w.objects h.kinds (all_front (λ l. IsTrue (is_name l)) own (coded ++ tasked) h.names))
    (lines_both (map code_item w.codes) (map (task_item (spoken w)) w.tasks) (codes_lines w.codes h.codes_are (all_front (λ l. IsTrue (is_name l)) coded tasked named))
    (tasks_lines w h w.tasks h.tasks_are (all_back (λ l. IsTrue (is_name l)) coded tasked named))))
  where
    own : List (List ℕ)
    own = map (λ (b : Born). b.label) w.objects

    coded : List (List ℕ)
    coded = map (λ (c : Code). c.label) w.codes

    tasked : List (List ℕ)
    tasked = map (λ (t : Task). t.label) w.tasks

    named : AllByRecursion (λ l. IsTrue (is_name l)) (coded ++ tasked)
    named = all_back (λ l. IsTrue (is_name l)) own (coded ++ tasked) h.names

    limits : (b : Bool) → list_all is_line (flat_map item_lines (cond b [] (item (LimitIs w.limit) [] ∷ []))) ≡ true
    limits true = refl
    limits false =
        and_from _ _ (few_good (and_short (verb_short verb.Limit) (and_short (number_short w.limit (let few = h.few_events in omega arith)) none_short)) (omega arith)) refl
