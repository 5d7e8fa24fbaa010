-- The definition reads a line where its text stands, and nowhere else.
use Rattle.std.proofs.Common.{◌≡◌, ℕ, ◌<◌, ◌==◌, Bool, true, false, cond, leb, ltb, List, [], ◌∷◌, ◌++◌, length, map, refl, ap, subst, ◌∙◌, arith, ◌↔◌, not, ◌&&◌, Option, Some}
use Rattle.std.proofs.Common.{None, Result, Ok, Err, IsTrue}
use Rattle.std.specs.List.{AllByRecursion, list_all, list_any}
use Rattle.std.specs.Fmt.{decimal}
use Rattle.std.proofs.lemmas.Bool.{and_parts, false≢true, ltb-true, leb-true}
use Rattle.std.proofs.lemmas.List.{length-map}
use Rattle.hk_rights.specs.Rights.{IsRightsWord, is_right, number_named}
use Rattle.hk_rights.proofs.Table.{named-is_right}
use Rattle.hk_format.specs.declared.causes.TextCause.{TextCause}
use Rattle.hk_format.specs.declared.causes.TextCause.TheVariants as text_cause
use Rattle.hk_format.specs.declared.causes.ParseCause.TheVariants.{OutOfRange}
use Rattle.hk_model.specs.declared.instructions.Index.{Index}
use Rattle.hk_model.specs.declared.instructions.Index.TheVariants.{Fixed, ByReg}
use Rattle.hk_model.specs.declared.names.Slot.{Slot}
use Rattle.hk_model.specs.declared.calls.Reply.{Reply}
use Rattle.hk_model.specs.declared.lines.Line.{Line}
use Rattle.hk_model.specs.Labels.{between, same_text}
use Rattle.hk_format.specs.Pieces.{Piece, Word, Upper, Dash, Number, Path, piece_of, is_number, is_piece, is_index, value, spell}
use Rattle.hk_format.specs.Reading.{Found, Reads}
use Rattle.hk_format.specs.RightsTexts.{rights_spelled}
use Rattle.hk_format.specs.Forms.{as_number_below, slot_numbered}
use Rattle.hk_format.specs.LineReading.{is_number_index, index_number, set_found, as_path, as_any_slot, as_rights_set, as_right, as_word32, event_line, reply_line}
use Rattle.hk_model.specs.Limits.{inc_bound}
use Rattle.hk_format.specs.LineReading.{line_with, widened, wide_pieces, Halves, halves, kept, read_by, applied, from_halves, guess, if_spelled, read_body}
use Rattle.hk_format.specs.Texts.{piece_onto}
use Rattle.hk_format.specs.AuditLines.{what_pieces, event_pieces, reply_pieces, arrow, line_body}
use Rattle.hk_format.specs.LineRanges.{IsPathValue, IsAnySlot, IsLine}
use Rattle.hk_model.specs.WorldValue.{IsWord32}
use Rattle.hk_format.proofs.Cutting.{all_both, split_joined}
use Rattle.hk_format.proofs.LineAgain.{same_is}
use Rattle.hk_format.proofs.LoadGood.{rights_word}
use Rattle.hk_text.proofs.PiecesGood.{GoodPiece, piece_good}
use Rattle.hk_audit.specs.TextPieces.{nothing}
use Rattle.hk_audit.proofs.Spelled.{same_self}
use Rattle.hk_audit.proofs.Clear.{clear_event, clear_reply, clear_texts}
use Rattle.hk_audit.proofs.LinesAgain.{event_again, reply_again}
use Rattle.hk_audit.proofs.Sound.{Forms, sound_event, sound_reply}

-- a line is read from its text

guess_again : (l : Line) → IsLine l → guess (line_body l) ≡ Some l
unfolding line_body
guess_again l h =
    let first = clear_texts (event_pieces l) (clear_event l h) in
    let second = clear_texts (reply_pieces l.reply) (clear_reply l.reply h.reply) in
    let free : list_all (λ t. not (list_any (λ b. b == 32) t)) (map spell (event_pieces l) ++ arrow ∷ map spell (reply_pieces l.reply)) ≡ true =
    all_both (λ t. not (list_any (λ b. b == 32) t)) (map spell (event_pieces l)) (arrow ∷ map spell (reply_pieces l.reply)) first.free second.free in
    let cut = split_joined (λ b. b == 32) 32 (decimal l.cpu.0) (map spell (Number l.proc.0 ∷ Number l.inc.0 ∷ what_pieces l.what)
    ++ arrow ∷ map spell (reply_pieces l.reply)) free refl in
    let event : read_by event_line (wide_pieces (map spell (event_pieces l))) ≡ Some (line_with l.cpu.0 l.proc.0 l.inc.0 l.what) = ap (read_by event_line) first.wide
    ∙ ap kept (event_again l h) in
    let answer : read_by reply_line (wide_pieces (map spell (reply_pieces l.reply))) ≡ Some l.reply = ap (read_by reply_line) second.wide ∙ ap kept (reply_again l.reply h.reply) in
    ap (λ (ts : List (List ℕ)). from_halves (halves ts)) cut
    ∙ ap from_halves (first.apart (map spell (reply_pieces l.reply)))
    ∙ ap (λ (g : Option (Reply → Line)). applied g (read_by reply_line (wide_pieces (map spell (reply_pieces l.reply))))) event
    ∙ ap (applied (Some (line_with l.cpu.0 l.proc.0 l.inc.0 l.what))) answer

body_again : (l : Line) → IsLine l → read_body (line_body l) ≡ Some l
unfolding read_body
body_again l h = ap (if_spelled (line_body l)) (guess_again l h) ∙ spelled (same_text (line_body l) (line_body l)) (same_self (line_body l))
  where
    spelled : (b : Bool) → b ≡ true → cond b (Some l) None ≡ Some l
    spelled true e = refl
    spelled false e = absurd (false≢true e)

-- what is guessed is a line

piece_or : Result Piece TextCause → Piece
piece_or (Ok p) = p
piece_or (Err cause) = nothing

wide_view : List ℕ → Piece
wide_view t = piece_or (widened t (piece_of t))

wide_seen : (ts : List (List ℕ)) (ps : List Piece) → wide_pieces ts ≡ Ok ps → map wide_view ts ≡ ps
unfolding wide_view piece_or
wide_seen [] ps h = let same : [] ≡ ps = cc in same
wide_seen (t ∷ ts) ps h = go (widened t (piece_of t)) (wide_pieces ts) h (λ qs e. wide_seen ts qs e)
  where
    go : (r : Result Piece TextCause) (s : Result (List Piece) TextCause) → piece_onto r s ≡ Ok ps → ((qs : List Piece) → s ≡ Ok qs → map wide_view ts ≡ qs)
        → piece_or r ∷ map wide_view ts ≡ ps
    go (Ok p) (Ok qs) e more = let same : p ∷ qs ≡ ps = cc in ap (λ (us : List Piece). p ∷ us) (more qs refl) ∙ same
    go (Ok p) (Err cause) e more = cc
    go (Err cause) s e more = cc

-- a path has as many indices as some text's
IsWide : Piece → Type 0
IsWide (Path steps) = is_piece (Path steps) ≡ true
IsWide p = Unit {0}

wide_good : (t : List ℕ) → IsWide (wide_view t)
unfolding IsWide wide_view piece_or
wide_good t = go (piece_of t) (piece_good t)
  where
    go : (r : Result Piece TextCause) → GoodPiece r → IsWide (piece_or (widened t r))
    go (Ok (Word u)) h = tt
    go (Ok (Upper u)) h = tt
    go (Ok Dash) h = tt
    go (Ok (Number n)) h = tt
    go (Ok (Path steps)) h = h
    go (Err text_cause.NumberTooLarge) h = by (is_number t && ltb (value t) inc_bound)
      where
        by : (b : Bool) → IsWide (piece_or (cond b (Ok (Number (value t))) (Err text_cause.NumberTooLarge)))
        by true = tt
        by false = tt
    go (Err text_cause.NotAscii) h = tt
    go (Err text_cause.LongLine) h = tt
    go (Err text_cause.BadToken) h = tt

indices_below : (steps : List Index) → list_all is_number_index steps ≡ true → AllByRecursion (λ n. n < 65536) (map index_number steps)
indices_below [] h = tt
indices_below (Fixed n ∷ steps) h = let parts = and_parts (ltb n 65536) (list_all is_number_index steps) h in (ltb-true n 65536 parts.0, indices_below steps parts.1)
indices_below (ByReg r ∷ steps) h = absurd (false≢true h)

path_value : (p : Piece) (x : List ℕ) → IsWide p → as_path p ≡ Ok x → IsPathValue x
unfolding IsWide
path_value (Word u) x h e = cc
path_value (Upper u) x h e = cc
path_value Dash x h e = cc
path_value (Number n) x h e = go (ltb n 65536) refl e
  where
    go : (b : Bool) → ltb n 65536 ≡ b → cond b (Ok (n ∷ [])) (Err OutOfRange) ≡ Ok x → IsPathValue x
    go true k i = let same : n ∷ [] ≡ x = cc in subst IsPathValue same (omega arith, omega arith, (ltb-true n 65536 k, tt))
    go false k i = cc
path_value (Path steps) x h e = go (list_all is_number_index steps) refl e
  where
    go : (b : Bool) → list_all is_number_index steps ≡ b → cond b (Ok (map index_number steps)) (Err OutOfRange) ≡ Ok x → IsPathValue x
    go true k i =
        let same : map index_number steps ≡ x = cc in
        let few = (and_parts (between 2 8 (length steps)) (list_all is_index steps) h).0 in
        let parts = and_parts (leb 2 (length steps)) (leb (length steps) 8) few in
        let low = leb-true 2 (length steps) parts.0 in
        let high = leb-true (length steps) 8 parts.1 in
        let size = length-map steps index_number in
        subst IsPathValue same (omega arith, omega arith, indices_below steps k)
    go false k i = cc

slot_value : (p : Piece) (x : Slot) → as_any_slot p ≡ Ok x → IsAnySlot x
slot_value (Word u) x e = cc
slot_value (Upper u) x e = cc
slot_value Dash x e = cc
slot_value (Path steps) x e = cc
slot_value (Number n) x e = go (ltb n 256) refl e
  where
    go : (b : Bool) → ltb n 256 ≡ b → cond b (Ok (slot_numbered n)) (Err OutOfRange) ≡ Ok x → IsAnySlot x
    go true k i = let same : slot_numbered n ≡ x = cc in subst IsAnySlot same (ltb-true n 256 k)
    go false k i = cc

below_value : (bound : ℕ) (p : Piece) (x : ℕ) → as_number_below bound p ≡ Ok x → x < bound
below_value bound (Word u) x e = cc
below_value bound (Upper u) x e = cc
below_value bound Dash x e = cc
below_value bound (Path steps) x e = cc
below_value bound (Number n) x e = go (ltb n bound) refl e
  where
    go : (b : Bool) → ltb n bound ≡ b → cond b (Ok n) (Err OutOfRange) ≡ Ok x → x < bound
    go true k i = let same : n ≡ x = cc in subst (λ (m : ℕ). m < bound) same (ltb-true n bound k)
    go false k i = cc

word32_value : (p : Piece) (x : ℕ) → as_word32 p ≡ Ok x → IsWord32 x
word32_value (Word u) x e = cc
word32_value (Upper u) x e = cc
word32_value Dash x e = cc
word32_value (Path steps) x e = cc
word32_value (Number n) x e = go (leb n 4294967295) refl e
  where
    go : (b : Bool) → leb n 4294967295 ≡ b → cond b (Ok n) (Err OutOfRange) ≡ Ok x → IsWord32 x
    go true k i = let same : n ≡ x = cc in subst IsWord32 same (let most = leb-true n 4294967295 k in omega arith)
    go false k i = cc

found_some : (o : Option ℕ) (x : ℕ) → set_found o ≡ Ok x → o ≡ Some x
found_some (Some y) x e = let same : y ≡ x = cc in ap Some same
found_some None x e = cc

rights_value : (p : Piece) (x : ℕ) → as_rights_set p ≡ Ok x → IsRightsWord x
rights_value (Word u) x e = cc
rights_value (Number n) x e = cc
rights_value (Path steps) x e = cc
rights_value Dash x e = let same : 0 ≡ x = cc in subst IsRightsWord same refl
rights_value (Upper u) x e = rights_word u x (rw (found_some (rights_spelled u) x e) refl)

right_value : (p : Piece) (x : ℕ) → as_right p ≡ Ok x → IsTrue (is_right x)
right_value (Word u) x e = cc
right_value (Number n) x e = cc
right_value (Path steps) x e = cc
right_value Dash x e = cc
right_value (Upper u) x e = named-is_right u x (found_some (number_named u) x e)

wide_forms : Forms wide_view false
wide_forms = record {
  path = record { fits = λ t x e. (path_value (wide_view t) x (wide_good t) e, tt) };
  slot = record { fits = λ t x e. (slot_value (wide_view t) x e, tt) };
  rights = record { fits = λ t x e. (rights_value (wide_view t) x e, tt) };
  right = record { fits = λ t x e. (right_value (wide_view t) x e, tt) };
  word32 = record { fits = λ t x e. (word32_value (wide_view t) x e, tt) };
  below = λ bound most. record { fits = λ t x e. (below_value bound (wide_view t) x e, tt) };
  word = record { fits = λ t x e. (tt, tt) };
  verb = record { fits = λ t x e. (tt, tt) };
  full = record { fits = λ t x e. (tt, tt) };
}

-- what was read of texts by a reader, if it was
read_found : {A : Type 0} (reads : Reads A) (ts : List (List ℕ)) (x : A) → read_by reads (wide_pieces ts) ≡ Some x → (rest : List Piece) × (reads (map wide_view ts) ≡ Ok (x, rest))
read_found {A} reads ts x h = go (wide_pieces ts) refl h
  where
    by : (ps : List Piece) → map wide_view ts ≡ ps → (r : Found A) → reads ps ≡ r → kept r ≡ Some x → (rest : List Piece) × (reads (map wide_view ts) ≡ Ok (x, rest))
    by ps same (Ok q) e k = let one : q.0 ≡ x = cc in (q.1, ap reads same ∙ e ∙ ap (λ (y : A). Ok (y, q.1)) one)
    by ps same (Err cause) e k = absurd (let none : None ≡ Some x = k in cc)

    go : (r : Result (List Piece) TextCause) → wide_pieces ts ≡ r → read_by reads r ≡ Some x → (rest : List Piece) × (reads (map wide_view ts) ≡ Ok (x, rest))
    go (Ok ps) e k = by ps (wide_seen ts ps e) (reads ps) refl k
    go (Err cause) e k = absurd (let none : None ≡ Some x = k in cc)

guess_line : (h : Halves) (l : Line) → from_halves h ≡ Some l → IsLine l
guess_line h l e = go (read_by event_line (wide_pieces h.event)) refl (read_by reply_line (wide_pieces h.reply)) refl e
  where
    go : (g : Option (Reply → Line)) → read_by event_line (wide_pieces h.event) ≡ g → (r : Option Reply) → read_by reply_line (wide_pieces h.reply) ≡ r → applied g r ≡ Some l
        → IsLine l
    go (Some line) i (Some answer) j k =
        let first = read_found event_line h.event line i in
        let second = read_found reply_line h.reply answer j in
        let event = (sound_event wide_forms).sound h.event line first.0 first.1 in
        let reply = (sound_reply wide_forms).sound h.reply answer second.0 second.1 in
        let same : line answer ≡ l = cc in
        subst IsLine same (event.0.line answer reply.0)
    go (Some line) i None j k = absurd (let none : None ≡ Some l = k in cc)
    go None i r j k = absurd (let none : None ≡ Some l = k in cc)

body_only : (bytes : List ℕ) (l : Line) → read_body bytes ≡ Some l → IsLine l × (line_body l ≡ bytes)
unfolding read_body
body_only bytes l h = go (guess bytes) refl h
  where
    go : (o : Option Line) → guess bytes ≡ o → if_spelled bytes o ≡ Some l → IsLine l × (line_body l ≡ bytes)
    go (Some k) i e = by (same_text (line_body k) bytes) refl e
      where
        by : (b : Bool) → same_text (line_body k) bytes ≡ b → cond b (Some k) None ≡ Some l → IsLine l × (line_body l ≡ bytes)
        by true s f = let same : k ≡ l = cc in subst (λ (m : Line). IsLine m × (line_body m ≡ bytes)) same (guess_line _ k i, same_is (line_body k) bytes s)
        by false s f = absurd (let none : None ≡ Some l = f in cc)
    go None i e = absurd (let none : None ≡ Some l = e in cc)

pub read_body_is : (bytes : List ℕ) (l : Line) → (read_body bytes ≡ Some l) ↔ (IsLine l × (line_body l ≡ bytes))
read_body_is bytes l = (body_only bytes l, λ h. subst (λ (t : List ℕ). read_body t ≡ Some l) h.1 (body_again l h.0))
