-- The text of a record is read as its world, its lines and its end word.
use Rattle.std.proofs.Common.{◌≡◌, ℕ, ◌+◌, ◌==◌, Bool, true, false, List, [], ◌∷◌, ◌++◌, length, map, refl, sym, ap, ◌∙◌, arith, not, Some, None, Result, Ok, Err}
use Rattle.std.specs.Prelude.{All}
use Rattle.std.specs.List.{AllByRecursion, list_all, list_any, flat_map}
use Rattle.std.proofs.lemmas.Bool.{and_parts, and_from}
use Rattle.std.proofs.lemmas.Bool.Decides.{nat_tests}
use Rattle.std.proofs.lemmas.List.Elements.{recursion_from_All}
use mathlib.Core.List.{append_assoc}
use Rattle.hk_rights.specs.Rights.{name_of, number_named, right_numbers, right_table}
use Rattle.hk_model.specs.declared.lines.Line.{Line}
use Rattle.hk_model.specs.declared.lines.End.{End}
use Rattle.hk_model.specs.declared.lines.End.TheVariants as end
use Rattle.hk_model.specs.Labels.{same_text}
use Rattle.hk_format.specs.Pieces.{Piece, spell, piece_of, is_piece}
use Rattle.hk_model.specs.WorldValue.{WorldValue, IsWorld}
use Rattle.hk_format.specs.Texts.{is_line, is_none, ended_line, lines_of, spell_line, without_last_empty}
use Rattle.hk_format.specs.Spelling.{script_lines}
use Rattle.hk_format.specs.Canonical.{canon, syntax_of}
use Rattle.hk_format.specs.Verbs.{all_verbs}
use Rattle.hk_format.specs.RightsTexts.{rights_spelled, rights_text}
use Rattle.hk_format.specs.AuditLines.{arrow, event_pieces, reply_pieces, line_body}
use Rattle.hk_format.specs.LineReading.{read_body}
use Rattle.hk_format.specs.LineRanges.{IsLine}
use Rattle.hk_format.specs.Worlds.{Refused, world, world_of}
use Rattle.hk_format.specs.Records.{record_word, end_text, lines_text, record_text}
use Rattle.hk_format.specs.Audits.{Audited, audit, audit_cut, audited, cut, cut_at_record, end_spelled, events, events_from, is_record, line_before}
use Rattle.hk_format.proofs.Cutting.{all_both, all_joined, all_weaker, none_of, split_at}
use Rattle.hk_format.proofs.LineAgain.{same_is}
use Rattle.hk_format.proofs.LinesGood.{lines_good}
use Rattle.hk_format.proofs.TextAgain.{is_plain, piece_solid}
use Rattle.hk_format.proofs.WorldAgain.{world_again}
use Rattle.hk_audit.specs.RecordCuts.{texts_of}
use Rattle.hk_audit.proofs.Clear.{clear_event, clear_reply, clear_texts}
use Rattle.hk_audit.proofs.ReadAgain.{read_body_is}
use Rattle.hk_audit.proofs.RecordEvents.{line_told}
use Rattle.hk_audit.proofs.ScriptLines.{script_other}

-- no line feed stands in the text
abbrev is_unbroken : List ℕ → Bool
is_unbroken t = not (list_any (λ b. b == 10) t)

unbroken : (t : List ℕ) → list_all (λ b. not (b == 10)) t ≡ true → is_unbroken t ≡ true
unbroken t h = ap not (none_of (λ b. not (b == 10)) (λ b. b == 10) (λ b k. grind arith) t h)

-- texts, each with a line feed behind it, are cut there
texts_ended : {X : Type 0} (text : X → List ℕ) (xs : List X) (rest : List ℕ) → list_all (λ x. is_unbroken (text x)) xs ≡ true
    → texts_of (flat_map (λ x. ended_line (text x)) xs ++ rest) ≡ map text xs ++ texts_of rest
texts_ended text [] rest h = refl
texts_ended text (x ∷ xs) rest h =
    let parts = and_parts (is_unbroken (text x)) (list_all (λ y. is_unbroken (text y)) xs) h in
    let more : List ℕ = flat_map (λ y. ended_line (text y)) xs in
    let free : list_any (λ b. b == 10) (text x) ≡ false = let here = parts.0 in grind arith in
    ap texts_of (append_assoc (ended_line (text x)) more rest ∙ append_assoc (text x) (10 ∷ []) (more ++ rest))
    ∙ split_at (λ b. b == 10) (text x) 10 (more ++ rest) free refl
    ∙ ap (λ (ts : List (List ℕ)). text x ∷ ts) (texts_ended text xs rest parts.1)

-- the lines of a script

pieces_unbroken : (ps : List Piece) → list_all is_piece ps ≡ true → list_all (list_all (λ b. not (b == 10))) (map spell ps) ≡ true
pieces_unbroken [] h = refl
pieces_unbroken (p ∷ ps) h =
    let parts = and_parts (is_piece p) (list_all is_piece ps) h in
    let solid = and_parts (not (is_none (spell p))) (list_all is_plain (spell p)) (piece_solid p parts.0) in
    and_from _ _ (all_weaker is_plain (λ b. not (b == 10)) (λ b k. grind (arith, nat_tests)) (spell p) solid.1) (pieces_unbroken ps parts.1)

lines_unbroken : (ls : List (List Piece)) → list_all is_line ls ≡ true → list_all (λ ps. is_unbroken (spell_line ps)) ls ≡ true
lines_unbroken [] h = refl
lines_unbroken (ps ∷ ls) h =
    let parts = and_parts (is_line ps) (list_all is_line ls) h in
    let pieces : list_all is_piece ps ≡ true = let here = parts.0 in grind arith in
    and_from _ _ (unbroken (spell_line ps) (all_joined (λ b. not (b == 10)) 32 (map spell ps) (pieces_unbroken ps pieces) refl)) (lines_unbroken ls parts.1)

-- an audit line

pub line_unbroken : (l : Line) → IsLine l → is_unbroken (line_body l) ≡ true
unfolding line_body
line_unbroken l h =
    let event = (clear_texts (event_pieces l) (clear_event l h)).unbroken in
    let reply = (clear_texts (reply_pieces l.reply) (clear_reply l.reply h.reply)).unbroken in
    unbroken (line_body l) (all_joined (λ b. not (b == 10)) 32 (map spell (event_pieces l) ++ arrow ∷ map spell (reply_pieces l.reply))
    (all_both (list_all (λ b. not (b == 10))) (map spell (event_pieces l)) (arrow ∷ map spell (reply_pieces l.reply)) event (and_from _ _ refl reply)) refl)

audit_lines_unbroken : (lines : List Line) → AllByRecursion IsLine lines → list_all (λ l. is_unbroken (line_body l)) lines ≡ true
audit_lines_unbroken [] h = refl
audit_lines_unbroken (l ∷ lines) h = and_from _ _ (line_unbroken l h.0) (audit_lines_unbroken lines h.1)

-- an end line is no audit line
end_unread : (e : End) → read_body (end_text e) ≡ None
unfolding piece_of all_verbs right_table right_numbers name_of number_named rights_text rights_spelled line_body read_body
end_unread end.Done = refl
end_unread end.Stuck = refl
end_unread end.Limit = refl

not_end : (l : Line) → IsLine l → (e : End) → same_text (line_body l) (end_text e) ≡ false
not_end l h e = go (same_text (line_body l) (end_text e)) refl
  where
    go : (b : Bool) → same_text (line_body l) (end_text e) ≡ b → b ≡ false
    go false s = refl
    go true s = let read = (read_body_is (end_text e) l).1 (h, same_is (line_body l) (end_text e) s) in let none = end_unread e in absurd (cc)

pub no_end : (l : Line) → IsLine l → None ≡ end_spelled (line_body l)
no_end l h = rw (not_end l h end.Done, not_end l h end.Stuck, not_end l h end.Limit) refl

-- what stands behind the line `record` tells the lines and the end word
events_told : (lines : List Line) (e : End) (n : ℕ) → AllByRecursion IsLine lines → events_from n (map line_body lines ++ end_text e ∷ [] ∷ []) ≡ Ok (events lines e)
events_told [] end.Done n h = refl
events_told [] end.Stuck n h = refl
events_told [] end.Limit n h = refl
events_told (l ∷ []) e n h = line_told (line_body l) (end_text e) ([] ∷ []) l (no_end l h.0) (h.0, refl) n ∙ ap (line_before l) (events_told [] e (n + 1) tt)
events_told (l ∷ k ∷ lines) e n h =
    line_told (line_body l) (line_body k) (map line_body lines ++ end_text e ∷ [] ∷ []) l (no_end l h.0) (h.0, refl) n ∙ ap (line_before l) (events_told (k ∷ lines) e (n + 1) h.1)

-- the script is what stands before the first line `record`
cut_there : (ts more : List (List ℕ)) → list_all (λ t. not (is_record t)) ts ≡ true → cut_at_record (ts ++ record_word ∷ more) ≡ cut ts (Some more)
cut_there [] [] h = refl
cut_there [] (x ∷ more) h = refl
cut_there (t ∷ []) more h = let other : is_record t ≡ false = grind arith in rw (other, cut_there [] more refl) refl
cut_there (t ∷ u ∷ ts) more h =
    let parts = and_parts (not (is_record t)) (list_all (λ t. not (is_record t)) (u ∷ ts)) h in
    let other : is_record t ≡ false = let here = parts.0 in grind arith in
    rw (other, cut_there (u ∷ ts) more parts.1) refl

-- the script
mapped : {X Y : Type 0} (f : X → Y) (p : Y → Bool) (xs : List X) → list_all (λ x. p (f x)) xs ≡ true → list_all p (map f xs) ≡ true
mapped f p [] h = refl
mapped f p (x ∷ xs) h = let parts = and_parts (p (f x)) (list_all (λ x. p (f x)) xs) h in and_from _ _ parts.0 (mapped f p xs parts.1)

no_last : (ts : List (List ℕ)) → without_last_empty (ts ++ [] ∷ []) ≡ ts
no_last [] = refl
no_last (x ∷ []) = refl
no_last (x ∷ y ∷ more) = ap (λ (ts : List (List ℕ)). x ∷ ts) (no_last (y ∷ more))

append_none : (t : List ℕ) → t ++ [] ≡ t
append_none [] = refl
append_none (b ∷ t) = ap (λ (u : List ℕ). b ∷ u) (append_none t)

-- the lines of the canonical script
abbrev canon_lines : WorldValue → List (List ℕ)
canon_lines w = map spell_line (script_lines (syntax_of w))

canon_texts : (w : WorldValue) (rest : List ℕ) → IsWorld w → texts_of (canon w ++ rest) ≡ canon_lines w ++ texts_of rest
unfolding canon
canon_texts w rest h = texts_ended spell_line (script_lines (syntax_of w)) rest (lines_unbroken (script_lines (syntax_of w)) (lines_good w h))

canon_world : (w : WorldValue) → IsWorld w → world_of (canon_lines w) ≡ Ok w
unfolding world
canon_world w h =
    let lines : lines_of (canon w) ≡ canon_lines w = ap without_last_empty (ap texts_of (sym (append_none (canon w))) ∙ canon_texts w [] h) ∙ no_last (canon_lines w) in
    ap world_of (sym lines) ∙ world_again w h

-- the whole
record_texts : (w : WorldValue) (lines : List Line) (e : End) → IsWorld w → AllByRecursion IsLine lines
    → texts_of (record_text w lines e) ≡ canon_lines w ++ record_word ∷ (map line_body lines ++ end_text e ∷ [] ∷ [])
unfolding record_text
record_texts w lines e h g =
    canon_texts w (ended_line record_word ++ (lines_text lines ++ ended_line (end_text e))) h
    ∙ ap (λ (ts : List (List ℕ)). canon_lines w ++ record_word ∷ ts) (texts_ended line_body lines (ended_line (end_text e)) (audit_lines_unbroken lines g)
    ∙ ap (λ (ts : List (List ℕ)). map line_body lines ++ ts) (last e))
  where
    last : (e : End) → texts_of (ended_line (end_text e)) ≡ end_text e ∷ [] ∷ []
    last end.Done = refl
    last end.Stuck = refl
    last end.Limit = refl

pub record_again : (w : WorldValue) (lines : List Line) (e : End) → IsWorld w → All IsLine lines → audit (record_text w lines e) ≡ Ok (audited w (events lines e))
unfolding audit
record_again w lines e h g =
    let all = recursion_from_All IsLine lines g in
    let behind = map line_body lines ++ end_text e ∷ [] ∷ [] in
    ap (λ (ts : List (List ℕ)). audit_cut (cut_at_record ts)) (record_texts w lines e h all)
    ∙ ap audit_cut (cut_there (canon_lines w) behind (mapped spell_line (λ t. not (is_record t)) (script_lines (syntax_of w)) (script_other (syntax_of w))))
    ∙ rw (canon_world w h, events_told lines e (length (canon_lines w) + 1 + 1) all) refl

-- so the text tells them
pub record_is_of_one : (w v : WorldValue) (lines more : List Line) (e f : End) → IsWorld w → IsWorld v → All IsLine lines → All IsLine more
    → record_text w lines e ≡ record_text v more f → (w ≡ v) × (lines ≡ more) × (e ≡ f)
record_is_of_one w v lines more e f h k g i same =
    let both : Ok (audited w (events lines e)) ≡ Ok (audited v (events more f)) = sym (record_again w lines e h g) ∙ ap audit same ∙ record_again v more f k i in
    (ap (world_in w) both, ap (lines_in lines) both, ap (end_in e) both)
  where
    world_in : WorldValue → Result Audited Refused → WorldValue
    world_in d (Ok a) = a.world
    world_in d (Err r) = d

    lines_in : List Line → Result Audited Refused → List Line
    lines_in d (Ok a) = a.lines
    lines_in d (Err r) = d

    end_in : End → Result Audited Refused → End
    end_in d (Ok a) = a.end
    end_in d (Err r) = d
