-- A record that is read line by line: how it begins, goes on and ends.
use Rattle.std.proofs.Common.{◌≡◌, ℕ, zero, suc, ◌+◌, ◌-◌, ◌<◌, ◌≤◌, ◌==◌, Bool, true, false, cond, eqb, ltb, List, [], ◌∷◌, ◌++◌, length}
use Rattle.std.proofs.Common.{take, drop, map, Some, refl, sym, ap, ◌∙◌, arith, Result, Ok, Err}
use Rattle.std.specs.List.{join_with_byte, list_any, position_or_len, slice_range}
use Rattle.std.specs.Fmt.{decimal, digits}
use Rattle.std.proofs.lemmas.Bool.{false≢true, ltb-true, ltb-false}
use Rattle.std.proofs.lemmas.List.{drop_all, length-drop, take_all}
use mathlib.Core.List.{append-nil, append_assoc}
use Rattle.hk_model.specs.declared.lines.Line.{Line}
use Rattle.hk_model.specs.declared.lines.End.{End}
use Rattle.hk_model.specs.declared.lines.End.TheVariants as end
use Rattle.hk_model.specs.Refusing.{◌>>=◌}
use Rattle.hk_model.specs.WorldValue.{WorldValue}
use Rattle.hk_format.specs.declared.causes.Cause.{Cause}
use Rattle.hk_format.specs.declared.causes.Cause.TheVariants.{OfParse}
use Rattle.hk_format.specs.declared.causes.ParseCause.TheVariants.{Missing}
use Rattle.hk_format.specs.declared.errors.ReadError.TheVariants as read_error
use Rattle.hk_format.specs.Outcomes.{IsRefused}
use Rattle.hk_format.specs.AuditLines.{arrow, line_body, line_text, reply_pieces, what_pieces}
use Rattle.hk_format.specs.Pieces.{Number, spell}
use Rattle.hk_format.specs.LineRanges.{IsLine}
use Rattle.hk_format.specs.Records.{end_text}
use Rattle.hk_format.specs.Texts.{ended_line, is_none, lines_of}
use Rattle.hk_format.specs.Worlds.{Refused, world}
use Rattle.hk_format.specs.Audits.{Events, audit, audited, events, events_behind, events_from, line_before}
use Rattle.hk_format.proofs.Cutting.{split_at}
use Rattle.hk_text.proofs.Turns.{cut_turn}
use Rattle.hk_audit.specs.Followed.{IsReadTo, cpu_by, digit_at, with_lines}
use Rattle.hk_audit.specs.RecordCuts.{behind_first, texts_of}
use Rattle.hk_audit.proofs.RecordAgain.{line_unbroken, no_end}
use Rattle.hk_audit.proofs.RecordAudits.{Parted, behind_given, behind_refused}
use Rattle.hk_audit.proofs.RecordEvents.{line_told}
use Rattle.hk_audit.proofs.RecordSplits.{behind_is, texts_some}

-- what stands behind the first line of bytes: the rest begins there, and is none where no line feed ends that line
pub behind_left : (bytes left : List ℕ) (len from : ℕ) → eqb (length bytes) 0 ≡ false → len ≡ position_or_len (λ b. b == 10) bytes → len ≤ length bytes
    → (len < length bytes → from ≡ len + 1) → (length bytes ≤ len → from ≡ length bytes) → left ≡ slice_range bytes from (length bytes) → (n : ℕ)
    → events_from (n + 1) (texts_of left) ≡ events_behind n (behind_first bytes)
behind_left bytes left len from some place high within past rest n =
    go (ltb len (length bytes)) refl ∙ sym (ap (events_behind n) (behind_is bytes (take len bytes) _ (whole_some bytes some) turn))
  where
    whole_some : (t : List ℕ) → eqb (length t) 0 ≡ false → is_none t ≡ false
    whole_some [] e = absurd (cc)
    whole_some (b ∷ t) e = refl

    turn : texts_of bytes ≡ take len bytes ∷ cond (ltb len (length bytes)) (texts_of (drop (len + 1) bytes)) []
    turn = rw place (cut_turn (λ b. b == 10) bytes)

    go : (more : Bool) → ltb len (length bytes) ≡ more
        → events_from (n + 1) (texts_of left) ≡ events_from (n + 1) (cond more (texts_of (drop (len + 1) bytes)) [])
    go true e =
        let low = ltb-true _ _ e in
        let f = within low in
        let size = length-drop (len + 1) bytes in
        let left_is : left ≡ drop (len + 1) bytes = rest ∙ rw f (take_all (length bytes - (len + 1)) (drop (len + 1) bytes) (omega arith)) in
        ap (λ (t : List ℕ). events_from (n + 1) (texts_of t)) left_is
    go false e =
        let f = past (ltb-false _ _ e) in
        let left_is : left ≡ [] = rest ∙ rw f (none_taken (length bytes - length bytes) (drop (length bytes) bytes) (drop_all (length bytes) bytes (omega arith))) in
        ap (λ (t : List ℕ). events_from (n + 1) (texts_of t)) left_is
      where
        none_taken : (k : ℕ) (t : List ℕ) → t ≡ [] → take k t ≡ []
        none_taken zero [] e = refl
        none_taken (suc k) [] e = refl
        none_taken k (b ∷ t) e = absurd (cc)

-- the reader begins behind the line `record`
pub read_begins : (bytes script behind left : List ℕ) (w : WorldValue) → Parted bytes script behind → world script ≡ Ok w
    → ((n : ℕ) → events_from (n + 1) (texts_of left) ≡ events_behind n (behind_first behind)) → IsReadTo bytes w [] left
read_begins bytes script behind left w parts good h = record {
  number = length (lines_of script) + 1 + 1;
  told =
      behind_given bytes script behind w parts good ∙ none_before (events_behind (length (lines_of script) + 1) (behind_first behind))
      ∙ ap (with_lines w []) (sym (h (length (lines_of script) + 1)));
}
  where
    none_before : (told : Result Events Refused) → (told >>= λ found. Ok (audited w found)) ≡ with_lines w [] told
    none_before (Ok found) = refl
    none_before (Err refused) = refl

-- the line `record` is missing behind the script
pub missing_there : {X : Type 0} (bytes script behind : List ℕ) (w : WorldValue) (number : ℕ) → Parted bytes script behind → world script ≡ Ok w
    → number ≡ length (lines_of script) → ((n : ℕ) → events_behind n (behind_first behind) ≡ Err (n, OfParse Missing)) → (line : ℕ) (cause : Cause)
    → IsRefused {X = X} (Err (read_error.Refused (number + 1) (OfParse Missing))) line cause → audit bytes ≡ Err (line, cause)
missing_there bytes script behind w number parts good count none line cause e =
    let same : read_error.Refused (number + 1) (OfParse Missing) ≡ read_error.Refused line cause = cc in
    behind_refused bytes script behind w number (read_error.Refused (number + 1) (OfParse Missing)) parts good count (none (number + 1)) line cause same

-- one line more
line_cut : (line : Line) (rest : List ℕ) → IsLine line → texts_of (line_text line ++ rest) ≡ line_body line ∷ texts_of rest
line_cut line rest h =
    let free : list_any (λ b. b == 10) (line_body line) ≡ false = let whole = line_unbroken line h in grind arith in
    ap texts_of (append_assoc (line_body line) (10 ∷ []) rest) ∙ split_at (λ b. b == 10) (line_body line) 10 rest free refl

line_first : (line : Line) (n : ℕ) (ts : List (List ℕ)) → is_none ts ≡ false → IsLine line
    → events_from n (line_body line ∷ ts) ≡ line_before line (events_from (n + 1) ts)
line_first line n [] some h = absurd (false≢true (sym some))
line_first line n (y ∷ more) some h = line_told (line_body line) y more line (no_end line h) (h, refl) n

one_before : (w : WorldValue) (lines : List Line) (line : Line) (told : Result Events Refused)
    → with_lines w lines (line_before line told) ≡ with_lines w (lines ++ line ∷ []) told
one_before w lines line (Ok found) = ap (λ (ls : List Line). Ok (audited w (events ls found.end))) (sym (append_assoc lines (line ∷ []) found.lines))
one_before w lines line (Err refused) = refl

pub read_more : (bytes : List ℕ) (w : WorldValue) (lines : List Line) (line : Line) (old new : List ℕ) → IsLine line → old ≡ line_text line ++ new
    → IsReadTo bytes w lines old → IsReadTo bytes w (lines ++ line ∷ []) new
read_more bytes w lines line old new h e r = record {
  number = r.number + 1;
  told =
      r.told ∙ ap (λ (t : List ℕ). with_lines w lines (events_from r.number (texts_of t))) e
      ∙ ap (λ (ts : List (List ℕ)). with_lines w lines (events_from r.number ts)) (line_cut line new h)
      ∙ ap (with_lines w lines) (line_first line r.number (texts_of new) (texts_some new) h)
      ∙ one_before w lines line (events_from (r.number + 1) (texts_of new));
}

-- the text of the line was written, and the bytes begin with it
pub text_taken : (line : Line) (old left start none text : List ℕ) → start ++ left ≡ old → start ≡ text → text ≡ none ++ line_text line → none ≡ [] → old ≡ line_text line ++ left
text_taken line old left start none text whole is written cleared =
    sym whole ∙ ap (λ (t : List ℕ). t ++ left) (is ∙ written ∙ ap (λ (t : List ℕ). t ++ line_text line) cleared)

-- the end line alone is left
end_told : (e : End) (n : ℕ) → events_from n (texts_of (ended_line (end_text e))) ≡ Ok (events [] e)
end_told end.Done n = refl
end_told end.Stuck n = refl
end_told end.Limit n = refl

pub read_whole : (bytes : List ℕ) (w : WorldValue) (lines : List Line) (e : End) (left : List ℕ) → left ≡ ended_line (end_text e) → IsReadTo bytes w lines left
    → audit bytes ≡ Ok (audited w (events lines e))
read_whole bytes w lines e left is r =
    r.told ∙ ap (λ (t : List ℕ). with_lines w lines (events_from r.number (texts_of t))) is ∙ ap (with_lines w lines) (end_told e r.number)
    ∙ ap (λ (ls : List Line). Ok (audited w (events ls e))) (append-nil lines)

-- the processor of the line with which the bytes begin
digits_told : (n : ℕ) (t : List ℕ) → n < 16 → cpu_by (digit_at (decimal n ++ 32 ∷ t) 0) (digit_at (decimal n ++ 32 ∷ t) 1) ≡ Some (record { 0 = n })
unfolding digits
digits_told zero t h = refl
digits_told (suc zero) t h = refl
digits_told (suc (suc zero)) t h = refl
digits_told (suc (suc (suc zero))) t h = refl
digits_told (suc (suc (suc (suc zero)))) t h = refl
digits_told (suc (suc (suc (suc (suc zero))))) t h = refl
digits_told (suc (suc (suc (suc (suc (suc zero)))))) t h = refl
digits_told (suc (suc (suc (suc (suc (suc (suc zero))))))) t h = refl
digits_told (suc (suc (suc (suc (suc (suc (suc (suc zero)))))))) t h = refl
digits_told (suc (suc (suc (suc (suc (suc (suc (suc (suc zero))))))))) t h = refl
digits_told (suc (suc (suc (suc (suc (suc (suc (suc (suc (suc zero)))))))))) t h = refl
digits_told (suc (suc (suc (suc (suc (suc (suc (suc (suc (suc (suc zero))))))))))) t h = refl
digits_told (suc (suc (suc (suc (suc (suc (suc (suc (suc (suc (suc (suc zero)))))))))))) t h = refl
digits_told (suc (suc (suc (suc (suc (suc (suc (suc (suc (suc (suc (suc (suc zero))))))))))))) t h = refl
digits_told (suc (suc (suc (suc (suc (suc (suc (suc (suc (suc (suc (suc (suc (suc zero)))))))))))))) t h = refl
digits_told (suc (suc (suc (suc (suc (suc (suc (suc (suc (suc (suc (suc (suc (suc (suc zero))))))))))))))) t h = refl
digits_told (suc (suc (suc (suc (suc (suc (suc (suc (suc (suc (suc (suc (suc (suc (suc (suc n)))))))))))))))) t h = absurd (omega arith)

number_first : (line : Line) (rest : List ℕ) → (t : List ℕ) × (line_text line ++ rest ≡ decimal line.cpu.0 ++ 32 ∷ t)
unfolding line_body
number_first line rest =
    let more = join_with_byte 32 (map spell (Number line.proc.0 ∷ Number line.inc.0 ∷ what_pieces line.what) ++ arrow ∷ map spell (reply_pieces line.reply)) in (
      (more ++ 10 ∷ []) ++ rest,
      ap (λ (t : List ℕ). t ++ rest) (append_assoc (decimal line.cpu.0) (32 ∷ more) (10 ∷ [])) ∙ append_assoc (decimal line.cpu.0) (32 ∷ (more ++ 10 ∷ [])) rest,
    )

pub cpu_found : (line : Line) (rest bytes : List ℕ) → IsLine line → bytes ≡ line_text line ++ rest → cpu_by (digit_at bytes 0) (digit_at bytes 1) ≡ Some line.cpu
cpu_found line rest bytes h e =
    let w = number_first line rest in
    rw (e, w.1) (digits_told line.cpu.0 w.0 h.cpu)
