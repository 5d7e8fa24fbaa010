-- The text of a line, cut at its arrow and at its spaces.
use Rattle.std.proofs.Common.{◌≡◌, ℕ, ◌+◌, ◌-◌, ◌==◌, Bool, true, false, List, [], ◌∷◌, ◌++◌, length, map, take, drop, refl, sym, ap, subst, ◌∙◌, arith, ◌||◌, not, Option, Some}
use Rattle.std.proofs.Common.{None, Ok, Err}
use Rattle.std.specs.Prelude.{nat_eq, MatchOption, IfSome, IfNone}
use Rattle.hk_format.specs.declared.causes.ParseCause.{ParseCause}
use Rattle.std.specs.List.{AllByRecursion, list_all, list_any, slice_split, join_with_byte}
use Rattle.std.specs.Fmt.{decimal}
use Rattle.std.specs.Cmp.Lexicographic.{pointwise}
use Rattle.std.proofs.lemmas.Bool.{false≢true}
use Rattle.std.proofs.lemmas.List.{take-append-drop, length-append}
use Rattle.std.proofs.Math.Seq.{drop-append_seam}
use Rattle.std.proofs.lemmas.List.Splits.{join_with_byte-slice_split}
use mathlib.Core.List.{append_assoc}
use Rattle.hk_model.specs.declared.calls.Reply.{Reply}
use Rattle.hk_model.specs.declared.lines.Line.{Line}
use Rattle.hk_model.specs.Labels.{same_text}
use Rattle.hk_format.specs.Pieces.{Piece, Number, spell}
use Rattle.hk_format.specs.Texts.{is_none}
use Rattle.hk_format.specs.LineReading.{event_line, reply_line, line_with}
use Rattle.hk_format.specs.AuditLines.{what_pieces, event_pieces, reply_pieces, arrow, line_body, line_text}
use Rattle.hk_format.specs.LineRanges.{IsLine}
use Rattle.hk_format.proofs.Cutting.{all_joined, none_of, split_at, split_none, split_joined}
use Rattle.hk_format.proofs.LineAgain.{same_is}
use Rattle.hk_text.proofs.Turns.{cut_turn}
use Rattle.hk_audit.specs.TextPieces.{seen}
use Rattle.hk_audit.specs.Halves.{halves_text, HasNoArrow}
use Rattle.hk_audit.proofs.Spelled.{same_self}
use Rattle.hk_audit.proofs.Clear.{Clear, clear_event, clear_reply, clear_texts}
use Rattle.hk_audit.proofs.LinesAgain.{event_again, reply_again}
use Rattle.hk_audit.proofs.SeenFits.{seen_forms}
use Rattle.hk_audit.proofs.Sound.{sound_event, sound_reply}

-- texts that end or begin so

pub ends_so : (text end t : List ℕ) → pointwise nat_eq (drop (length text - length end) text) end ≡ true → t ≡ take (length text - length end) text → t ++ end ≡ text
ends_so text end t h e =
    let same = same_is (drop (length text - length end) text) end h in
    rw e (ap (λ (u : List ℕ). take (length text - length end) text ++ u) (sym same) ∙ take-append-drop (length text - length end) text)

-- the last of a text
last_of_text : (t end : List ℕ) → drop (length (t ++ end) - length end) (t ++ end) ≡ end
last_of_text t end =
    let size = length-append t end in
    let front : length (t ++ end) - length end ≡ length t = omega arith in
    rw front (drop-append_seam t end)

pub ends_otherwise : (text end t : List ℕ) → pointwise nat_eq (drop (length text - length end) text) end ≡ false → t ++ end ≡ text → ⊥
ends_otherwise text end t h e =
    let same : drop (length text - length end) text ≡ end = subst (λ (u : List ℕ). drop (length u - length end) u ≡ end) e (last_of_text t end) in
    let yes-1 : same_text (drop (length text - length end) text) end ≡ true = subst (λ (u : List ℕ). same_text u end ≡ true) (sym same) (same_self end) in
    false≢true (sym h ∙ yes-1)

-- two texts round one arrow

pub cut_halves : (a b : List ℕ) → HasNoArrow a → HasNoArrow b → slice_split (λ c. c == 62) (halves_text a b) ≡ (a ++ 32 ∷ 45 ∷ []) ∷ (32 ∷ b) ∷ []
cut_halves a b ha hb =
    let whole : halves_text a b ≡ (a ++ 32 ∷ 45 ∷ []) ++ 62 ∷ 32 ∷ b = sym (append_assoc a (32 ∷ 45 ∷ []) (62 ∷ 32 ∷ b)) in
    ap (slice_split (λ c. c == 62)) whole
    ∙ split_at (λ c. c == 62) (a ++ 32 ∷ 45 ∷ []) 62 (32 ∷ b) (none a ha) refl
    ∙ ap (λ (ts : List (List ℕ)). (a ++ 32 ∷ 45 ∷ []) ∷ ts) (split_none (λ c. c == 62) (32 ∷ b) hb)
  where
    none : (t : List ℕ) → HasNoArrow t → HasNoArrow (t ++ 32 ∷ 45 ∷ [])
    none [] h = refl
    none (c ∷ cs) h = go (c == 62) h (none cs)
      where
        go : (x : Bool) → (x || list_any (λ d. d == 62) cs) ≡ false → (HasNoArrow cs → HasNoArrow (cs ++ 32 ∷ 45 ∷ []))
            → (x || list_any (λ d. d == 62) (cs ++ 32 ∷ 45 ∷ [])) ≡ false
        go true k more = absurd (false≢true (sym k))
        go false k more = more k

-- the parts are those of a text that has such halves
pub halves_parts : (body x y a b : List ℕ) → slice_split (λ c. c == 62) body ≡ x ∷ y ∷ [] → HasNoArrow a → HasNoArrow b → halves_text a b ≡ body
    → (a ++ 32 ∷ 45 ∷ [] ≡ x) × (32 ∷ b ≡ y)
halves_parts body x y a b cut ha hb e =
    let both : (a ++ 32 ∷ 45 ∷ []) ∷ (32 ∷ b) ∷ [] ≡ x ∷ y ∷ [] = sym (cut_halves a b ha hb) ∙ ap (slice_split (λ c. c == 62)) e ∙ cut in
    (ap (first_text []) both, ap (second_text []) both)
  where
    first_text : List ℕ → List (List ℕ) → List ℕ
    first_text d [] = d
    first_text d (t ∷ ts) = t

    second_text : List ℕ → List (List ℕ) → List ℕ
    second_text d [] = d
    second_text d (t ∷ ts) = first_text d ts

pub halves_join : (body x y a b : List ℕ) → slice_split (λ c. c == 62) body ≡ x ∷ y ∷ [] → a ++ 32 ∷ 45 ∷ [] ≡ x → 32 ∷ b ≡ y → halves_text a b ≡ body
halves_join body x y a b cut e f =
    sym (append_assoc a (32 ∷ 45 ∷ []) (62 ∷ 32 ∷ b)) ∙ rw (e, f) (sym (ap (join_with_byte 62) cut) ∙ join_with_byte-slice_split 62 body)

-- before the end that both have
same_front : (a b end : List ℕ) → a ++ end ≡ b ++ end → a ≡ b
same_front a b end e = sym (front a) ∙ ap (λ (t : List ℕ). take (length t - length end) t) e ∙ front b
  where
    front : (t : List ℕ) → take (length (t ++ end) - length end) (t ++ end) ≡ t
    front t =
        let size = length-append t end in
        let most : length (t ++ end) - length end ≡ length t = omega arith in
        rw most (seam t)
      where
        seam : (u : List ℕ) → take (length u) (u ++ end) ≡ u
        seam [] = refl
        seam (c ∷ cs) = ap (λ (v : List ℕ). c ∷ v) (seam cs)

pub halves_only : (body x y a b c d : List ℕ) → slice_split (λ e. e == 62) body ≡ x ∷ y ∷ [] → c ++ 32 ∷ 45 ∷ [] ≡ x → 32 ∷ d ≡ y → HasNoArrow a → HasNoArrow b
    → halves_text a b ≡ body → (a ≡ c) × (b ≡ d)
halves_only body x y a b c d cut e f ha hb whole =
    let parts = halves_parts body x y a b cut ha hb whole in
    (same_front a c (32 ∷ 45 ∷ []) (parts.0 ∙ sym e), ap (drop 1) (parts.1 ∙ sym f))

-- no halves

pub parts_none : (body a b : List ℕ) → ((x y : List ℕ) → slice_split (λ c. c == 62) body ≡ x ∷ y ∷ [] → ⊥) → HasNoArrow a → HasNoArrow b → halves_text a b ≡ body → ⊥
parts_none body a b none ha hb e = none (a ++ 32 ∷ 45 ∷ []) (32 ∷ b) (sym (ap (slice_split (λ c. c == 62)) e) ∙ cut_halves a b ha hb)

-- texts, an arrow, and texts

join_arrow : (x : List ℕ) (xs : List (List ℕ)) (y : List ℕ) (ys : List (List ℕ))
    → join_with_byte 32 ((x ∷ xs) ++ arrow ∷ y ∷ ys) ≡ halves_text (join_with_byte 32 (x ∷ xs)) (join_with_byte 32 (y ∷ ys))
join_arrow x [] y ys = refl
join_arrow x (z ∷ zs) y ys =
    ap (λ (t : List ℕ). x ++ 32 ∷ t) (join_arrow z zs y ys) ∙ sym (append_assoc x (32 ∷ join_with_byte 32 (z ∷ zs)) (32 ∷ 45 ∷ 62 ∷ 32 ∷ join_with_byte 32 (y ∷ ys)))

-- texts of which one at least is cut from a text
joined_cuts : (a b : List ℕ) → join_with_byte 32 (slice_split (λ c. c == 32) a ++ arrow ∷ slice_split (λ c. c == 32) b) ≡ halves_text a b
joined_cuts a b =
    go (slice_split (λ c. c == 32) a) (cut_turn (λ c. c == 32) a) (slice_split (λ c. c == 32) b) (cut_turn (λ c. c == 32) b) (join_with_byte-slice_split 32 a)
    (join_with_byte-slice_split 32 b)
  where
    go : (xs : List (List ℕ)) {x : List ℕ} {more : List (List ℕ)} → xs ≡ x ∷ more → (ys : List (List ℕ)) {y : List ℕ} {others : List (List ℕ)} → ys ≡ y ∷ others
        → join_with_byte 32 xs ≡ a → join_with_byte 32 ys ≡ b → join_with_byte 32 (xs ++ arrow ∷ ys) ≡ halves_text a b
    go [] e ys f j k = absurd (false≢true (sym (ap is_none e)))
    go (x ∷ xs) e [] f j k = absurd (false≢true (sym (ap is_none f)))
    go (x ∷ xs) e (y ∷ ys) f j k = join_arrow x xs y ys ∙ ap (λ (t : List ℕ). halves_text t (join_with_byte 32 (y ∷ ys))) j ∙ ap (halves_text a) k

body_is : (l : Line) (es rs : List (List ℕ)) → es ≡ map spell (event_pieces l) → rs ≡ map spell (reply_pieces l.reply) → join_with_byte 32 (es ++ arrow ∷ rs) ≡ line_body l
unfolding line_body
body_is l es rs e f =
    ap (λ (ts : List (List ℕ)). join_with_byte 32 (ts ++ arrow ∷ rs)) e ∙ ap (λ (ts : List (List ℕ)). join_with_byte 32 (map spell (event_pieces l) ++ arrow ∷ ts)) f

-- what was read of both halves is the line of the whole
pub line_found : (body a b : List ℕ) (g : Reply → Line) (r : Reply) (left right : List Piece) → halves_text a b ≡ body
    → event_line (map seen (slice_split (λ c. c == 32) a)) ≡ Ok (g, left) → reply_line (map seen (slice_split (λ c. c == 32) b)) ≡ Ok (r, right)
    → IsLine (g r) × (line_body (g r) ≡ body)
line_found body a b g r left right whole first second =
    let event = (sound_event seen_forms).sound (slice_split (λ c. c == 32) a) g left first in
    let answer = (sound_reply seen_forms).sound (slice_split (λ c. c == 32) b) r right second in
    let same = event.0.event r in
    let own = event.0.reply r in (
      event.0.line r answer.0,
      sym (body_is (g r) (slice_split (λ c. c == 32) a) (slice_split (λ c. c == 32) b) (event.1 ∙ ap (λ (ps : List Piece). map spell ps) (sym same))
          (answer.1 ∙ ap (λ (q : Reply). map spell (reply_pieces q)) (sym own))) ∙ joined_cuts a b ∙ whole,
    )

-- the halves of a line's text, and what is read of them
pub record LineHalves (l : Line) : Type 0 where
  pub event : List ℕ
  pub reply : List ℕ
  pub text : halves_text event reply ≡ line_body l
  pub event_free : HasNoArrow event
  pub reply_free : HasNoArrow reply
  pub event_read : event_line (map seen (slice_split (λ c. c == 32) event)) ≡ Ok (line_with l.cpu.0 l.proc.0 l.inc.0 l.what, [])
  pub reply_read : reply_line (map seen (slice_split (λ c. c == 32) reply)) ≡ Ok (l.reply, [])

no_arrow : (ts : List (List ℕ)) → list_all (list_all (λ b. not (b == 62))) ts ≡ true → HasNoArrow (join_with_byte 32 ts)
no_arrow ts h = none_of (λ b. not (b == 62)) (λ b. b == 62) (λ b k. grind (arith)) (join_with_byte 32 ts) (all_joined (λ b. not (b == 62)) 32 ts h refl)

pub line_halves : (l : Line) → IsLine l → LineHalves l
unfolding line_body
line_halves l h = go (reply_pieces l.reply) refl (clear_reply l.reply h.reply) (reply_again l.reply h.reply)
  where
    go : (ps : List Piece) → reply_pieces l.reply ≡ ps → AllByRecursion Clear ps → reply_line ps ≡ Ok (l.reply, []) → LineHalves l
    go [] same c e = cc
    go (p ∷ ps) same c e =
        let first = clear_texts (event_pieces l) (clear_event l h) in
        let second = clear_texts (p ∷ ps) c in
        let cut-1 : slice_split (λ c. c == 32) (join_with_byte 32 (map spell (event_pieces l))) ≡ map spell (event_pieces l) =
        split_joined (λ c. c == 32) 32 (decimal l.cpu.0) (map spell (Number l.proc.0 ∷ Number l.inc.0 ∷ what_pieces l.what)) first.free refl in
        let cut-2 : slice_split (λ c. c == 32) (join_with_byte 32 (map spell (p ∷ ps))) ≡ map spell (p ∷ ps) =
        split_joined (λ c. c == 32) 32 (spell p) (map spell ps) second.free refl in
        record {
          event = join_with_byte 32 (map spell (event_pieces l));
          reply = join_with_byte 32 (map spell (p ∷ ps));
          text = rw same (sym (join_arrow (decimal l.cpu.0) (map spell (Number l.proc.0 ∷ Number l.inc.0 ∷ what_pieces l.what)) (spell p) (map spell ps)));
          event_free = no_arrow (map spell (event_pieces l)) first.plain;
          reply_free = no_arrow (map spell (p ∷ ps)) second.plain;
          event_read = ap (λ (ts : List (List ℕ)). event_line (map seen ts)) cut-1 ∙ ap event_line first.seen ∙ event_again l h;
          reply_read = ap (λ (ts : List (List ℕ)). reply_line (map seen ts)) cut-2 ∙ ap reply_line second.seen ∙ e;
        }

-- answers of what is stripped

pub stripped_end : {X : Type 0} (view : X → List ℕ) (r : Option X) (text end : List ℕ)
    → MatchOption r (pointwise nat_eq (drop (length text - length end) text) end ≡ false) (λ x. (pointwise nat_eq (drop (length text - length end) text) end ≡ true)
    × (view x ≡ take (length text - length end) text) × (length (view x) + length end ≡ length text))
    → IfSome r (λ x. view x ++ end ≡ text) × IfNone r ((t : List ℕ) → t ++ end ≡ text → ⊥)
stripped_end view (Some x) text end h = (ends_so text end (view x) h.0 h.1, tt)
stripped_end view None text end h = (tt, λ t e. ends_otherwise text end t h e)

begins_so : (text start t : List ℕ) → pointwise nat_eq (take (length start) text) start ≡ true → t ≡ drop (length start) text → start ++ t ≡ text
begins_so text start t h e =
    let same = same_is (take (length start) text) start h in
    rw e (ap (λ (u : List ℕ). u ++ drop (length start) text) (sym same) ∙ take-append-drop (length start) text)

begins_otherwise : (text start t : List ℕ) → pointwise nat_eq (take (length start) text) start ≡ false → start ++ t ≡ text → ⊥
begins_otherwise text start t h e =
    let same : take (length start) text ≡ start = subst (λ (u : List ℕ). take (length start) u ≡ start) e (seam start) in
    let it : same_text (take (length start) text) start ≡ true = subst (λ (u : List ℕ). same_text u start ≡ true) (sym same) (same_self start) in
    false≢true (sym h ∙ it)
  where
    seam : (u : List ℕ) → take (length u) (u ++ t) ≡ u
    seam [] = refl
    seam (c ∷ cs) = ap (λ (v : List ℕ). c ∷ v) (seam cs)

pub stripped_start : {X : Type 0} (view : X → List ℕ) (r : Option X) (text start : List ℕ)
    → MatchOption r (pointwise nat_eq (take (length start) text) start ≡ false) (λ x. (pointwise nat_eq (take (length start) text) start ≡ true)
    × (view x ≡ drop (length start) text) × (length (view x) + length start ≡ length text))
    → IfSome r (λ x. start ++ view x ≡ text) × IfNone r ((t : List ℕ) → start ++ t ≡ text → ⊥)
stripped_start view (Some x) text start h = (begins_so text start (view x) h.0 h.1, tt)
stripped_start view None text start h = (tt, λ t e. begins_otherwise text start t h e)

-- no line where an event or a reply is refused, or no arrow is found

pub event_refused : (a b : List ℕ) (cause : ParseCause) → event_line (map seen (slice_split (λ c. c == 32) a)) ≡ Err cause
    → (l : Line) → IsLine l → HasNoArrow a → HasNoArrow b → line_body l ≡ halves_text a b → ⊥
event_refused a b cause bad l h ha hb e =
    let known = line_halves l h in
    let same = halves_only (halves_text a b) _ _ known.event known.reply a b (cut_halves a b ha hb) refl refl known.event_free known.reply_free (known.text ∙ e) in
    let read : event_line (map seen (slice_split (λ c. c == 32) a)) ≡ Ok (line_with l.cpu.0 l.proc.0 l.inc.0 l.what, []) =
    subst (λ (t : List ℕ). event_line (map seen (slice_split (λ c. c == 32) t)) ≡ Ok (line_with l.cpu.0 l.proc.0 l.inc.0 l.what, [])) same.0 known.event_read in
    let both : Err cause ≡ Ok (line_with l.cpu.0 l.proc.0 l.inc.0 l.what, []) = sym bad ∙ read in
    cc

pub reply_refused : (a b : List ℕ) (cause : ParseCause) → reply_line (map seen (slice_split (λ c. c == 32) b)) ≡ Err cause
    → (l : Line) → IsLine l → HasNoArrow a → HasNoArrow b → line_body l ≡ halves_text a b → ⊥
reply_refused a b cause bad l h ha hb e =
    let known = line_halves l h in
    let same = halves_only (halves_text a b) _ _ known.event known.reply a b (cut_halves a b ha hb) refl refl known.event_free known.reply_free (known.text ∙ e) in
    let read : reply_line (map seen (slice_split (λ c. c == 32) b)) ≡ Ok (l.reply, []) = subst
    (λ (t : List ℕ). reply_line (map seen (slice_split (λ c. c == 32) t)) ≡ Ok (l.reply, [])) same.1 known.reply_read in
    let both : Err cause ≡ Ok (l.reply, []) = sym bad ∙ read in
    cc

pub line_refused : (body a b : List ℕ) → ((c d : List ℕ) → HasNoArrow c → HasNoArrow d → halves_text c d ≡ body → (c ≡ a) × (d ≡ b)) → halves_text a b ≡ body
    → ((l : Line) → IsLine l → HasNoArrow a → HasNoArrow b → line_body l ≡ halves_text a b → ⊥) → (l : Line) → IsLine l → line_body l ≡ body → ⊥
line_refused body a b only whole none l h e =
    let known = line_halves l h in
    let same = only known.event known.reply known.event_free known.reply_free (known.text ∙ e) in
    none l h (subst HasNoArrow same.0 known.event_free) (subst HasNoArrow same.1 known.reply_free) (e ∙ sym whole)

pub halves_refused : (body : List ℕ) → ((a b : List ℕ) → HasNoArrow a → HasNoArrow b → halves_text a b ≡ body → ⊥) → (l : Line) → IsLine l → line_body l ≡ body → ⊥
halves_refused body none l h e = let known = line_halves l h in none known.event known.reply known.event_free known.reply_free (known.text ∙ e)

-- answers for a body, and for a whole line

pub body_none : (r : Option Line) (body a b : List ℕ) → ((c d : List ℕ) → HasNoArrow c → HasNoArrow d → halves_text c d ≡ body → (c ≡ a) × (d ≡ b)) → halves_text a b ≡ body
    → IfNone r ((l : Line) → IsLine l → HasNoArrow a → HasNoArrow b → line_body l ≡ halves_text a b → ⊥) → IfNone r ((l : Line) → IsLine l → line_body l ≡ body → ⊥)
body_none (Some x) body a b only whole none = tt
body_none None body a b only whole none = line_refused body a b only whole none

pub text_some : (r : Option Line) (body bytes : List ℕ) → body ++ 10 ∷ [] ≡ bytes → IfSome r (λ l. IsLine l × (line_body l ≡ body))
    → IfSome r (λ l. IsLine l × (line_text l ≡ bytes))
text_some (Some l) body bytes e h = (h.0, ap (λ (t : List ℕ). t ++ 10 ∷ []) h.1 ∙ e)
text_some None body bytes e h = tt

pub text_none : (r : Option Line) (body bytes : List ℕ) → body ++ 10 ∷ [] ≡ bytes → IfNone r ((l : Line) → IsLine l → line_body l ≡ body → ⊥)
    → IfNone r ((l : Line) → IsLine l → line_text l ≡ bytes → ⊥)
text_none (Some l) body bytes e h = tt
text_none None body bytes e h = λ l k f. h l k (same_front (line_body l) body (10 ∷ []) (f ∙ sym e))

-- answers for halves, by the texts on both sides
pub stripped_some : {X : Type 0} (event reply : X → List ℕ) (r : Option X) (body x y : List ℕ) → slice_split (λ c. c == 62) body ≡ x ∷ y ∷ []
    → IfSome r (λ f. (event f ++ 32 ∷ 45 ∷ [] ≡ x) × (32 ∷ reply f ≡ y)) → IfSome r (λ f. halves_text (event f) (reply f) ≡ body)
stripped_some event reply (Some f) body x y cut h = halves_join body x y (event f) (reply f) cut h.0 h.1
stripped_some event reply None body x y cut h = tt

pub stripped_only : {X : Type 0} (event reply : X → List ℕ) (r : Option X) (body x y : List ℕ) → slice_split (λ c. c == 62) body ≡ x ∷ y ∷ []
    → IfSome r (λ f. (event f ++ 32 ∷ 45 ∷ [] ≡ x) × (32 ∷ reply f ≡ y)) → IfSome r (λ f. (a b : List ℕ) → HasNoArrow a → HasNoArrow b → halves_text a b ≡ body
    → (a ≡ event f) × (b ≡ reply f))
stripped_only event reply (Some f) body x y cut h = λ a b ha hb e. halves_only body x y a b (event f) (reply f) cut h.0 h.1 ha hb e
stripped_only event reply None body x y cut h = tt

pub stripped_none : {X : Type 0} (r : Option X) (body x y : List ℕ) → slice_split (λ c. c == 62) body ≡ x ∷ y ∷ []
    → IfNone r ((a b : List ℕ) → a ++ 32 ∷ 45 ∷ [] ≡ x → 32 ∷ b ≡ y → ⊥) → IfNone r ((a b : List ℕ) → HasNoArrow a → HasNoArrow b → halves_text a b ≡ body → ⊥)
stripped_none (Some f) body x y cut h = tt
stripped_none None body x y cut h = λ a b ha hb e. let parts = halves_parts body x y a b cut ha hb e in h a b parts.0 parts.1
