-- Lines in which each byte may stand.
use Rattle.std.proofs.Common.{◌≡◌, ℕ, suc, ◌+◌, ◌-◌, ◌<◌, ◌≤◌, Bool, true, false, cond, eqb, not, List, [], ◌∷◌, length, get_or, take, drop, refl, sym, ap, ◌∙◌, arith, Err, Result}
use Rattle.std.specs.List.{list_any, position_or_len, slice_range}
use Rattle.std.proofs.lemmas.Bool.Decides.{nat_tests}
use Rattle.std.proofs.lemmas.List.{take_all, length-drop}
use Rattle.hk_format.specs.declared.causes.TextCause.{TextCause}
use Rattle.hk_format.specs.declared.errors.LineError.{LineError}
use Rattle.hk_format.specs.declared.errors.ReadError.TheVariants.{Refused}
use Rattle.hk_format.specs.Outcomes.{error_on, Fails}
use Rattle.hk_format.specs.Pieces as piece
use Rattle.hk_format.specs.Texts.{Lines, is_no_text, lines_of, text_line, text_lines}
use Rattle.hk_text.specs.Outcomes.{first_line}
use Rattle.hk_text.proofs.Turns.{after_lines, line_refused, ahead_refused, line_fails}

-- the place of the first line feed
abbrev feed : List ℕ → ℕ
feed text = position_or_len (λ b. eqb b 10) text

-- all bytes of a line may stand in it, where the first that may not is the line feed behind it, or there is none
pub clean_line : (text : List ℕ) (len : ℕ) → len ≡ position_or_len is_no_text text → (len < length text → get_or text len 0 ≡ 10)
    → (len ≡ feed text) × (list_any is_no_text (first_line text) ≡ false)
clean_line [] len e ends = (e, refl)
clean_line (b ∷ bs) len e ends = by (is_no_text b) refl (eqb b 10) refl e (clean_line bs (position_or_len is_no_text bs) refl)
  where
    by : (bad : Bool) → is_no_text b ≡ bad → (line_feed : Bool) → eqb b 10 ≡ line_feed → len ≡ cond (not bad) (1 + position_or_len is_no_text bs) 0
        → ((position_or_len is_no_text bs < length bs → get_or bs (position_or_len is_no_text bs) 0 ≡ 10)
        → (position_or_len is_no_text bs ≡ feed bs) × (list_any is_no_text (first_line bs) ≡ false))
        → (len ≡ cond (not line_feed) (1 + feed bs) 0) × (list_any is_no_text (take (cond (not line_feed) (1 + feed bs) 0) (b ∷ bs)) ≡ false)
    by true f true g at later = (at, refl)
    by true f false g at later =
        let first : get_or (b ∷ bs) 0 0 ≡ 10 = ap (λ i. get_or (b ∷ bs) i 0) (sym at) ∙ ends (omega (arith, at)) in
        absurd (grind (arith, nat_tests))
    by false f true g at later = absurd (grind (arith, nat_tests))
    by false f false g at later =
        let one : len ≡ suc (position_or_len is_no_text bs) = omega (arith, at) in
        let rest = later (λ more. ap (λ i. get_or (b ∷ bs) i 0) (sym one) ∙ ends (omega (arith, one, more))) in
        let next : 1 + feed bs ≡ suc (feed bs) = omega arith in
        (omega (arith, one, rest.0), rw (next, f) rest.1)

-- some byte of a line may not stand in it, where the first that may not is no line feed
pub bad_line : (text : List ℕ) (len : ℕ) → len ≡ position_or_len is_no_text text → len < length text → (get_or text len 0 ≡ 10 → ⊥) → list_any is_no_text (first_line text) ≡ true
bad_line [] len e more ends = absurd (omega arith)
bad_line (b ∷ bs) len e more ends = by (is_no_text b) refl (eqb b 10) refl e (bad_line bs (position_or_len is_no_text bs) refl)
  where
    by : (bad : Bool) → is_no_text b ≡ bad → (line_feed : Bool) → eqb b 10 ≡ line_feed → len ≡ cond (not bad) (1 + position_or_len is_no_text bs) 0
        → (position_or_len is_no_text bs < length bs → (get_or bs (position_or_len is_no_text bs) 0 ≡ 10 → ⊥) → list_any is_no_text (first_line bs) ≡ true)
        → list_any is_no_text (take (cond (not line_feed) (1 + feed bs) 0) (b ∷ bs)) ≡ true
    by true f true g at later =
        let ten : b ≡ 10 = grind (arith, nat_tests) in
        absurd (ends (ap (λ i. get_or (b ∷ bs) i 0) at ∙ ten))
    by true f false g at later = let next : 1 + feed bs ≡ suc (feed bs) = omega arith in rw (next, f) refl
    by false f true g at later = absurd (grind (arith, nat_tests))
    by false f false g at later =
        let one : len ≡ suc (position_or_len is_no_text bs) = omega (arith, at) in
        let next : 1 + feed bs ≡ suc (feed bs) = omega arith in
        rw (next, f) (later (omega (arith, one, more)) (λ ten. ends (ap (λ i. get_or (b ∷ bs) i 0) one ∙ ten)))

-- the first line behind a place
pub line_from : (source : List ℕ) (start len : ℕ) → start ≤ length source → len ≡ feed (slice_range source start (length source))
    → first_line (slice_range source start (length source)) ≡ slice_range source start (start + len)
line_from source start len inside e =
    let size = length-drop start source in
    let whole : slice_range source start (length source) ≡ drop start source = take_all (length source - start) (drop start source) (omega arith) in
    let few : start + len - start ≡ len = omega arith in
    ap (λ n. take n (slice_range source start (length source))) (sym e) ∙ rw (whole, few) refl

-- the pieces of the first line behind a place
pub read_from : (source : List ℕ) (start len : ℕ) (read : Result (List piece.Piece) TextCause) → start ≤ length source → len ≡ feed (slice_range source start (length source))
    → text_line (first_line (slice_range source start (length source))) ≡ read → text_line (slice_range source start (start + len)) ≡ read
read_from source start len read inside e is = rw (← line_from source start len inside e) is

-- lines before one that is refused
pub bad_lines : (source : List ℕ) (start n : ℕ) (e : LineError TextCause) (front : Lines) (all : Result Lines (ℕ × TextCause)) → start < length source
    → after_lines front (text_lines n (lines_of (drop start source))) ≡ all → Fails e (text_line (first_line (slice_range source start (length source))))
    → (line : ℕ) (cause : TextCause) → error_on n e ≡ Refused line cause → all ≡ Err (line, cause)
bad_lines source start n e front all inside h bad =
    let len = feed (slice_range source start (length source)) in
    line_fails n e all (text_line (first_line (slice_range source start (length source)))) bad
    (λ cause is. line_refused source start n len front cause all inside refl (read_from source start len (Err cause) (omega arith) refl is) h)

pub bad_ahead : (source : List ℕ) (start n : ℕ) (e : LineError TextCause) → start < length source
    → Fails e (text_line (first_line (slice_range source start (length source))))
    → (line : ℕ) (cause : TextCause) → error_on n e ≡ Refused line cause → text_lines n (lines_of (drop start source)) ≡ Err (line, cause)
bad_ahead source start n e inside bad =
    let len = feed (slice_range source start (length source)) in
    line_fails n e (text_lines n (lines_of (drop start source))) (text_line (first_line (slice_range source start (length source)))) bad
    (λ cause is. ahead_refused source start n len cause inside refl (read_from source start len (Err cause) (omega arith) refl is))
