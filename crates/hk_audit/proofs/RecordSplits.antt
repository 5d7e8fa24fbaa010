-- A record, cut where its script ends.
use Rattle.std.proofs.Common.{◌≡◌, ℕ, suc, ◌+◌, ◌-◌, ◌<◌, ◌≤◌, Bool, true, false, cond, eqb, ltb, List, [], ◌∷◌, ◌++◌, length, refl, sym, ap, subst, ◌∙◌, arith, take, drop, Some}
use Rattle.std.proofs.Common.{None, not}
use Rattle.std.specs.List.{slice_range, position_or_len, join_with_byte, list_any, list_all, onto_first}
use Rattle.std.proofs.lemmas.Bool.{false≢true, le-ltb, and_parts}
use Rattle.std.proofs.lemmas.List.{take_all, drop_all, length-drop, length-take}
use Rattle.std.proofs.lemmas.List.Splits.{join_with_byte-slice_split}
use Rattle.hk_format.specs.Records.{record_word}
use Rattle.hk_format.specs.Texts.{is_none, lines_of, without_last_empty}
use Rattle.hk_format.specs.Audits.{cut, cut_at_record, is_record, last_cut, one_more}
use Rattle.hk_format.proofs.Cutting.{split_at, split_none, split_joined}
use Rattle.hk_format.proofs.LineAgain.{same_is}
use Rattle.hk_audit.specs.RecordCuts.{texts_of, script_length, behind_first}
use Rattle.hk_audit.proofs.Cuts.{left_next}

-- no line feed stands in these texts
abbrev have_none : List (List ℕ) → Bool
have_none ts = list_all (λ t. not (list_any (λ b. eqb b 10) t)) ts

parts_have_none : (bytes : List ℕ) → have_none (texts_of bytes) ≡ true
parts_have_none [] = refl
parts_have_none (b ∷ bytes) = go (eqb b 10) refl (texts_of bytes) (parts_have_none bytes)
  where
    go : (x : Bool) → eqb b 10 ≡ x → (ts : List (List ℕ)) → have_none ts ≡ true → have_none (cond x ([] ∷ ts) (onto_first b ts)) ≡ true
    go true e ts h = h
    go false e [] h = rw e
    go false e (t ∷ ts) h = rw e h

pub texts_some : (bytes : List ℕ) → is_none (texts_of bytes) ≡ false
texts_some [] = refl
texts_some (b ∷ bytes) = go (eqb b 10) (texts_of bytes)
  where
    go : (x : Bool) (ts : List (List ℕ)) → is_none (cond x ([] ∷ ts) (onto_first b ts)) ≡ false
    go true ts = refl
    go false [] = refl
    go false (t ∷ ts) = refl

-- a text, a line feed, and what follows

lines_first : (x rest : List ℕ) → list_any (λ b. eqb b 10) x ≡ false → lines_of (x ++ 10 ∷ rest) ≡ x ∷ lines_of rest
lines_first x rest h = ap without_last_empty (split_at (λ b. eqb b 10) x 10 rest h refl) ∙ go (texts_of rest) (texts_some rest)
  where
    go : (ts : List (List ℕ)) → is_none ts ≡ false → without_last_empty (x ∷ ts) ≡ x ∷ without_last_empty ts
    go [] e = absurd (false≢true (sym e))
    go (t ∷ ts) e = refl

one_line : (x : List ℕ) → list_any (λ b. eqb b 10) x ≡ false → lines_of x ≡ without_last_empty (x ∷ [])
one_line x h = ap without_last_empty (split_none (λ b. eqb b 10) x h)

take_behind : (x rest : List ℕ) (k : ℕ) → take (length x + 1 + k) (x ++ 10 ∷ rest) ≡ x ++ 10 ∷ take k rest
take_behind [] rest k = let one : 0 + 1 + k ≡ suc k = omega arith in rw one refl
take_behind (b ∷ x) rest k = let more : length (b ∷ x) + 1 + k ≡ suc (length x + 1 + k) = omega arith in rw more (ap (λ (t : List ℕ). b ∷ t) (take_behind x rest k))

drop_behind : (x rest : List ℕ) (k : ℕ) → drop (length x + 1 + k) (x ++ 10 ∷ rest) ≡ drop k rest
drop_behind [] rest k = let one : 0 + 1 + k ≡ suc k = omega arith in rw one refl
drop_behind (b ∷ x) rest k = let more : length (b ∷ x) + 1 + k ≡ suc (length x + 1 + k) = omega arith in rw more (drop_behind x rest k)

pub behind_is : (bytes x : List ℕ) (more : List (List ℕ)) → is_none bytes ≡ false → texts_of bytes ≡ x ∷ more → behind_first bytes ≡ Some more
behind_is [] x more some e = absurd (false≢true (sym some))
behind_is (b ∷ bytes) x more some e = ap (λ (ts : List (List ℕ)). Some (drop 1 ts)) e

-- how texts are cut, and what joins them
record CutSo (ts : List (List ℕ)) (k : ℕ) (bytes : List ℕ) : Type 0 where
  cut_is : cut_at_record ts ≡ cut (lines_of (take k bytes)) (behind_first (drop k bytes))
  lines : lines_of bytes ≡ lines_of (take k bytes) ++ lines_of (drop k bytes)

last_so : (x : List ℕ) → have_none (x ∷ []) ≡ true → CutSo (x ∷ []) (script_length (x ∷ [])) x
last_so x h = go (is_record x) refl
  where
    clear : list_any (λ b. eqb b 10) x ≡ false
    clear = grind arith

    whole : (t : List ℕ) → last_cut t ≡ cut (without_last_empty (t ∷ [])) None
    whole [] = refl
    whole (b ∷ t) = refl

    more : length x ≤ length x + 1 + 0
    more = omega arith

    at_end : (t : List ℕ) → t ≡ t ++ []
    at_end [] = refl
    at_end (b ∷ t) = ap (λ (u : List ℕ). b ∷ u) (at_end t)

    all_lines : (ts : List (List ℕ)) → ts ≡ ts ++ []
    all_lines [] = refl
    all_lines (t ∷ ts) = ap (λ (us : List (List ℕ)). t ∷ us) (all_lines ts)

    go : (b : Bool) → is_record x ≡ b → CutSo (x ∷ []) (cond b 0 (length x + 1 + 0)) x
    go true e = record {
      cut_is = rw e (ap (λ (t : List ℕ). cut [] (behind_first t)) (sym (same_is x record_word e)));
      lines = refl;
    }
    go false e = record {
      cut_is = rw (e, take_all (length x + 1 + 0) x more, drop_all (length x + 1 + 0) x more, one_line x clear) (whole x);
      lines = rw (take_all (length x + 1 + 0) x more, drop_all (length x + 1 + 0) x more) (all_lines (lines_of x));
    }

next_so : (x y : List ℕ) (more : List (List ℕ)) → have_none (x ∷ y ∷ more) ≡ true → CutSo (y ∷ more) (script_length (y ∷ more)) (join_with_byte 10 (y ∷ more))
    → CutSo (x ∷ y ∷ more) (script_length (x ∷ y ∷ more)) (join_with_byte 10 (x ∷ y ∷ more))
next_so x y more h rest = go (is_record x) refl
  where
    clear : list_any (λ b. eqb b 10) x ≡ false
    clear = let parts = and_parts (not (list_any (λ b. eqb b 10) x)) (have_none (y ∷ more)) h in grind (arith, parts.0)

    joined : List ℕ
    joined = join_with_byte 10 (y ∷ more)

    some : (t : List ℕ) → is_none (t ++ 10 ∷ joined) ≡ false
    some [] = refl
    some (b ∷ t) = refl

    go : (b : Bool) → is_record x ≡ b → CutSo (x ∷ y ∷ more) (cond b 0 (length x + 1 + script_length (y ∷ more))) (x ++ 10 ∷ joined)
    go true e = record {
      cut_is = rw e (ap (cut []) (sym (behind_is (x ++ 10 ∷ joined) x (y ∷ more) (some x) (split_joined (λ b. eqb b 10) 10 x (y ∷ more) h refl))));
      lines = refl;
    }
    go false e =
        let front = take_behind x joined (script_length (y ∷ more)) in
        let back = drop_behind x joined (script_length (y ∷ more)) in
        record {
          cut_is = rw (e, front, back, lines_first x (take (script_length (y ∷ more)) joined) clear) (ap (one_more x) rest.cut_is);
          lines = rw (front, back, lines_first x (take (script_length (y ∷ more)) joined) clear, lines_first x joined clear) (ap (λ (ts : List (List ℕ)). x ∷ ts) rest.lines);
        }

cut_so : (x : List ℕ) (more : List (List ℕ)) → have_none (x ∷ more) ≡ true → CutSo (x ∷ more) (script_length (x ∷ more)) (join_with_byte 10 (x ∷ more))
cut_so x [] h = last_so x h
cut_so x (y ∷ more) h = next_so x y more h (cut_so y more (and_parts (not (list_any (λ b. eqb b 10) x)) (have_none (y ∷ more)) h).1)

bytes_so : (bytes : List ℕ) → CutSo (texts_of bytes) (script_length (texts_of bytes)) bytes
bytes_so bytes = go (texts_of bytes) (parts_have_none bytes) (texts_some bytes) (join_with_byte-slice_split 10 bytes)
  where
    go : (ts : List (List ℕ)) → have_none ts ≡ true → is_none ts ≡ false → join_with_byte 10 ts ≡ bytes → CutSo ts (script_length ts) bytes
    go [] h some e = absurd (false≢true (sym some))
    go (x ∷ more) h some e = subst (CutSo (x ∷ more) (script_length (x ∷ more))) e (cut_so x more h)

-- one turn of a walk over the lines

-- the texts from this place on, and none where it is past the end
abbrev pub texts_at : ℕ → List ℕ → List (List ℕ)
texts_at at bytes = cond (ltb (length bytes) at) [] (texts_of (drop at bytes))

-- the place behind the next line feed, or the end
abbrev pub FirstFeed : List ℕ → ℕ → ℕ → Type 0
FirstFeed bytes start len = len ≡ position_or_len (λ b. eqb b 10) (slice_range bytes start (length bytes))

texts_turn : (bytes : List ℕ) (start len : ℕ) → start < length bytes → FirstFeed bytes start len
    → texts_at start bytes ≡ slice_range bytes start (start + len) ∷ texts_at (start + (len + 1)) bytes
texts_turn bytes start len inside place =
    let low : ltb (length bytes) start ≡ false = le-ltb _ _ (omega arith) in
    let size = length-drop start bytes in
    let whole : take (length bytes - start) (drop start bytes) ≡ drop start bytes = take_all (length bytes - start) (drop start bytes) (omega arith) in
    let first : start + len - start ≡ len = omega arith in
    left_next bytes 10 start len low place ∙ rw (whole, first)

pub record_here : (bytes : List ℕ) (start len : ℕ) → start < length bytes → FirstFeed bytes start len → is_record (slice_range bytes start (start + len)) ≡ true
    → script_length (texts_at start bytes) ≡ 0
record_here bytes start len inside place e =
    ap script_length (texts_turn bytes start len inside place)
    ∙ ap (λ (b : Bool). cond b 0 (length (slice_range bytes start (start + len)) + 1 + script_length (texts_at (start + (len + 1)) bytes))) e

pub line_passed : (bytes : List ℕ) (start len total : ℕ) → start < length bytes → FirstFeed bytes start len → len ≤ length (slice_range bytes start (length bytes))
    → is_record (slice_range bytes start (start + len)) ≡ false
    → start + script_length (texts_at start bytes) ≡ total → start + (len + 1) + script_length (texts_at (start + (len + 1)) bytes) ≡ total
line_passed bytes start len total inside place within e h =
    let turn = ap script_length (texts_turn bytes start len inside place)
    ∙ ap (λ (b : Bool). cond b 0 (length (slice_range bytes start (start + len)) + 1 + script_length (texts_at (start + (len + 1)) bytes))) e in
    let whole = length-take (length bytes - start) (drop start bytes) in
    let size = length-take (start + len - start) (drop start bytes) in
    omega (arith, turn, h)

-- where the script ends

pub ends_at : (bytes : List ℕ) (k : ℕ) → k ≡ script_length (texts_of bytes)
    → (cut_at_record (texts_of bytes) ≡ cut (lines_of (take k bytes)) (behind_first (drop k bytes))) × (lines_of bytes ≡ lines_of (take k bytes) ++ lines_of (drop k bytes))
ends_at bytes k e = let so = bytes_so bytes in rw e (so.cut_is, so.lines)

pub ends_nowhere : (bytes : List ℕ) (k : ℕ) → k ≡ length bytes → k ≤ script_length (texts_of bytes)
    → (cut_at_record (texts_of bytes) ≡ cut (lines_of (take k bytes)) (behind_first (drop k bytes))) × (lines_of bytes ≡ lines_of (take k bytes) ++ lines_of (drop k bytes))
ends_nowhere bytes k e h =
    let so = bytes_so bytes in
    let front : take (script_length (texts_of bytes)) bytes ≡ take k bytes = take_all _ bytes (omega arith) ∙ sym (take_all k bytes (omega arith)) in
    let back : drop (script_length (texts_of bytes)) bytes ≡ drop k bytes = drop_all _ bytes (omega arith) ∙ sym (drop_all k bytes (omega arith)) in
    rw (← front, ← back) (so.cut_is, so.lines)
