-- Where the text of a line ends.
use Rattle.std.proofs.Common.{◌≡◌, ℕ, suc, ◌+◌, ◌<◌, ◌≤◌, Bool, true, false, cond, eqb, not, ◌||◌, List, [], ◌∷◌, length, get_or, take, drop, refl, ap, ◌∙◌, arith}
use Rattle.std.specs.List.{position_or_len}
use Rattle.std.proofs.lemmas.Bool.{eqb-true}
use Rattle.hk_format.specs.Texts.{is_no_text}
use Rattle.hk_text.specs.Views.{is_mark}

-- the mark is the first byte that may not stand in a line, where it is no `#`
pub marked_end : (text : List ℕ) (mark : ℕ) → mark ≡ position_or_len is_mark text → (mark < length text → get_or text mark 0 ≡ 35 → ⊥) → mark ≡ position_or_len is_no_text text
marked_end [] mark e ends = e
marked_end (b ∷ bs) mark e ends = by (is_no_text b) refl (eqb b 35) refl e (marked_end bs (position_or_len is_mark bs) refl)
  where
    by : (bad : Bool) → is_no_text b ≡ bad → (comment : Bool) → eqb b 35 ≡ comment → mark ≡ cond (not (bad || comment)) (1 + position_or_len is_mark bs) 0
        → ((position_or_len is_mark bs < length bs → get_or bs (position_or_len is_mark bs) 0 ≡ 35 → ⊥) → position_or_len is_mark bs ≡ position_or_len is_no_text bs)
        → mark ≡ cond (not bad) (1 + position_or_len is_no_text bs) 0
    by true f comment g at later = at
    by false f true g at later = absurd (ends (omega (arith, at)) (ap (λ i. get_or (b ∷ bs) i 0) at ∙ eqb-true b 35 g))
    by false f false g at later =
        let one : mark ≡ suc (position_or_len is_mark bs) = omega (arith, at) in
        let same = later (λ more here. ends (omega (arith, one, more)) (ap (λ i. get_or (b ∷ bs) i 0) one ∙ here)) in
        at ∙ ap (λ n. 1 + n) same

-- the first byte that may not stand in a line is sought from the mark on
pub behind_mark : (text : List ℕ) (mark : ℕ) → mark ≡ position_or_len is_mark text → mark + position_or_len is_no_text (drop mark text) ≡ position_or_len is_no_text text
behind_mark [] mark e = rw e refl
behind_mark (b ∷ bs) mark e = by (is_no_text b) refl (eqb b 35) e (behind_mark bs (position_or_len is_mark bs) refl)
  where
    by : (bad : Bool) → is_no_text b ≡ bad → (comment : Bool) → mark ≡ cond (not (bad || comment)) (1 + position_or_len is_mark bs) 0
        → position_or_len is_mark bs + position_or_len is_no_text (drop (position_or_len is_mark bs) bs) ≡ position_or_len is_no_text bs
        → mark + position_or_len is_no_text (drop mark (b ∷ bs)) ≡ cond (not bad) (1 + position_or_len is_no_text bs) 0
    by true f comment at later = rw (at, f) refl
    by false f true at later = rw (at, f) (omega arith)
    by false f false at later =
        let one : mark ≡ suc (position_or_len is_mark bs) = omega (arith, at) in
        rw one (omega (arith, later))

-- the mark is where the comment of the line begins, or its length
pub marked_comment : (text : List ℕ) (mark len : ℕ) → mark ≡ position_or_len is_mark text → len ≡ position_or_len is_no_text text
    → (mark ≡ position_or_len (λ b. eqb b 35) (take len text)) × (mark ≤ len)
marked_comment [] mark len e f = (rw (e, f) refl, omega (arith, e, f))
marked_comment (b ∷ bs) mark len e f =
    by (is_no_text b) (eqb b 35) refl e f (marked_comment bs (position_or_len is_mark bs) (position_or_len is_no_text bs) refl refl)
  where
    by : (bad comment : Bool) → eqb b 35 ≡ comment → mark ≡ cond (not (bad || comment)) (1 + position_or_len is_mark bs) 0 → len ≡ cond (not bad) (1 + position_or_len is_no_text bs) 0
        → (position_or_len is_mark bs ≡ position_or_len (λ b. eqb b 35) (take (position_or_len is_no_text bs) bs)) × (position_or_len is_mark bs ≤ position_or_len is_no_text bs)
        → (mark ≡ position_or_len (λ b. eqb b 35) (take len (b ∷ bs))) × (mark ≤ len)
    by true comment g at end later = (rw (at, end) refl, omega (arith, at))
    by false true g at end later =
        let one : len ≡ suc (position_or_len is_no_text bs) = omega (arith, end) in
        (rw (one, g) at, omega (arith, at))
    by false false g at end later =
        let one : len ≡ suc (position_or_len is_no_text bs) = omega (arith, end) in
        (rw (one, g) (at ∙ ap (λ n. 1 + n) later.0), omega (arith, at, end, later.1))
