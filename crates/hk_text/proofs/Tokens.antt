-- A text before the first byte at which a token ends, and whether all its bytes may stand in a word.
use Rattle.std.proofs.Common.{◌≡◌, ℕ, suc, ◌+◌, ◌<◌, ◌≤◌, Bool, true, false, cond, not, ◌||◌, List, [], ◌∷◌, length, get_or, take, drop, refl, sym, ap, ◌∙◌, arith}
use Rattle.std.specs.List.{list_all, position_or_len}
use Rattle.std.proofs.lemmas.Bool.Decides.{nat_tests}
use Rattle.hk_model.specs.Labels.{is_word_byte}
use Rattle.hk_format.specs.Texts.{is_blank}
use Rattle.hk_text.specs.Views.{is_mark, is_end}

-- how many bytes from the front may stand in a word
abbrev word : List ℕ → ℕ
word text = position_or_len (λ b. not (is_word_byte b)) text

-- it ends with the bytes of a word, where such a byte is behind them
pub word_ends : (text : List ℕ) (len : ℕ) → len ≡ word text → (len < length text → is_end (get_or text len 0) ≡ true)
    → (len ≡ position_or_len is_end text) × (list_all is_word_byte (take len text) ≡ true)
word_ends [] len e ends = (e, rw e refl)
word_ends (b ∷ bs) len e ends = by (is_word_byte b) refl (is_end b) refl e (word_ends bs (word bs) refl)
  where
    by : (good : Bool) → is_word_byte b ≡ good → (ended : Bool) → is_end b ≡ ended → len ≡ cond (not (not good)) (1 + word bs) 0
        → ((word bs < length bs → is_end (get_or bs (word bs) 0) ≡ true) → (word bs ≡ position_or_len is_end bs) × (list_all is_word_byte (take (word bs) bs) ≡ true))
        → (len ≡ cond (not ended) (1 + position_or_len is_end bs) 0) × (list_all is_word_byte (take len (b ∷ bs)) ≡ true)
    by true f true g at later = absurd (grind (arith, nat_tests))
    by true f false g at later =
        let one : len ≡ suc (word bs) = omega (arith, at) in
        let rest = later (λ more. ap (λ i. is_end (get_or (b ∷ bs) i 0)) (sym one) ∙ ends (omega (arith, one, more))) in
        (at ∙ ap (λ n. 1 + n) rest.0, rw (one, f) rest.1)
    by false f true g at later = (at, rw at refl)
    by false f false g at later =
        let here : is_end b ≡ true = ap (λ i. is_end (get_or (b ∷ bs) i 0)) (sym at) ∙ ends (omega (arith, at)) in
        absurd (let clash : true ≡ false = sym here ∙ g in cc)

-- it goes on, where another byte is behind them
pub word_goes_on : (text : List ℕ) (len : ℕ) → len ≡ word text → len < length text → is_end (get_or text len 0) ≡ false
    → (len + position_or_len is_end (drop len text) ≡ position_or_len is_end text)
    × (list_all is_word_byte (take (len + position_or_len is_end (drop len text)) text) ≡ false)
word_goes_on [] len e more other = absurd (omega arith)
word_goes_on (b ∷ bs) len e more other = by (is_word_byte b) refl (is_end b) refl e (word_goes_on bs (word bs) refl)
  where
    by : (good : Bool) → is_word_byte b ≡ good → (ended : Bool) → is_end b ≡ ended → len ≡ cond (not (not good)) (1 + word bs) 0
        → (word bs < length bs → is_end (get_or bs (word bs) 0) ≡ false → (word bs + position_or_len is_end (drop (word bs) bs) ≡ position_or_len is_end bs)
        × (list_all is_word_byte (take (word bs + position_or_len is_end (drop (word bs) bs)) bs) ≡ false))
        → (len + position_or_len is_end (drop len (b ∷ bs)) ≡ cond (not ended) (1 + position_or_len is_end bs) 0)
        × (list_all is_word_byte (take (len + position_or_len is_end (drop len (b ∷ bs))) (b ∷ bs)) ≡ false)
    by true f true g at later = absurd (grind (arith, nat_tests))
    by true f false g at later =
        let one : len ≡ suc (word bs) = omega (arith, at) in
        let rest = later (omega (arith, one, more)) (ap (λ i. is_end (get_or (b ∷ bs) i 0)) (sym one) ∙ other) in
        let two : suc (word bs) + position_or_len is_end (drop (word bs) bs) ≡ suc (word bs + position_or_len is_end (drop (word bs) bs)) = omega arith in
        (rw one (omega (arith, two, rest.0)), rw (one, two, f) rest.1)
    by false f true g at later =
        let here : is_end b ≡ false = ap (λ i. is_end (get_or (b ∷ bs) i 0)) (sym at) ∙ other in
        absurd (let clash : true ≡ false = sym g ∙ here in cc)
    by false f false g at later =
        let all : len + position_or_len is_end (drop len (b ∷ bs)) ≡ suc (position_or_len is_end bs) = rw (at, g) (omega arith) in
        (omega (arith, all), rw (all, f) refl)

-- a token ends at the first blank of the text of its line, or with that text
pub token_place : (text : List ℕ) (len mark : ℕ) → len ≡ position_or_len is_end text → mark ≡ position_or_len is_mark text
    → (len ≡ position_or_len is_blank (take mark text)) × (len ≤ mark)
token_place [] len mark e f = (rw (e, f) refl, omega (arith, e))
token_place (b ∷ bs) len mark e f =
    by (is_blank b) refl (is_mark b) e f (token_place bs (position_or_len is_end bs) (position_or_len is_mark bs) refl refl)
  where
    by : (blank : Bool) → is_blank b ≡ blank → (marked : Bool) → len ≡ cond (not (blank || marked)) (1 + position_or_len is_end bs) 0
        → mark ≡ cond (not marked) (1 + position_or_len is_mark bs) 0
        → (position_or_len is_end bs ≡ position_or_len is_blank (take (position_or_len is_mark bs) bs)) × (position_or_len is_end bs ≤ position_or_len is_mark bs)
        → (len ≡ position_or_len is_blank (take mark (b ∷ bs))) × (len ≤ mark)
    by true f true at end later = (rw (at, end) refl, omega (arith, at))
    by true f false at end later =
        let one : mark ≡ suc (position_or_len is_mark bs) = omega (arith, end) in
        (rw (one, f) at, omega (arith, at))
    by false f true at end later = (rw (at, end) refl, omega (arith, at))
    by false f false at end later =
        let one : mark ≡ suc (position_or_len is_mark bs) = omega (arith, end) in
        (rw (one, f) (at ∙ ap (λ n. 1 + n) later.0), omega (arith, at, end, later.1))

-- the text of the line ends with the token, where no blank is behind it
pub ends_with_token : (text : List ℕ) (len : ℕ) → len ≡ position_or_len is_end text → (len < length text → is_blank (get_or text len 0) ≡ false) → len ≡ position_or_len is_mark text
ends_with_token [] len e ends = e
ends_with_token (b ∷ bs) len e ends = by (is_blank b) refl (is_mark b) e (ends_with_token bs (position_or_len is_end bs) refl)
  where
    by : (blank : Bool) → is_blank b ≡ blank → (marked : Bool) → len ≡ cond (not (blank || marked)) (1 + position_or_len is_end bs) 0
        → ((position_or_len is_end bs < length bs → is_blank (get_or bs (position_or_len is_end bs) 0) ≡ false) → position_or_len is_end bs ≡ position_or_len is_mark bs)
        → len ≡ cond (not marked) (1 + position_or_len is_mark bs) 0
    by true f marked at later =
        let here : is_blank b ≡ false = ap (λ i. is_blank (get_or (b ∷ bs) i 0)) (sym at) ∙ ends (omega (arith, at)) in
        absurd (let clash : true ≡ false = sym f ∙ here in cc)
    by false f true at later = at
    by false f false at later =
        let one : len ≡ suc (position_or_len is_end bs) = omega (arith, at) in
        let same = later (λ more. ap (λ i. is_blank (get_or (b ∷ bs) i 0)) (sym one) ∙ ends (omega (arith, one, more))) in
        at ∙ ap (λ n. 1 + n) same

-- the end of the text of the line is sought from the end of a token on
pub behind_token : (text : List ℕ) (len : ℕ) → len ≡ position_or_len is_end text → len + position_or_len is_mark (drop len text) ≡ position_or_len is_mark text
behind_token [] len e = rw e refl
behind_token (b ∷ bs) len e = by (is_blank b) (is_mark b) refl e (behind_token bs (position_or_len is_end bs) refl)
  where
    by : (blank marked : Bool) → is_mark b ≡ marked → len ≡ cond (not (blank || marked)) (1 + position_or_len is_end bs) 0
        → position_or_len is_end bs + position_or_len is_mark (drop (position_or_len is_end bs) bs) ≡ position_or_len is_mark bs
        → len + position_or_len is_mark (drop len (b ∷ bs)) ≡ cond (not marked) (1 + position_or_len is_mark bs) 0
    by true marked f at later = rw (at, f) (omega arith)
    by false true f at later = rw (at, f) (omega arith)
    by false false f at later =
        let one : len ≡ suc (position_or_len is_end bs) = omega (arith, at) in
        rw one (omega (arith, later))

-- and from the byte behind the blank on
pub behind_blank : (text : List ℕ) (len : ℕ) → len ≡ position_or_len is_end text → len < length text → is_blank (get_or text len 0) ≡ true
    → len + 1 + position_or_len is_mark (drop (len + 1) text) ≡ position_or_len is_mark text
behind_blank [] len e more here = absurd (omega arith)
behind_blank (b ∷ bs) len e more here = by (is_blank b) refl (is_mark b) refl e (behind_blank bs (position_or_len is_end bs) refl)
  where
    by : (blank : Bool) → is_blank b ≡ blank → (marked : Bool) → is_mark b ≡ marked → len ≡ cond (not (blank || marked)) (1 + position_or_len is_end bs) 0
        → (position_or_len is_end bs < length bs → is_blank (get_or bs (position_or_len is_end bs) 0) ≡ true
        → position_or_len is_end bs + 1 + position_or_len is_mark (drop (position_or_len is_end bs + 1) bs) ≡ position_or_len is_mark bs)
        → len + 1 + position_or_len is_mark (drop (len + 1) (b ∷ bs)) ≡ cond (not marked) (1 + position_or_len is_mark bs) 0
    by true f true g at later = absurd (grind (arith, nat_tests))
    by true f false g at later = rw at (omega arith)
    by false f true g at later =
        let blank : is_blank b ≡ true = ap (λ i. is_blank (get_or (b ∷ bs) i 0)) (sym at) ∙ here in
        absurd (let clash : true ≡ false = sym blank ∙ f in cc)
    by false f false g at later =
        let one : len ≡ suc (position_or_len is_end bs) = omega (arith, at) in
        let two : suc (position_or_len is_end bs) + 1 ≡ suc (position_or_len is_end bs + 1) = omega arith in
        let rest = later (omega (arith, one, more)) (ap (λ i. is_blank (get_or (b ∷ bs) i 0)) (sym one) ∙ here) in
        rw (one, two) (omega (arith, rest))
