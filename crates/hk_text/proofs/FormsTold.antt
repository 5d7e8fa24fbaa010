-- The kind of a piece, by the forms that have no point and by points.
use Rattle.std.proofs.Common.{◌≡◌, ℕ, Bool, true, false, cond, eqb, leb, ltb, List, [], ◌∷◌, length, refl, sym, ap, ◌∙◌, arith, ◌&&◌, ◌||◌, not, Ok, Err}
use Rattle.std.specs.List.{list_all, list_any, slice_split}
use Rattle.std.proofs.lemmas.Bool.{and_parts, false≢true}
use Rattle.std.proofs.lemmas.Bool.Decides.{nat_tests}
use Rattle.hk_format.specs.declared.causes.TextCause.TheVariants.{BadToken, NumberTooLarge}
use Rattle.hk_model.specs.Labels.{is_digit, is_lower, is_capital, is_word, is_word_byte, first}
use Rattle.hk_format.specs.Pieces.{Piece, Word, Upper, Dash, Number, is_names, is_upper, is_dash, value, number_of, formed, plain_of, pointed_of, piece_of}
use Rattle.hk_text.specs.declared.pieces.PieceKind.{PieceKind}
use Rattle.hk_text.specs.Views.{kind_piece}

-- whether a text has a point
abbrev pub has_point : List ℕ → Bool
has_point t = list_any (λ b. eqb b 46) t

-- no point is among bytes of a kind that a point is not of
pointless : (p : ℕ → Bool) → p 46 ≡ false → (t : List ℕ) → list_all p t ≡ true → has_point t ≡ false
pointless p not_it [] h = refl
pointless p not_it (b ∷ bs) h = by (eqb b 46) refl (pointless p not_it bs (and_parts (p b) (list_all p bs) h).1)
  where
    by : (point : Bool) → eqb b 46 ≡ point → has_point bs ≡ false → (point || has_point bs) ≡ false
    by false is later = later
    by true is later =
        let same : b ≡ 46 = grind (arith, nat_tests) in
        absurd (false≢true (sym not_it ∙ ap p (sym same) ∙ (and_parts (p b) (list_all p bs) h).0))

names_byte : (begins : Bool) (b : ℕ) → cond begins (is_capital b) (is_capital b || is_digit b) ≡ true → b ≡ 46 → ⊥
names_byte true b g same = grind (arith, nat_tests)
names_byte false b g same = grind (arith, nat_tests)

pointless_names : (begins : Bool) (t : List ℕ) → is_names begins t ≡ true → has_point t ≡ false
pointless_names begins [] h = refl
pointless_names begins (b ∷ bs) h = by (eqb b 43) (eqb b 46) refl refl h (λ begins. pointless_names begins bs)
  where
    by : (plus point : Bool) → eqb b 43 ≡ plus → eqb b 46 ≡ point
        → cond plus (not begins && is_names true bs) (cond begins (is_capital b) (is_capital b || is_digit b) && is_names false bs) ≡ true
        → ((more : Bool) → is_names more bs ≡ true → has_point bs ≡ false) → (point || has_point bs) ≡ false
    by true true is at g later = absurd (grind (arith, nat_tests))
    by true false is at g later = later true (and_parts (not begins) (is_names true bs) g).1
    by false false is at g later = later false (and_parts (cond begins (is_capital b) (is_capital b || is_digit b)) (is_names false bs) g).1
    by false true is at g later =
        let same : b ≡ 46 = grind (arith, nat_tests) in
        absurd (names_byte begins b (and_parts (cond begins (is_capital b) (is_capital b || is_digit b)) (is_names false bs) g).0 same)

pointless_dash : (t : List ℕ) → is_dash t ≡ true → has_point t ≡ false
pointless_dash [] h = refl
pointless_dash (b ∷ []) h = grind (arith, nat_tests)
pointless_dash (b ∷ c ∷ bs) h = absurd (grind (arith, nat_tests))

-- no text with a point has another form than that of a path
bad_formed : (good : Bool) (piece : Piece) → (good ≡ true → ⊥) → formed good piece ≡ Err BadToken
bad_formed good piece bad = by good bad
  where
    by : (g : Bool) → (g ≡ true → ⊥) → formed g piece ≡ Err BadToken
    by true n = absurd (n refl)
    by false n = refl

pointed_plain : (t : List ℕ) → has_point t ≡ true → plain_of t ≡ Err BadToken
pointed_plain t point = by (is_digit (first t)) (is_lower (first t)) (is_capital (first t))
  where
    clash : has_point t ≡ false → ⊥
    clash none = false≢true (sym none ∙ point)

    number : (digits : Bool) → list_all is_digit t ≡ digits
        → cond (not digits) (Err BadToken) (cond (ltb 0xffffffff (value t)) (Err NumberTooLarge) (Ok (Number (value t)))) ≡ Err BadToken
    number true is = absurd (clash (pointless is_digit refl t is))
    number false is = refl

    by : (digit lower capital : Bool)
        → cond digit (number_of t) (cond lower (formed (is_word t) (Word t)) (cond capital (formed (is_upper t) (Upper t)) (formed (is_dash t) Dash))) ≡ Err BadToken
    by true lower capital = number (list_all is_digit t) refl
    by false true capital =
        bad_formed (is_word t) (Word t) (λ is. clash (pointless is_word_byte refl t
        (and_parts (is_lower (first t)) (list_all is_word_byte t) (and_parts (is_lower (first t) && list_all is_word_byte t) (leb (length t) 32) is).0).1))
    by false false true = bad_formed (is_upper t) (Upper t) (λ is. clash (pointless_names true t is))
    by false false false = bad_formed (is_dash t) Dash (λ is. clash (pointless_dash t is))

-- what has a form without points is read without cutting it at points
pub read_form : (t : List ℕ) (kind : PieceKind) → plain_of t ≡ Ok (kind_piece kind t) → piece_of t ≡ Ok (kind_piece kind t)
unfolding piece_of
read_form t kind given = by (has_point t) refl
  where
    by : (point : Bool) → has_point t ≡ point → cond point (pointed_of (slice_split (λ b. eqb b 46) t)) (plain_of t) ≡ Ok (kind_piece kind t)
    by false is = given
    by true is = absurd (let bad = pointed_plain t is in cc)

-- what has no point neither
pub read_plain : (t : List ℕ) → has_point t ≡ false → piece_of t ≡ plain_of t
unfolding piece_of
read_plain t is = rw is refl

-- what has a point is cut at its points
pub read_pointed : (t : List ℕ) → has_point t ≡ true → piece_of t ≡ pointed_of (slice_split (λ b. eqb b 46) t)
unfolding piece_of
read_pointed t is = rw is refl
