-- A piece that is spelled is read again.
use Rattle.std.proofs.Common.{◌≡◌, ℕ, ◌+◌, ◌^◌, ◌%◌, ◌<◌, ◌≤◌, Bool, true, false, cond, eqb, leb, ltb, List, [], ◌∷◌, ◌++◌, length, refl, ap, arith, ◌&&◌, ◌||◌, not, map, Ok, Err}
use Rattle.std.specs.List.{list_all, list_any, join_with_byte}
use Rattle.std.specs.Fmt.{decimal}
use Rattle.std.proofs.lemmas.Fmt.{decimal_by_steps, decimal_is_IsNumeral}
use Rattle.std.proofs.lemmas.Bool.{and_parts, and_from, false≢true, leb-true, le-ltb, lt-ltb}
use Rattle.std.proofs.lemmas.Bool.Decides.{nat_tests}
use Rattle.std.proofs.lemmas.List.{length-map}
use Rattle.hk_model.specs.declared.instructions.Index.{Index}
use Rattle.hk_model.specs.declared.instructions.Index.TheVariants.{Fixed, ByReg}
use Rattle.hk_format.specs.declared.causes.TextCause.TheVariants as causes
use Rattle.hk_model.specs.Labels.{between, is_digit, is_lower, is_capital, is_word, is_word_byte, is_register}
use Rattle.hk_format.specs.Pieces.{Piece, Word, Upper, Dash, Number, Path, is_names, is_upper, is_upper_byte, is_number, value, index_of, is_too_large, is_index_text, piece_of}
use Rattle.hk_format.specs.Pieces.{spell, spell_index, is_piece, is_index}
use Rattle.hk_format.proofs.Cutting.{all_both, none_of, split_joined, any_both}

pub digits_number : (n : ℕ) → n < 2 ^ 64 → is_number (decimal n) ≡ true
digits_number = decimal_by_steps (λ n ds. is_number ds ≡ true) (λ n h. grind (arith, nat_tests)) (λ n ds h k. step n ds k)
  where
    step : (n : ℕ) (ds : List ℕ) → is_number ds ≡ true → is_number (ds ++ (48 + n % 10) ∷ []) ≡ true
    step n [] h = absurd (false≢true h)
    step n (d ∷ ds) h =
        let parts = and_parts (is_digit d) (list_all is_digit (d ∷ ds)) h in
        and_from _ _ parts.0 (all_both is_digit (d ∷ ds) ((48 + n % 10) ∷ []) parts.1 (grind (arith, nat_tests)))

pub value_decimal : (n : ℕ) → n < 2 ^ 64 → value (decimal n) ≡ n
value_decimal n h = (decimal_is_IsNumeral n h).1

pub number_again : (n : ℕ) → n ≤ 0xffffffff → piece_of (decimal n) ≡ Ok (Number n)
unfolding piece_of
number_again n h = go (decimal n) (digits_number n (omega arith)) (value_decimal n (omega arith))
  where
    go : (ds : List ℕ) → is_number ds ≡ true → value ds ≡ n → piece_of ds ≡ Ok (Number n)
    go [] k e = absurd (false≢true k)
    go (d ∷ ds) k e =
        let parts = and_parts (is_digit d) (list_all is_digit (d ∷ ds)) k in
        let dot : list_any (λ b. eqb b 46) (d ∷ ds) ≡ false = none_of is_digit (λ b. eqb b 46) (λ b t. grind (arith, nat_tests)) (d ∷ ds) parts.1 in
        let small : ltb 0xffffffff n ≡ false = le-ltb _ _ h in
        rw (dot, parts.1, parts.0, e, small)

pub word_again : (t : List ℕ) → is_word t ≡ true → piece_of t ≡ Ok (Word t)
unfolding piece_of
word_again [] h = absurd (false≢true h)
word_again (b ∷ bs) h =
    let parts = and_parts (is_lower b && list_all is_word_byte (b ∷ bs)) (leb (length (b ∷ bs)) 32) h in
    let more = and_parts (is_lower b) (list_all is_word_byte (b ∷ bs)) parts.0 in
    let dot : list_any (λ c. eqb c 46) (b ∷ bs) ≡ false = none_of is_word_byte (λ c. eqb c 46) (λ c t. grind (arith, nat_tests)) (b ∷ bs) more.1 in
    let digit : is_digit b ≡ false = grind (arith, nat_tests) in
    rw (dot, h, digit, more.0)

abbrev pub is_name_byte : ℕ → Bool
is_name_byte b = is_upper_byte b || eqb b 43

pub names_bytes : (begins : Bool) (t : List ℕ) → is_names begins t ≡ true → list_all is_name_byte t ≡ true
names_bytes begins [] h = refl
names_bytes begins (b ∷ bs) h = go begins (eqb b 43) refl (λ c. names_bytes c bs) h
  where
    go : (begins plus : Bool) → eqb b 43 ≡ plus → ((c : Bool) → is_names c bs ≡ true → list_all is_name_byte bs ≡ true)
        → cond plus (not begins && is_names true bs) (cond begins (is_capital b) (is_upper_byte b) && is_names false bs) ≡ true → list_all is_name_byte (b ∷ bs) ≡ true
    go begins true e more k = and_from _ _ (grind (arith, nat_tests)) (more true (and_parts (not begins) (is_names true bs) k).1)
    go true false e more k = and_from _ _ (grind (arith, nat_tests)) (more false (and_parts (is_capital b) (is_names false bs) k).1)
    go false false e more k = and_from _ _ (grind (arith, nat_tests)) (more false (and_parts (is_upper_byte b) (is_names false bs) k).1)

pub upper_again : (t : List ℕ) → is_upper t ≡ true → piece_of t ≡ Ok (Upper t)
unfolding piece_of
upper_again [] h = absurd (false≢true h)
upper_again (b ∷ bs) h =
    let bytes = names_bytes true (b ∷ bs) h in
    let dot : list_any (λ c. eqb c 46) (b ∷ bs) ≡ false = none_of is_name_byte (λ c. eqb c 46) (λ c t. grind (arith, nat_tests)) (b ∷ bs) bytes in
    let plus : eqb b 43 ≡ false = grind (arith, nat_tests) in
    let capital : is_capital b ≡ true = grind (arith, nat_tests) in
    let digit : is_digit b ≡ false = grind (arith, nat_tests) in
    let lower : is_lower b ≡ false = grind (arith, nat_tests) in
    rw (dot, digit, lower, h, capital)

pub dash_again : piece_of (45 ∷ []) ≡ Ok Dash
unfolding piece_of
dash_again = refl

-- what a step of a path that is spelled is read as
record StepAgain (step : Index) : Type 0 where
  dot : not (list_any (λ b. eqb b 46) (spell_index step)) ≡ true
  good : is_index_text (spell_index step) ≡ true
  narrow : is_too_large (spell_index step) ≡ false
  again : index_of (spell_index step) ≡ step

number_step : (n : ℕ) (t : List ℕ) → is_number t ≡ true → value t ≡ n → n ≤ 0xffffffff
    → (not (list_any (λ b. eqb b 46) t) ≡ true) × (is_index_text t ≡ true) × (is_too_large t ≡ false) × (index_of t ≡ Fixed n)
number_step n [] h e small = absurd (false≢true h)
number_step n (d ∷ ds) h e small =
    let parts = and_parts (is_digit d) (list_all is_digit (d ∷ ds)) h in
    let dot : list_any (λ b. eqb b 46) (d ∷ ds) ≡ false = none_of is_digit (λ b. eqb b 46) (λ b t. grind (arith, nat_tests)) (d ∷ ds) parts.1 in
    let first : is_digit d ≡ true = parts.0 in
    let other : is_register (d ∷ ds) ≡ false = not_register d ds first in
    let le : ltb 0xffffffff n ≡ false = le-ltb _ _ small in
    (rw dot, rw h, rw (h, e, le), rw (other, e))
  where
    not_register : (d : ℕ) (ds : List ℕ) → is_digit d ≡ true → is_register (d ∷ ds) ≡ false
    not_register d [] h = refl
    not_register d (c ∷ []) h = grind (arith, nat_tests)
    not_register d (c ∷ e ∷ more) h = refl

step_again : (step : Index) → is_index step ≡ true → StepAgain step
step_again (Fixed n) h =
    let le = leb-true n 0xffffffff h in
    let all = number_step n (decimal n) (digits_number n (omega arith)) (value_decimal n (omega arith)) le in
    record { dot = all.0; good = all.1; narrow = all.2; again = all.3 }
step_again (ByReg r) h =
    let digit : between 48 55 (48 + r) ≡ true = grind (arith, nat_tests) in
    let point : eqb (48 + r) 46 ≡ false = grind (arith, nat_tests) in
    record { dot = rw point; good = rw digit; narrow = refl; again = rw digit (ap ByReg (omega arith)) }

steps_again : (steps : List Index) → list_all is_index steps ≡ true
    → (list_all (λ t. not (list_any (λ b. eqb b 46) t)) (map spell_index steps) ≡ true) × (list_all is_index_text (map spell_index steps) ≡ true)
    × (list_any is_too_large (map spell_index steps) ≡ false) × (map index_of (map spell_index steps) ≡ steps)
steps_again [] h = (refl, refl, refl, refl)
steps_again (step ∷ steps) h =
    let parts = and_parts (is_index step) (list_all is_index steps) h in
    let here = step_again step parts.0 in
    let rest = steps_again steps parts.1 in
    (and_from _ _ here.dot rest.0, and_from _ _ here.good rest.1, rw (here.narrow, rest.2), rw (here.again, rest.3))

pub path_again : (steps : List Index) → is_piece (Path steps) ≡ true → piece_of (spell (Path steps)) ≡ Ok (Path steps)
unfolding piece_of
path_again [] h = absurd (false≢true h)
path_again (x ∷ []) h = absurd (false≢true h)
path_again (x ∷ y ∷ more) h =
    let parts = and_parts (between 2 8 (length (x ∷ y ∷ more))) (list_all is_index (x ∷ y ∷ more)) h in
    let all = steps_again (x ∷ y ∷ more) parts.1 in
    let dot : list_any (λ b. eqb b 46) (spell (Path (x ∷ y ∷ more))) ≡ true = any_both (λ b. eqb b 46) (spell_index x) (46 ∷ join_with_byte 46 (map spell_index (y ∷ more))) refl in
    let cut = split_joined (λ b. eqb b 46) 46 (spell_index x) (map spell_index (y ∷ more)) all.0 refl in
    let few : between 2 8 (length (map spell_index (x ∷ y ∷ more))) ≡ true = rw length-map parts.0 in
    rw (dot, cut, all.1, few, all.2, all.3)

pub piece_again : (piece : Piece) → is_piece piece ≡ true → piece_of (spell piece) ≡ Ok piece
piece_again (Word t) h = word_again t h
piece_again (Upper t) h = upper_again t h
piece_again Dash h = dash_again
piece_again (Number n) h = number_again n (leb-true n 0xffffffff h)
piece_again (Path steps) h = path_again steps h

pub number_large : (n : ℕ) → 0xffffffff < n → n < 2 ^ 64 → piece_of (decimal n) ≡ Err causes.NumberTooLarge
unfolding piece_of
number_large n h small = go (decimal n) (digits_number n small) (value_decimal n small)
  where
    go : (ds : List ℕ) → is_number ds ≡ true → value ds ≡ n → piece_of ds ≡ Err causes.NumberTooLarge
    go [] k e = absurd (false≢true k)
    go (d ∷ ds) k e =
        let parts = and_parts (is_digit d) (list_all is_digit (d ∷ ds)) k in
        let dot : list_any (λ b. eqb b 46) (d ∷ ds) ≡ false = none_of is_digit (λ b. eqb b 46) (λ b t. grind (arith, nat_tests)) (d ∷ ds) parts.1 in
        let large : ltb 0xffffffff n ≡ true = lt-ltb _ _ h in
        rw (dot, parts.1, parts.0, e, large)
