-- Words and names in capital letters are text.
use Rattle.std.proofs.Common.{◌≡◌, ℕ, Bool, true, false, List, [], ◌∷◌, ◌&&◌, ◌||◌, length, arith, leb, ltb, refl, zero, suc}
use Rattle.std.specs.Prelude.{IsTrue}
use Rattle.std.specs.List.{list_all}
use Rattle.std.specs.Str.{IsUtf8, IsAscii}
use Rattle.std.proofs.lemmas.Str.{IsUtf8-from_ascii}
use Rattle.std.proofs.lemmas.Bool.{and_parts, ltb-true, false≢true}
use Rattle.std.proofs.lemmas.Bool.Decides.{nat_tests}
use Rattle.hk_model.specs.Labels.{is_word, is_word_byte, is_lower, first}
use Rattle.hk_format.specs.Pieces.{is_upper}
use Rattle.hk_format.proofs.Cutting.{all_weaker}
use Rattle.hk_format.proofs.PieceAgain.{is_name_byte, names_bytes}
use Rattle.hk_script.specs.Lines.{HasText}

ascii_from : (t : List ℕ) → list_all (λ b. ltb b 128) t ≡ true → IsAscii t
ascii_from [] h i = omega arith
ascii_from (b ∷ t) h zero = ltb-true _ _ (and_parts (ltb b 128) (list_all (λ c. ltb c 128) t) h).0
ascii_from (b ∷ t) h (suc i) = ascii_from t (and_parts (ltb b 128) (list_all (λ c. ltb c 128) t) h).1 i

word_ascii : (t : List ℕ) → is_word t ≡ true → list_all (λ b. ltb b 128) t ≡ true
word_ascii t h =
    let parts = and_parts (is_lower (first t) && list_all is_word_byte t) (leb (length t) 32) h in
    all_weaker is_word_byte (λ b. ltb b 128) (λ b k. grind (arith, nat_tests)) t (and_parts (is_lower (first t)) (list_all is_word_byte t) parts.0).1

upper_ascii : (t : List ℕ) → is_upper t ≡ true → list_all (λ b. ltb b 128) t ≡ true
upper_ascii t h = all_weaker is_name_byte (λ b. ltb b 128) (λ b k. grind (arith, nat_tests)) t (names_bytes true t h)

pub text_utf8 : (t : List ℕ) → HasText t → IsUtf8 t
text_utf8 t h = go (is_word t) (is_upper t) (λ k. word_ascii t k) (λ k. upper_ascii t k) h
  where
    go : (word upper : Bool) → (word ≡ true → list_all (λ b. ltb b 128) t ≡ true) → (upper ≡ true → list_all (λ b. ltb b 128) t ≡ true) → IsTrue (word || upper) → IsUtf8 t
    go true upper f g h = IsUtf8-from_ascii t (ascii_from t (f refl))
    go false true f g h = IsUtf8-from_ascii t (ascii_from t (g refl))
    go false false f g h = absurd (false≢true h)
