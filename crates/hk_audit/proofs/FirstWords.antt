-- What a first word tells.
use Rattle.std.proofs.Common.{◌≡◌, ℕ, Bool, true, false, cond, List, sym, ap, ◌∙◌}
use Rattle.hk_model.specs.Labels.{same_text}
use Rattle.hk_format.specs.Pieces.{Piece}
use Rattle.hk_format.specs.Reading.{Found, Reads}

test_is : (word literal other : List ℕ) (b c : Bool) → b ≡ same_text word literal → literal ≡ other → b ≡ c → same_text word other ≡ c
test_is word literal other b c e same test = sym (e ∙ ap (same_text word) same) ∙ test

-- the reader for this word
pub word_first : {A : Type 0} (word literal other : List ℕ) (b : Bool) (x y : Reads A) (pieces : List Piece) (r : Found A) → b ≡ same_text word literal → literal ≡ other → b ≡ true
    → x pieces ≡ r → cond (same_text word other) x y pieces ≡ r
word_first {A} word literal other b x y pieces r e same test h = go (same_text word other) (test_is word literal other b true e same test)
  where
    go : (c : Bool) → c ≡ true → cond c x y pieces ≡ r
    go true k = h
    go false k = cc

-- the reader for other words
pub word_later : {A : Type 0} (word literal other : List ℕ) (b : Bool) (x y : Reads A) (pieces : List Piece) (r : Found A) → b ≡ same_text word literal → literal ≡ other
    → b ≡ false
    → y pieces ≡ r → cond (same_text word other) x y pieces ≡ r
word_later {A} word literal other b x y pieces r e same test h = go (same_text word other) (test_is word literal other b false e same test)
  where
    go : (c : Bool) → c ≡ false → cond c x y pieces ≡ r
    go true k = cc
    go false k = h
