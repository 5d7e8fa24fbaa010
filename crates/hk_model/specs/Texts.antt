-- The bytes of a text, however its letters are kept.
use Rattle.std.specs.Prelude.{ℕ, List, string_bytes}
use Rattle.hk_model.specs.declared.texts.Letters.{Letters}
use Rattle.hk_model.specs.declared.texts.Letters.TheVariants.{Here, Apart}

abbrev pub letters_bytes : Letters → List ℕ
letters_bytes (Here text) = text
letters_bytes (Apart text) = string_bytes text.value
