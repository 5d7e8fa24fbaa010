-- What is still to be written of `words` lines. docs/FORMATS.md, "Canonical script".
use Rattle.std.specs.Prelude.{ℕ, List, [], ◌∷◌, ◌++◌, codes}
use Rattle.std.specs.List.{flat_map}
use Rattle.std.specs.Fmt.{decimal}

-- numbers, each with the space before it
abbrev pub numbers_text : List ℕ → List ℕ
numbers_text words = flat_map (λ word. 32 ∷ decimal word) words

-- a whole line
abbrev pub words_line : List ℕ → List ℕ
words_line words = (codes "words" ++ numbers_text words) ++ 10 ∷ []

-- lines, where `words` and the numbers before these stand already on the first
abbrev pub begun_lines : List (List ℕ) → List ℕ
begun_lines [] = []
begun_lines (words ∷ lines) = numbers_text words ++ 10 ∷ flat_map words_line lines
