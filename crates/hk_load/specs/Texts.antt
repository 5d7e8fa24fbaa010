-- Texts of rights. docs/FORMATS.md, "Rights".
use Rattle.std.specs.Prelude.{ℕ, ◌==◌, List, Option, Some, None, bit_or}
use Rattle.std.specs.List.{slice_split}

-- the names that plus signs join
abbrev pub names_in : List ℕ → List (List ℕ)
names_in t = slice_split (λ b. b == 43) t

-- the rights of earlier names, with those of later ones
abbrev pub united : ℕ → Option ℕ → Option ℕ
united rights (Some more) = Some (bit_or rights more)
united rights None = None
