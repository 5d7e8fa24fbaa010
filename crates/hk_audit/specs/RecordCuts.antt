-- A record, cut where its script ends. docs/FORMATS.md, "Audit lines and records".
use Rattle.std.specs.Prelude.{ℕ, ◌+◌, ◌==◌, List, [], ◌∷◌, length, Option, Some, None, drop, if◌then◌else◌}
use Rattle.std.specs.List.{slice_split}
use Rattle.hk_format.specs.Audits.{is_record}

-- what line feeds cut
abbrev pub texts_of : List ℕ → List (List ℕ)
texts_of bytes = slice_split (λ b. b == 10) bytes

-- the bytes of the lines before the first that is exactly `record`, where each text has a line feed behind it
abbrev pub script_length : List (List ℕ) → ℕ
script_length [] = 0
script_length (x ∷ more) = if is_record x then 0 else length x + 1 + script_length more

-- what stands behind the first line of bytes that begin with the line `record`, if there are any
abbrev pub behind_first : List ℕ → Option (List (List ℕ))
behind_first [] = None
behind_first (b ∷ bytes) = Some (drop 1 (texts_of (b ∷ bytes)))
