-- What is left of texts that a byte separates. docs/FORMATS.md, "Audit lines and records".
use Rattle.std.specs.Prelude.{ℕ, ◌==◌, List, [], length, drop, nat_lt, if◌then◌else◌, map}
use Rattle.std.specs.List.{slice_split}
use Rattle.hk_format.specs.Pieces.{Piece}
use Rattle.hk_audit.specs.declared.parts.Parts.{Parts}
use Rattle.hk_audit.specs.TextPieces.{seen}

-- the texts that are left
abbrev pub texts : Parts → List (List ℕ)
texts p = if nat_lt (length p.text.now) p.at then [] else slice_split (λ b. b == p.separator) (drop p.at p.text.now)

-- the pieces that are left
abbrev pub rest : Parts → List Piece
rest p = map seen (texts p)
