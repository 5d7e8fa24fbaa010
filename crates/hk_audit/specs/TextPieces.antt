-- What stands between the spaces of an audit line: a text is seen as the piece that is spelled so, and in no other way.
-- docs/FORMATS.md, "Audit lines and records".
use Rattle.std.specs.Prelude.{ℕ, ◌==◌, Bool, ◌&&◌, List, [], length, Option, Some, None, if◌then◌else◌, nat_lt, map}
use Rattle.std.specs.List.{list_all, slice_split}
use Rattle.hk_model.specs.declared.instructions.Index.TheVariants.{Fixed}
use Rattle.hk_model.specs.Labels.{between, first, is_lower, same_text}
use Rattle.hk_model.specs.Limits.{index_bound, path_limit}
use Rattle.hk_format.specs.Pieces.{Piece, Word, Upper, Number, Path, value}
use Rattle.hk_format.specs.Operands.{rights_piece}
use Rattle.hk_format.specs.RightsTexts.{rights_spelled, rights_text}
use Rattle.hk_text.specs.Numerals.{is_numeral, numeral_of}

-- a number that an index of a path can be
abbrev pub is_index_numeral : List ℕ → Bool
is_index_numeral t = is_numeral t && nat_lt (value t) index_bound

-- the indices of two to eight texts
abbrev pub indices_of : List (List ℕ) → Option (List ℕ)
indices_of parts = if between 2 path_limit (length parts) && list_all is_index_numeral parts then Some (map value parts) else None

-- the path of several indices that a text spells
abbrev pub indices_spelled : List ℕ → Option (List ℕ)
indices_spelled t = indices_of (slice_split (λ b. b == 46) t)

-- the set, where the text is its canonical spelling
abbrev pub if_canonical : List ℕ → Option ℕ → Option ℕ
if_canonical t (Some rights) = if same_text (rights_text rights) t then Some rights else None
if_canonical t None = None

-- the set of rights that a text spells
abbrev pub canonical_rights : List ℕ → Option ℕ
canonical_rights t = if_canonical t (rights_spelled t)

-- what no form takes
abbrev pub nothing : Piece
nothing = Upper []

-- rights, or nothing
abbrev pub seen_rights : List ℕ → Option ℕ → Piece
seen_rights t (Some rights) = rights_piece t
seen_rights t None = nothing

-- a path, or else a word, rights or nothing
abbrev pub seen_path : List ℕ → Option (List ℕ) → Piece
seen_path t (Some path) = Path (map Fixed path)
seen_path t None = if is_lower (first t) then Word t else seen_rights t (canonical_rights t)

-- a number, or something else
abbrev pub seen_number : List ℕ → Option ℕ → Piece
seen_number t (Some n) = Number n
seen_number t None = seen_path t (indices_spelled t)

-- the piece that a text spells
unfoldable pub seen : List ℕ → Piece
seen t = seen_number t (numeral_of t)
