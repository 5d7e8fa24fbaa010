-- The lines that spell items, with the numbers on which they stand. docs/FORMATS.md, "Grammar".
use Rattle.std.specs.Prelude.{◌≡◌, ℕ, List, [], ◌∷◌, ◌++◌, map, if◌then◌else◌}
use Rattle.std.specs.List.{flat_map}
use Rattle.hk_format.specs.declared.syntax.Part.{Part}
use Rattle.hk_format.specs.declared.syntax.Item.{Item}
use Rattle.hk_format.specs.Pieces.{Piece}
use Rattle.hk_format.specs.Texts.{Lines}
use Rattle.hk_format.specs.Spelling.{body_pieces, head_pieces, has_parts, end_line, header_line}

-- a line inside an item
abbrev pub numbered_part : Part → ℕ × List Piece
numbered_part part = (part.line, body_pieces part.body)

-- the lines behind a head, where this is the number of the line `end`
abbrev pub numbered_parts : Item → ℕ → Lines
numbered_parts item end = if has_parts item.head then map numbered_part item.parts ++ (end, end_line) ∷ [] else []

-- all lines of an item; the number counts only where the item has a line `end`
abbrev pub numbered_item : Item × ℕ → Lines
numbered_item placed = (placed.0.line, head_pieces placed.0.head) ∷ numbered_parts placed.0 placed.1

-- the lines spell these items: the header, on any line, and then the lines of each item, in order. A head and a part stand on the
-- lines that the items tell, and an `end` on any.
pub record AreLinesOf (lines : Lines) (items : List Item) : Type 0 where
  -- the line of the header, and each item with the line of its `end`
  pub first : ℕ
  pub placed : List (Item × ℕ)
  pub same : map (λ (p : Item × ℕ). p.0) placed ≡ items
  pub spelled : lines ≡ (first, header_line) ∷ flat_map numbered_item placed
