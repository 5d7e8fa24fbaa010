-- The texts of items and of their lines, each line with its line feed. docs/FORMATS.md, "Canonical script".
use Rattle.std.specs.Prelude.{ℕ, List}
use Rattle.std.specs.List.{flat_map}
use Rattle.hk_model.specs.declared.entries.Entry.{Entry}
use Rattle.hk_model.specs.declared.entries.Param.{Param}
use Rattle.hk_format.specs.declared.syntax.Body.{Body}
use Rattle.hk_format.specs.declared.syntax.Item.{Item}
use Rattle.hk_format.specs.declared.syntax.Part.{Part}
use Rattle.hk_format.specs.Pieces.{Piece}
use Rattle.hk_format.specs.Texts.{ended_line, spell_line, spell_lines}
use Rattle.hk_format.specs.Spelling.{body_pieces, item_lines}
use Rattle.hk_format.specs.Names.{Names, object_text}
use Rattle.hk_format.specs.EntryTexts.{entry_text, param_text}

-- a line of these pieces
abbrev pub pieces_line : List Piece → List ℕ
pieces_line pieces = ended_line (spell_line pieces)

-- a line inside an item
abbrev pub body_text : Body → List ℕ
body_text body = pieces_line (body_pieces body)

-- lines inside an item
abbrev pub parts_text : List Part → List ℕ
parts_text parts = flat_map (λ (p : Part). body_text p.body) parts

-- the line of an entry
abbrev pub entry_line : Names → Entry → List ℕ
entry_line names entry = ended_line (entry_text (object_text names) entry)

-- the line of a parameter
abbrev pub param_line : Names → Param → List ℕ
param_line names param = ended_line (param_text (object_text names) param)

-- all lines of an item
abbrev pub item_text : Item → List ℕ
item_text item = spell_lines (item_lines item)
