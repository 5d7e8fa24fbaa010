-- Operands as pieces. docs/FORMATS.md, "Pieces" and "Rights".
use Rattle.std.specs.Prelude.{ℕ, List, [], ◌∷◌, ◌++◌, Option, Some, None, map, codes, if◌then◌else◌}
use Rattle.hk_model.specs.declared.names.Slot.{Slot}
use Rattle.hk_model.specs.declared.instructions.Index.{Index}
use Rattle.hk_model.specs.declared.instructions.Index.TheVariants.{Fixed, ByReg}
use Rattle.hk_model.specs.declared.instructions.Operand.{Operand}
use Rattle.hk_model.specs.declared.instructions.Operand.TheVariants as operand
use Rattle.hk_model.specs.declared.instructions.Route.{Route}
use Rattle.hk_model.specs.Labels.{is_word, same_text}
use Rattle.hk_format.specs.Pieces.{Piece, Word, Upper, Dash, Number, Path, register_text}
use Rattle.hk_format.specs.RightsTexts.{rights_text}

-- `r0` to `r7`
abbrev pub register_piece : ℕ → Piece
register_piece reg = Word (register_text reg)

-- the number of a slot
abbrev pub slot_piece : Slot → Piece
slot_piece slot = Number slot.0

-- a slot, where there is one
abbrev pub optional_slot : Option Slot → List Piece
optional_slot None = []
optional_slot (Some slot) = slot_piece slot ∷ []

-- the arguments of a call, and the slot that takes its result
abbrev pub argument_pieces : List ℕ → Slot → List Piece
argument_pieces args into = map Number args ++ slot_piece into ∷ []

-- a number or a register
abbrev pub operand_piece : Operand → Piece
operand_piece (operand.Number n) = Number n
operand_piece (operand.Reg reg) = register_piece reg

-- one index stands as a number or a register, and several as a path
abbrev pub steps_piece : List Index → Piece
steps_piece [] = Dash
steps_piece (Fixed n ∷ []) = Number n
steps_piece (ByReg reg ∷ []) = register_piece reg
steps_piece (x ∷ y ∷ more) = Path (x ∷ y ∷ more)

-- a path of an instruction
abbrev pub route_piece : Route → Piece
route_piece route = steps_piece route.at

-- a path whose indices are all known
abbrev pub path_piece : List ℕ → Piece
path_piece path = steps_piece (map Fixed path)

-- the name of a type or an object: a word, or a kernel type's name
abbrev pub type_piece : List ℕ → Piece
type_piece t = if is_word t then Word t else Upper t

-- the text of a set of rights
abbrev pub rights_piece : List ℕ → Piece
rights_piece t = if same_text t (codes "-") then Dash else Upper t

-- a set of rights in its canonical spelling
abbrev pub rights_set_piece : ℕ → Piece
rights_set_piece rights = rights_piece (rights_text rights)
