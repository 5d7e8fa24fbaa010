-- What the text of a call has of the text of the instruction that makes it. docs/FORMATS.md, "Texts of calls".
use Rattle.std.specs.Prelude.{◌≡◌, ℕ, List, [], ◌∷◌, Option, Some, None, map}
use Rattle.hk_model.specs.declared.calls.Call.{Call}
use Rattle.hk_model.specs.declared.frames.Frame.{Frame}
use Rattle.hk_model.specs.declared.instructions.Index.TheVariants.{Fixed}
use Rattle.hk_model.specs.declared.instructions.Instr.{Instr}
use Rattle.hk_model.specs.declared.instructions.Instr.TheVariants as instr
use Rattle.hk_model.specs.declared.instructions.Operand.{Operand}
use Rattle.hk_model.specs.declared.instructions.Operand.TheVariants.{Number}
use Rattle.hk_model.specs.declared.instructions.Route.{Route}
use Rattle.hk_model.specs.Control.{operand, path_of, target_register}
use Rattle.hk_format.specs.Pieces.{Piece}
use Rattle.hk_format.specs.Spelling.{written_pieces}
use Rattle.hk_format.specs.Canonical.{written_of}
use Rattle.hk_format.specs.AuditLines.{call_pieces}

-- the operand as the number that it is worth
abbrev pub known_operand : Frame → Operand → Operand
known_operand f o = Number (operand f o)

-- the path with its indices as the numbers that they are worth
abbrev pub known_route : Frame → Route → Route
known_route f route = record { at = map Fixed (path_of f route) }

-- the instruction with its operands and its path resolved
abbrev pub resolved : Frame → Instr → Instr
resolved f (instr.Get of at reg) = instr.Get (known_route f of) (known_operand f at) reg
resolved f (instr.Put of at word) = instr.Put (known_route f of) (known_operand f at) (known_operand f word)
resolved f (instr.Add of word) = instr.Add (known_route f of) (known_operand f word)
resolved f (instr.Length of reg) = instr.Length (known_route f of) reg
resolved f (instr.Load from into) = instr.Load (known_route f from) into
resolved f (instr.Store list at from) = instr.Store (known_route f list) (known_operand f at) from
resolved f (instr.Append list from) = instr.Append (known_route f list) from
resolved f (instr.Erase list at) = instr.Erase (known_route f list) (known_operand f at)
resolved f (instr.Drop slot) = instr.Drop slot
resolved f (instr.Restrict slot keep) = instr.Restrict slot keep
resolved f (instr.Look of reg) = instr.Look (known_route f of) reg
resolved f (instr.MakeTemplate of kind into) = instr.MakeTemplate (known_route f of) kind into
resolved f (instr.Create by into) = instr.Create (known_route f by) into
resolved f (instr.Merge with cap into) = instr.Merge (known_route f with) cap into
resolved f (instr.Copy of into) = instr.Copy (known_route f of) into
resolved f (instr.Enter proc args into) = instr.Enter (known_route f proc) args into
resolved f (instr.Leave give) = instr.Leave give
resolved f (instr.P of) = instr.P (known_route f of)
resolved f (instr.V of) = instr.V (known_route f of)
resolved f instr.Yield = instr.Yield
resolved f (instr.SetReg reg to) = instr.SetReg reg (known_operand f to)
resolved f (instr.AddReg reg by) = instr.AddReg reg (known_operand f by)
resolved f (instr.Goto to) = instr.Goto to
resolved f (instr.IfEq left right to) = instr.IfEq (known_operand f left) (known_operand f right) to
resolved f (instr.IfLess left right to) = instr.IfLess (known_operand f left) (known_operand f right) to
resolved f (instr.IfDenied to) = instr.IfDenied to

-- all pieces but the last
abbrev pub without_last : List Piece → List Piece
without_last [] = []
without_last (p ∷ []) = []
without_last (p ∷ q ∷ more) = p ∷ without_last (q ∷ more)

-- the pieces without the register that takes a word reply, which stands last where there is one
abbrev pub without_register : Option ℕ → List Piece → List Piece
without_register (Some reg) pieces = without_last pieces
without_register None pieces = pieces

-- the text of the call is that of the instruction with its operands resolved, without its register
abbrev pub HasTextOf : Frame → Instr → Call → Type 0
HasTextOf f i c = call_pieces c ≡ without_register (target_register i) (written_pieces (written_of (resolved f i)))
