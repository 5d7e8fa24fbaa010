-- The items of a script as lines of pieces. docs/FORMATS.md, "Grammar".
use Rattle.std.specs.Prelude.{Bool, true, false, List, [], ◌∷◌, ◌++◌, map, if◌then◌else◌}
use Rattle.std.specs.List.{flat_map}
use Rattle.hk_format.specs.declared.syntax.Verb.TheVariants as verb
use Rattle.hk_format.specs.declared.syntax.MakingText.{MakingText}
use Rattle.hk_format.specs.declared.syntax.MakingText.TheVariants as making
use Rattle.hk_format.specs.declared.syntax.Written.{Written}
use Rattle.hk_format.specs.declared.syntax.Written.TheVariants as written
use Rattle.hk_format.specs.declared.syntax.Head.{Head}
use Rattle.hk_format.specs.declared.syntax.Head.TheVariants.{LimitIs, TypeIs, ObjectIs, SemaphoreIs, ProcedureIs, CodeIs, ProcessIs}
use Rattle.hk_format.specs.declared.syntax.Body.{Body}
use Rattle.hk_format.specs.declared.syntax.Body.TheVariants.{WordsAre, EmptyEntry, CapEntry, AmplifyEntry, CreateEntry, ParamIs, LabelIs, StepIs}
use Rattle.hk_format.specs.declared.syntax.Part.{Part}
use Rattle.hk_format.specs.declared.syntax.Item.{Item}
use Rattle.hk_format.specs.Pieces.{Piece, Word, Number}
use Rattle.hk_format.specs.Verbs.{verb_piece}
use Rattle.hk_format.specs.Operands.{register_piece, slot_piece, optional_slot, argument_pieces, operand_piece, route_piece, type_piece, rights_piece}

-- `amplify CHECK GIVE` or `create GIVE`
abbrev pub making_text_pieces : MakingText → List Piece
making_text_pieces (making.Amplify check give) = verb_piece verb.Amplify ∷ rights_piece check ∷ rights_piece give ∷ []
making_text_pieces (making.Create give) = verb_piece verb.Create ∷ rights_piece give ∷ []

-- an instruction: its word, its path, its operands in order; one that takes a word reply has its register last
abbrev pub written_pieces : Written → List Piece
written_pieces (written.Get of at reg) = verb_piece verb.GetData ∷ route_piece of ∷ operand_piece at ∷ register_piece reg ∷ []
written_pieces (written.Put of at word) = verb_piece verb.PutData ∷ route_piece of ∷ operand_piece at ∷ operand_piece word ∷ []
written_pieces (written.Add of word) = verb_piece verb.AddData ∷ route_piece of ∷ operand_piece word ∷ []
written_pieces (written.Length of reg) = verb_piece verb.Length ∷ route_piece of ∷ register_piece reg ∷ []
written_pieces (written.Load from into) = verb_piece verb.Load ∷ route_piece from ∷ slot_piece into ∷ []
written_pieces (written.Store list at from) = verb_piece verb.Store ∷ route_piece list ∷ operand_piece at ∷ slot_piece from ∷ []
written_pieces (written.Append list from) = verb_piece verb.Append ∷ route_piece list ∷ slot_piece from ∷ []
written_pieces (written.Erase list at) = verb_piece verb.Erase ∷ route_piece list ∷ operand_piece at ∷ []
written_pieces (written.Drop slot) = verb_piece verb.Drop ∷ slot_piece slot ∷ []
written_pieces (written.Restrict slot keep) = verb_piece verb.Restrict ∷ slot_piece slot ∷ rights_piece keep ∷ []
written_pieces (written.Look of reg) = verb_piece verb.Look ∷ route_piece of ∷ register_piece reg ∷ []
written_pieces (written.MakeTemplate of kind into) = verb_piece verb.Template ∷ route_piece of ∷ (making_text_pieces kind ++ slot_piece into ∷ [])
written_pieces (written.Create by into) = verb_piece verb.Create ∷ route_piece by ∷ slot_piece into ∷ []
written_pieces (written.Merge with cap into) = verb_piece verb.Merge ∷ route_piece with ∷ slot_piece cap ∷ slot_piece into ∷ []
written_pieces (written.Copy of into) = verb_piece verb.Copy ∷ route_piece of ∷ slot_piece into ∷ []
written_pieces (written.Enter proc args into) = verb_piece verb.Call ∷ route_piece proc ∷ argument_pieces args into
written_pieces (written.Leave give) = verb_piece verb.Return ∷ optional_slot give
written_pieces (written.P of) = verb_piece verb.P ∷ route_piece of ∷ []
written_pieces (written.V of) = verb_piece verb.V ∷ route_piece of ∷ []
written_pieces written.Yield = verb_piece verb.Yield ∷ []
written_pieces (written.SetReg reg to) = verb_piece verb.Set ∷ register_piece reg ∷ operand_piece to ∷ []
written_pieces (written.AddReg reg by) = verb_piece verb.Add ∷ register_piece reg ∷ operand_piece by ∷ []
written_pieces (written.Goto to) = verb_piece verb.Goto ∷ Word to ∷ []
written_pieces (written.IfEq left right to) = verb_piece verb.IfEq ∷ operand_piece left ∷ operand_piece right ∷ Word to ∷ []
written_pieces (written.IfLess left right to) = verb_piece verb.IfLess ∷ operand_piece left ∷ operand_piece right ∷ Word to ∷ []
written_pieces (written.IfDenied to) = verb_piece verb.IfDenied ∷ Word to ∷ []

-- a line inside an item
abbrev pub body_pieces : Body → List Piece
body_pieces (WordsAre words) = verb_piece verb.Words ∷ map Number words
body_pieces EmptyEntry = verb_piece verb.Empty ∷ []
body_pieces (CapEntry object rights) = verb_piece verb.Cap ∷ type_piece object ∷ rights_piece rights ∷ []
body_pieces (AmplifyEntry kind check give) = verb_piece verb.Amplify ∷ type_piece kind ∷ rights_piece check ∷ rights_piece give ∷ []
body_pieces (CreateEntry of give) = verb_piece verb.Create ∷ type_piece of ∷ rights_piece give ∷ []
body_pieces (ParamIs kind check give) = verb_piece verb.Param ∷ type_piece kind ∷ rights_piece check ∷ rights_piece give ∷ []
body_pieces (LabelIs label) = verb_piece verb.Label ∷ Word label ∷ []
body_pieces (StepIs step) = written_pieces step

-- the first line of an item
abbrev pub head_pieces : Head → List Piece
head_pieces (LimitIs n) = verb_piece verb.Limit ∷ Number n ∷ []
head_pieces (TypeIs name) = verb_piece verb.Type ∷ Word name ∷ []
head_pieces (ObjectIs name of) = verb_piece verb.Object ∷ Word name ∷ type_piece of ∷ []
head_pieces (SemaphoreIs name count) = verb_piece verb.Semaphore ∷ Word name ∷ Number count ∷ []
head_pieces (ProcedureIs name code) = verb_piece verb.Procedure ∷ Word name ∷ Word code ∷ []
head_pieces (CodeIs name) = verb_piece verb.Code ∷ Word name ∷ []
head_pieces (ProcessIs name code) = verb_piece verb.Process ∷ Word name ∷ Word code ∷ []

-- objects, procedures, codes and processes have lines of their own, and then the line `end`
abbrev pub has_parts : Head → Bool
has_parts (LimitIs n) = false
has_parts (TypeIs name) = false
has_parts (ObjectIs name of) = true
has_parts (SemaphoreIs name count) = false
has_parts (ProcedureIs name code) = true
has_parts (CodeIs name) = true
has_parts (ProcessIs name code) = true

-- `end`
abbrev pub end_line : List Piece
end_line = verb_piece verb.End ∷ []

-- the lines behind the head
abbrev pub part_lines : Item → List (List Piece)
part_lines item = if has_parts item.head then map (λ (p : Part). body_pieces p.body) item.parts ++ end_line ∷ [] else []

-- all lines of an item
abbrev pub item_lines : Item → List (List Piece)
item_lines item = head_pieces item.head ∷ part_lines item

-- `hydra 1`
abbrev pub header_line : List Piece
header_line = verb_piece verb.Hydra ∷ Number 1 ∷ []

-- the header, and the lines of the items in their order
abbrev pub script_lines : List Item → List (List Piece)
script_lines items = header_line ∷ flat_map item_lines items
